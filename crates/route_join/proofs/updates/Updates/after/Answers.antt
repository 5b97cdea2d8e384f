use Rattle.std.proofs.Common.{sym}
use Rattle.route_join.proofs.Afters.{after_in, groups_kept}
use Rattle.route_join.proofs.updates.Updates.after.Goals as goal

pub invariant_of-result : goal.invariant_of-result
invariant_of-result c = rw c.after.ensures (groups_kept c.subject_of.result c.args.groups.now c.requires)

pub returns : goal.returns
returns c = rw (c.rest_after.ensures, c.after.ensures, c.subject_of.ensures)
    (sym (after_in c.args.register.now c.args.groups.now c.requires))
