use Rattle.route_join.specs.Subject.{subject_cmp}
use Rattle.route_join.proofs.Indexed.{are_there}
use Rattle.route_join.proofs.Afters.{is_after, groups_along_after, there_where}
use Rattle.route_join.proofs.groups.Groups.after.Goals as goal

pub invariant_of-result : goal.invariant_of-result
invariant_of-result c = rw (c.range.ensures.between tt) (there_where (is_after subject_cmp c.args.subject.now)
    c.self.inside.order.keys c.self.inside.index.entries (are_there c.self.invariant))

pub returns : goal.returns
returns c = rw (
  c.range.ensures.between tt,
  groups_along_after c.args.subject.now c.self.inside.order.keys
      c.self.inside.index.entries,
  c.self.view_is,
)
