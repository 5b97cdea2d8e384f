use Rattle.std.proofs.Common.{ap, ◌∙◌, arith}
use Rattle.route_join.specs.Inner.PackedUpdate.{ip_by}
use Rattle.route_join.proofs.Entries.{is_entry}
use Rattle.route_join.proofs.packed_update.PackedUpdate.of.Goals as goal

pub invariant_of-result : goal.invariant_of-result
invariant_of-result c = rw c.of.ensures
    (is_entry _ _ _ c.ip_numbers-version.ensures.small c.content_numbers-kind.ensures.kind
    c.content_numbers-kind.ensures.label c.args.update.now c.register-originator.result c.value-value.result _ _
    c.register-originator.ensures c.value-value.ensures
    (ap (ip_by c.ip_numbers-version.result.0) (omega arith) ∙ c.ip_numbers-version.ensures.back)
    c.content_numbers-kind.ensures.back c.always_well_formed.ensures)
