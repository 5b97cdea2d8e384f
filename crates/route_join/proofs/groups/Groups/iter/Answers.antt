use Rattle.std.proofs.Common.{true, refl}
use Rattle.route_join.proofs.Indexed.{are_there}
use Rattle.route_join.proofs.Afters.{all_kept}
use Rattle.route_join.proofs.groups.Groups.iter.Goals as goal

pub invariant_of-result : goal.invariant_of-result
invariant_of-result c = rw (c.range.ensures.between tt, all_kept (λ s. true) c.self.inside.order.keys (λ s. refl))
    (are_there c.self.invariant)

pub returns : goal.returns
returns c = rw (c.range.ensures.between tt, all_kept (λ s. true) c.self.inside.order.keys (λ s. refl)) c.self.view_is
