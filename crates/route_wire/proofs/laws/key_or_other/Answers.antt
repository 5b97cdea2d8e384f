use Rattle.std.proofs.Common.{inl, inr}
use Rattle.std.proofs.lemmas.Bool.{cases_Bool}
use Rattle.std.specs.Cmp.{tied_itself}
use Rattle.std.specs.Ordering.{is_eq}
use Rattle.route_wire.specs.Order.{key_cmp}
use Rattle.route_wire.specs.Inner.Totals.{key_total, key_exact}
use Rattle.route_wire.specs.Inner.Ties.{equal_from}
use Rattle.route_wire.proofs.laws.key_or_other.Goals as goal

pub returns : goal.returns
returns c = λ k j. elim (cases_Bool (is_eq (key_cmp k j))) [
  | inl e ↦ inl (key_exact k j (equal_from (key_cmp k j) e))
  | inr e ↦ inr (λ same. let t = tied_itself key_total k in cc)
]
