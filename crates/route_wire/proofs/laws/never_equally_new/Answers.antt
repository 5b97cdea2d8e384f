use Rattle.route_wire.specs.Inner.Totals.{neither_newer}
use Rattle.route_wire.proofs.laws.never_equally_new.Goals as goal

pub returns : goal.returns
returns c = λ u v r a b. let s = neither_newer u.value v.value a b in λ i. record { register = r i; value = s i }
