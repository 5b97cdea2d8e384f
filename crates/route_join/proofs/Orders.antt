-- Lemmas on tests and orders.
use Rattle.std.proofs.Common.{◌≡◌, Bool, true, false, T, refl, sym, subst}
use Rattle.std.specs.declared.cmp.Ordering.{Ordering}
use Rattle.std.specs.declared.cmp.Ordering.TheVariants.{Less, Equal, Greater}
use Rattle.std.specs.Ordering.{is_lt}

pub less : (o : Ordering) → is_lt o ≡ true → o ≡ Less
less Less h = refl
less Equal h = cc
less Greater h = cc

pub to_T : (b : Bool) → b ≡ true → T b
to_T b e = subst T (sym e) tt

pub from_T : (b : Bool) → T b → b ≡ true
from_T true t = refl
from_T false t = absurd t
