-- Texts that are written if no call of the writer has failed.
use Rattle.std.proofs.Common.{◌≡◌, ℕ, List, Bool, true, false, Result, Ok, Err, is_ok, refl, ap}
use Rattle.std.proofs.Common.{arith}
use Rattle.ether_wire.specs.declared.ends.Device.{Device}
use Rattle.ether_wire.specs.Ends.{End, Puts}
use Rattle.ev_report.specs.Ends.{Tells}

-- a call that is made, since no earlier call has failed
pub tells_put : (a b : End) (p : Bool) (text : List ℕ) (r : Result (Unit {0}) Device) → p ≡ true → Puts a b text r
    → Tells a b p (is_ok r) text
tells_put a b p text (Ok x) e h = record { kept = λ f. absurd (cc); written = λ t. h; failed = λ t f. absurd (cc) }
tells_put a b p text (Err d) e h = record { kept = λ f. absurd (cc); written = λ t. absurd (cc); failed = λ t f. h }

-- no call is made, since an earlier one has failed
pub tells_kept : (a : End) (p : Bool) (text : List ℕ) → p ≡ false → Tells a a p false text
tells_kept a p text e =
    record { kept = λ f. (refl, refl); written = λ t. absurd (cc); failed = λ t f. absurd (cc) }
