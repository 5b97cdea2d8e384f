-- Refused records of connections: each fault and each refusal is reported once.
use Rattle.std.specs.Prelude.{ℕ, ◌+◌, Bool, false, not, ◌&&◌, ◌==◌, nat_lt, if◌then◌else◌, List, [], ◌∷◌, ◌++◌, length}
use Rattle.std.specs.Prelude.{Option, slice_get}
use Rattle.std.specs.List.{list_any}
use Rattle.ev_mailboxes.specs.declared.records.Refused.{Refused}
use Rattle.ev_mailboxes.specs.declared.records.Refused.TheVariants.{Record, Unlisted, Outlived, OwnOutlived}

-- The refusals that came, the first one first; and the number of them that were taken.
pub record RefusalsState : Type 0 where
  pub came : List Refused
  pub told : ℕ

abbrev pub refusals_of : List Refused → ℕ → RefusalsState
refusals_of came told = record { came = came; told = told }

abbrev pub no_refusals : RefusalsState
no_refusals = refusals_of [] 0

abbrev pub is_same : Refused → Refused → Bool
is_same (Record number) (Record other) = number == other
is_same (Unlisted originator) (Unlisted other) = originator == other
is_same (Outlived originator) (Outlived other) = originator == other
is_same (OwnOutlived originator) (OwnOutlived other) = originator == other
is_same _ _ = false

-- The number of refusals before which this one has a place. Any number of originators may be unlisted: they leave
-- places for all other refusals.
abbrev pub places : Refused → ℕ
places (Record number) = 512
places (Unlisted originator) = 64
places (Outlived originator) = 512
places (OwnOutlived originator) = 512

-- this refusal hasn't come yet, and it has a place
abbrev pub is_new : Refused → RefusalsState → Bool
is_new refused r = nat_lt (length r.came) (places refused) && not (list_any (is_same refused) r.came)

abbrev pub after_refusal : Refused → RefusalsState → RefusalsState
after_refusal refused r = if is_new refused r then refusals_of (r.came ++ refused ∷ []) r.told else r

-- the first refusal that wasn't taken
abbrev pub first_refusal : RefusalsState → Option Refused
first_refusal r = slice_get r.came r.told

abbrev pub after_told : RefusalsState → RefusalsState
after_told r = if nat_lt r.told (length r.came) then refusals_of r.came (r.told + 1) else r
