-- The changes of an edge's links that wait for the operator: receiving failed, or works again.
use Rattle.std.specs.Prelude.{ℕ, Bool, List, [], ◌∷◌, ◌++◌, length, drop, ◌==◌, nat_lt, if◌then◌else◌, Option}
use Rattle.std.specs.Prelude.{Some, None}
use Rattle.ev_mailboxes.specs.declared.receptions.Reception.{Reception}
use Rattle.ev_mailboxes.specs.Board.{one_more}

-- The waiting changes, the first one first; and the number of changes without a place.
pub record ReceptionsState : Type 0 where
  pub waiting : List Reception
  pub untold : ℕ

abbrev pub receptions_of : List Reception → ℕ → ReceptionsState
receptions_of waiting untold = record { waiting = waiting; untold = untold }

abbrev pub no_receptions : ReceptionsState
no_receptions = receptions_of [] 0

-- fewer than 128 changes wait
abbrev pub has_place : ReceptionsState → Bool
has_place r = nat_lt (length r.waiting) 128

-- the change waits after the others, or is only counted
abbrev pub after_reception : Reception → ReceptionsState → ReceptionsState
after_reception new r = if has_place r then receptions_of (r.waiting ++ new ∷ []) r.untold
    else receptions_of r.waiting (one_more r.untold)

abbrev pub first_of : List Reception → Option Reception
first_of [] = None
first_of (first ∷ rest) = Some first

abbrev pub first_reception : ReceptionsState → Option Reception
first_reception r = first_of r.waiting

abbrev pub after_first : ReceptionsState → ReceptionsState
after_first r = receptions_of (drop 1 r.waiting) r.untold

-- the number of changes without a place, if there are any
abbrev pub untold : ReceptionsState → Option ℕ
untold r = if r.untold == 0 then None else Some r.untold

abbrev pub after_untold : ReceptionsState → ReceptionsState
after_untold r = receptions_of r.waiting 0
