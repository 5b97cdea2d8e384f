-- An input that is read whole.
use Rattle.std.specs.Prelude.{◌≡◌, ℕ, ◌⊎◌, ◌+◌, ◌^◌, ◌≤◌, List, length, Result, Ok, Err}
use Rattle.std.specs.Global.{Vec}
use Rattle.std.specs.List.{concat}
use Rattle.ether_wire.specs.Ends.{Source}
use Rattle.ev_report.specs.declared.ending.Ending.TheVariants.{Ended, Failed, Unended}
use Rattle.ev_report.specs.declared.input.ReadError.{ReadError}
use Rattle.ev_report.specs.declared.input.ReadError.TheVariants.{Device, NoMemory}
use Rattle.ev_report.specs.Ends.{Gives, EndsBy}

-- the octets, or why there are none
abbrev pub input_of : Result (Vec ℕ) ReadError → Result (List ℕ) ReadError
input_of (Ok octets) = Ok octets.items
input_of (Err unread) = Err unread

-- behind those pieces: the end; or a read failed, or there were 2^40; or there was no memory for the last piece
abbrev pub StopsBy : Source → Source → List (List ℕ) → Result (List ℕ) ReadError → Type 0
StopsBy old new pieces (Ok input) = EndsBy Ended old new pieces input
StopsBy old new pieces (Err Device) = EndsBy Failed old new pieces (concat pieces)
    ⊎ EndsBy Unended old new pieces (concat pieces)
StopsBy old new pieces (Err NoMemory) = new ≡ old

-- A reader was read up to its end, in at most 2^40 reads, or not.
pub record ReadsWhole (old new : Source) (result : Result (List ℕ) ReadError) : Type 0 where
  pub pieces : List (List ℕ)
  pub behind : Source
  pub gives : Gives old behind pieces
  pub stops : StopsBy behind new pieces result
  pub few : new.reads ≤ old.reads + 2 ^ 40

-- So many reads gave these octets.
pub record Gathers (turn : ℕ) (old new : Source) (input : List ℕ) : Type 0 where
  pub pieces : List (List ℕ)
  pub gives : Gives old new pieces
  pub many : length pieces ≡ turn
  pub is : input ≡ concat pieces
