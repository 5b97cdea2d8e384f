-- The storm limits of ports: what counting leaves as it was.
use Rattle.std.proofs.Common.{◌≡◌, ℕ, ◌≤◌, List, length}
use Rattle.std.specs.Prelude.{slice_set}
use Rattle.std.proofs.Math.Seq.{set_out}
use Rattle.ev_edge.specs.declared.storms.Storm.{Storm}

-- nothing is counted at a port that isn't there
pub taken_out : (storms : List Storm) (l : ℕ) (s : Storm) → length storms ≤ l → slice_set storms l s ≡ storms
taken_out storms l s past = set_out storms l s past
