-- The originators that a connection knows, each once and at most 64.
use Rattle.std.specs.Prelude.{ℕ, Bool, List, [], ◌∷◌, ◌++◌, length, nat_lt, not, ◌&&◌, eqb, if◌then◌else◌}
use Rattle.std.specs.List.{list_any}

-- the originator is none of these, and there are fewer than 64
abbrev pub is_new : List ℕ → ℕ → Bool
is_new known o = not (list_any (λ x. eqb x o) known) && nat_lt (length known) 64

-- with this originator, if it is new
abbrev pub after_meeting : List ℕ → ℕ → List ℕ
after_meeting known o = if is_new known o then known ++ o ∷ [] else known
