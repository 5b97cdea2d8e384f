-- Which stations go by age (IEEE 802.1D-2004, 7.9.2), and which when ports are flushed (17.11), and in what order.
use Rattle.std.specs.Prelude.{◌≡◌, ◌≢◌, ◌<◌, ℕ}
use Rattle.mac_arena.specs.Learning.{Learning}
use Rattle.mac_arena.specs.Laws.{unpinned_on}

-- the unpinned stations at other ports are still there, in their order
abbrev pub AreKept : Learning → Learning → ℕ → Type 0
AreKept t u port = (q : ℕ) → 0 < q → q ≢ port → unpinned_on u q ≡ unpinned_on t q
