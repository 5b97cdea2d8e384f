-- The effect of an event of the bridge on an edge (IEEE 802.1D-2004, 17.11 for flushes, and 7.9.2 for ageing).
use Rattle.std.specs.Prelude.{◌≡◌, ◌⊎◌, ◌↔◌, ℕ, true}
use Rattle.ether_wire.specs.Ports.{has_port}
use Rattle.rstp_run.specs.Events.{Passes}
use Rattle.rstp_run.specs.Rules.{Tree}

-- one port more of those that pass
abbrev pub AddsPassing : Tree → ℕ → ℕ → ℕ → Type 0
AddsPassing tree set port more = (p : ℕ) → (has_port more p ≡ true)
    ↔ ((has_port set p ≡ true) ⊎ ((port ≡ p) × Passes tree p))
