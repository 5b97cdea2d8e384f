-- A frame that an edge takes on, or refuses beyond the storm limit of its port.
use Rattle.std.specs.Prelude.{◌≡◌, ℕ, true, false, Result, Ok, Err}
use Rattle.ev_edge.specs.declared.refusal.Refusal.{Refusal}
use Rattle.ev_edge.specs.declared.refusal.Refusal.TheVariants.{Edge as OfEdge}
use Rattle.ev_edge.specs.declared.refusal.EdgeRefusal.TheVariants.{PortStorm}
use Rattle.ev_edge.specs.Edge.{Edge}
use Rattle.ev_edge.specs.Storms.{is_stormy, taking_on}

abbrev pub TakesOn : ℕ → ℕ → ℕ → Edge → Result (Unit {0}) Refusal → Edge → Type 0
TakesOn port vni destination e (Ok done) e' =
    (is_stormy e port vni destination ≡ false) × (e' ≡ taking_on e port vni destination)
TakesOn port vni destination e (Err r) e' =
    (is_stormy e port vni destination ≡ true) × (r ≡ OfEdge (PortStorm port)) × (e' ≡ e)
