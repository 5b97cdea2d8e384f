-- How a worker handles the things that come to it.
use Rattle.std.specs.Prelude.{◌≡◌, ℕ, Bool, false, true, List, []}
use Rattle.std.specs.Prelude.{◌∷◌}
use Rattle.std.specs.Prelude.{Option, None}
use Rattle.ev_peers.specs.declared.workers.Inlet.{Inlet}
use Rattle.ev_links.specs.Links.{Call}
use Rattle.ev_links.specs.Coming.{behind}
use Rattle.ev_links.specs.Inner.Coming.{DoesOne}
use Rattle.ev_peers.specs.Working.{Hearing, Answers}

-- one turn of a worker: a call of its link was answered, or the link was at its end
abbrev pub TurnsOnce : Bool → ℕ → Inlet → Option (List (Option Call)) → Hearing → Option (List (Option Call)) → Hearing
    → Type 0
TurnsOnce true bridge source came h came' h' = DoesOne (Answers bridge source) came h came' h'
TurnsOnce false bridge source came h came' h' = (came' ≡ behind came (None ∷ [])) × (h' ≡ h)
