-- Edges that are away: their sessions have been down for too long. That an edge gives them no frame is a rule of this
-- project, and not of RFC 7432 or RFC 8365.
use Rattle.std.specs.Prelude.{ℕ, ◌==◌, ◌||◌, not, List, filter}
use Rattle.ev_tunnel.specs.Decision.{is_away}

-- the originators that are away once this one is, too
abbrev pub with_away : List ℕ → List ℕ → ℕ → List ℕ
with_away originators away a = filter (λ o. o == a || is_away away o) originators

-- the edges that are away once this one is back
abbrev pub with_back : List ℕ → ℕ → List ℕ
with_back away a = filter (λ o. not (o == a)) away
