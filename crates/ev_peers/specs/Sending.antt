-- How a worker sends the datagrams that come to it for its link.
use Rattle.std.specs.Prelude.{◌≡◌, ◌⊎◌, ℕ, ◌+◌, List, [], ◌∷◌, Option}
use Rattle.ev_links.specs.Links.{Packet}
use Rattle.ev_links.specs.Coming.{behind, DoesAll, DoesAllToTheEnd}
use Rattle.ev_peers.specs.Working.{most_failures}

-- the datagrams that a link has sent, and the number of its failures
pub record Gone : Type 0 where
  pub sent : Option (List Packet)
  pub failed : ℕ

abbrev pub gone : Option (List Packet) → ℕ → Gone
gone sent failed = record { sent = sent; failed = failed }

-- a datagram was sent, or lost in a call that failed
abbrev pub Sends : Gone → Packet → Gone → Type 0
Sends s p s' =
    ((s'.sent ≡ behind s.sent (p ∷ [])) × (s'.failed ≡ s.failed))
    ⊎ ((s'.sent ≡ s.sent) × (s'.failed ≡ s.failed + 1))

-- a worker sent each datagram that came for its link, or lost it in a failed call, to the end, unless the link had
-- failed as often as it can
abbrev pub OutEnds : Option (List (Option Packet)) → Gone → Option (List (Option Packet)) → Gone → Type 0
OutEnds came s came' s' =
    DoesAllToTheEnd Sends came s came' s'
    ⊎ (DoesAll Sends came s came' s' × (s'.failed ≡ most_failures))
