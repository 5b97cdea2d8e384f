-- The statements of the laws on the storm limits of ports.
use Rattle.std.specs.Prelude.{◌≡◌, ◌⊎◌, ℕ, ◌+◌, ◌*◌, ◌<◌, ◌≤◌, ◌==◌, Bool, true, false, Option, Some, None, Result}
use Rattle.std.specs.Prelude.{Ok, Err}
use Rattle.std.specs.Prelude.{List, [], ◌∷◌, if◌then◌else◌}
use Rattle.ev_edge.specs.declared.arrival.Arrival.{Arrival}
use Rattle.ev_edge.specs.declared.arrival.Arrival.TheVariants.{Dropped, Message, Data}
use Rattle.ev_edge.specs.declared.event.Event.{Event}
use Rattle.ev_edge.specs.declared.event.Event.TheVariants as events
use Rattle.ev_edge.specs.declared.refusal.Refusal.{Refusal}
use Rattle.ev_edge.specs.declared.reply.Reply.{Reply}
use Rattle.ev_edge.specs.Edge.{Edge}
use Rattle.ev_edge.specs.Arrival.{port_arrival, frame_arrival}
use Rattle.ev_edge.specs.Storms.{storm_at, is_flooded, taking_on}
use Rattle.ev_edge.specs.Steps.{Steps}
use Rattle.ev_edge.specs.AwayLaws.{Entered}

-- ---- frames that a limit doesn't concern

-- the octets are a frame whose destination is a group address or unknown
abbrev pub floods : Edge → Result Arrival Refusal → Bool
floods e (Err r) = false
floods e (Ok Dropped) = false
floods e (Ok (Message b)) = false
floods e (Ok (Data vni destination source)) = is_flooded e vni destination

-- at a port without a limit, and for octets that aren't such a frame, the limit changes nothing: a BPDU and a frame for
-- a known station are never dropped for it
abbrev pub StormsSpare : Type 0
StormsSpare = (e : Edge) (port : ℕ) (octets : List ℕ)
    → ((storm_at e.storms port).limit ≡ None) ⊎ (floods e (port_arrival e port octets) ≡ false)
    → frame_arrival e port octets ≡ port_arrival e port octets

-- and nothing is counted
abbrev pub StormsCountNone : Type 0
StormsCountNone = (e : Edge) (port vni destination : ℕ)
    → ((storm_at e.storms port).limit ≡ None) ⊎ (is_flooded e vni destination ≡ false)
    → taking_on e port vni destination ≡ e

-- no event changes the storm limit of a port
abbrev pub KeepsStormLimits : Type 0
KeepsStormLimits = (e e' : Edge) (event : Event) (result : Result Reply Refusal) (port : ℕ) → Steps e event result e'
    → (storm_at e'.storms port).limit ≡ (storm_at e.storms port).limit

-- ---- how many group and unknown frames the edge takes on from a port

-- one, if the edge takes on a group or unknown frame at the port with this event
abbrev pub taken_at : ℕ → Edge → Event → ℕ
taken_at p e (events.Frame port octets) =
    if port == p then (if floods e (frame_arrival e port octets.now) then 1 else 0) else 0
taken_at p e (events.TunnelFrame from octets) = 0
taken_at p e (events.Take u) = 0
taken_at p e (events.Pin s port) = 0
taken_at p e (events.Unpin s) = 0
taken_at p e (events.Thaw s) = 0
taken_at p e events.Second = 0
taken_at p e (events.PortUp port) = 0
taken_at p e (events.PortDown port) = 0
taken_at p e (events.Mcheck port) = 0
taken_at p e events.Announce = 0
taken_at p e (events.Away a) = 0
taken_at p e (events.Back a) = 0

-- these events, one after the other, with these answers; the edge takes on n group and unknown frames at the port
abbrev pub TakesOnAll : ℕ → Edge → List Entered → Edge → ℕ → Type 0
TakesOnAll port old [] new n = (new ≡ old) × (n ≡ 0)
TakesOnAll port old (x ∷ run) new n =
    (mid : Edge) × Steps old x.0 x.1 mid × (later : ℕ) × TakesOnAll port mid run new later
    × (n ≡ taken_at port old x.0 + later)

-- In less than this number of seconds the edge takes on at most as many group and unknown frames at a port as the limit
-- allows in a second, for each of the seconds.
abbrev pub StormsAreFew : Type 0
StormsAreFew =
    (run : List Entered) (e e' : Edge) (port limit seconds n : ℕ) → 0 < port
    → (storm_at e.storms port).limit ≡ Some limit → TakesOnAll port e run e' n → e'.clock < e.clock + seconds
    → n ≤ seconds * limit
