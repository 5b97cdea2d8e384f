-- The statements of the laws on edges that are away.
use Rattle.std.specs.Prelude.{◌≡◌, ℕ, true, false, not, Some, None, Bool, Result, Ok, Err, List, [], ◌∷◌, filter}
use Rattle.std.specs.Prelude.{Contains}
use Rattle.std.specs.Option.{ForSome}
use Rattle.route_join.specs.Flood.{flood_of}
use Rattle.route_join.specs.Owner.{owner}
use Rattle.ev_tunnel.specs.declared.decision.Decision.{Decision}
use Rattle.ev_tunnel.specs.declared.decision.Source.{Source}
use Rattle.ev_tunnel.specs.declared.decision.Source.TheVariants.{Port}
use Rattle.ev_tunnel.specs.Decision.{is_up, up_edges, open_ports, others_of, local_of, remote_of}
use Rattle.ev_tunnel.specs.Place.{place_of}
use Rattle.ev_edge.specs.declared.event.Event.{Event}
use Rattle.ev_edge.specs.declared.event.Event.TheVariants as events
use Rattle.ev_edge.specs.declared.refusal.Refusal.{Refusal}
use Rattle.ev_edge.specs.declared.reply.Reply.{Reply}
use Rattle.ev_edge.specs.Edge.{Edge, IsGoodEdge, table_of, address_of}
use Rattle.ev_edge.specs.Sending.{IsDecision, port_of}
use Rattle.ev_edge.specs.Steps.{Steps}
use Rattle.ev_edge.specs.Laws.{decision_in}

-- ---- where no frame goes

-- no decision of an edge names an edge that is away
abbrev pub GivesNoneAway : Type 0
GivesNoneAway = (e e' : Edge) (event : Event) (result : Result Reply Refusal) → Steps e event result e'
    → ForSome (decision_in result) (λ d. (o : ℕ) → Contains d.remote.items o → is_up e.away o ≡ true)

-- ---- what an edge that is away owned

-- The decision over these sets of ports is that for a destination that no edge owns: only to the port where it is
-- learnt, or else to all.
pub record IsUnownedDecision (e : Edge) (vni destination : ℕ) (from : Source) (members passing : ℕ) (d : Decision) :
    Type 0 where
  pub local : d.local ≡ local_of (place_of destination (port_of e vni destination) None (address_of e)) from
      (record { members = members; passing = passing })
  pub remote : d.remote.items ≡ remote_of (place_of destination (port_of e vni destination) None (address_of e)) from
      (up_edges e.away (flood_of (table_of e) vni)) (address_of e)
  pub to_all_ports : port_of e vni destination ≡ None
      → d.local ≡ open_ports from (record { members = members; passing = passing })
  pub to_all_edges : port_of e vni destination ≡ None → (p : ℕ) → from ≡ Port p
      → d.remote.items ≡ others_of (address_of e) (up_edges e.away (flood_of (table_of e) vni))

abbrev pub FloodsForAway : Type 0
FloodsForAway = (e : Edge) (vni destination o : ℕ) (from : Source) (d : Decision)
    → owner (table_of e) vni destination ≡ Some o → is_up e.away o ≡ false → (is : IsDecision e vni destination from d)
    → IsUnownedDecision e vni destination from is.members is.passing d

-- ---- away and back

-- an edge that goes away and comes back leads to the edge that was there, if it wasn't away before
abbrev pub ComesBack : Type 0
ComesBack = (e mid e' : Edge) (a : ℕ) (first second : Result Reply Refusal) → IsGoodEdge e → is_up e.away a ≡ true
    → Steps e (events.Away a) first mid → Steps mid (events.Back a) second e' → e' ≡ e

-- the edge as it is while no edge is away
abbrev pub with_all_up : Edge → Edge
with_all_up e = record e { away = [] }

-- the answers are the same, but for the decision
abbrev pub SameButDecision : Result Reply Refusal → Result Reply Refusal → Type 0
SameButDecision (Ok a) (Ok b) = record a { decision = None } ≡ record b { decision = None }
SameButDecision (Ok a) (Err s) = ⊥
SameButDecision (Err r) (Ok b) = ⊥
SameButDecision (Err r) (Err s) = r ≡ s

-- an edge goes away, or is back
abbrev pub is_mark : Event → Bool
is_mark (events.Frame port octets) = false
is_mark (events.TunnelFrame from octets) = false
is_mark (events.Take u) = false
is_mark (events.Pin s port) = false
is_mark (events.Unpin s) = false
is_mark (events.Thaw s) = false
is_mark events.Second = false
is_mark (events.PortUp port) = false
is_mark (events.PortDown port) = false
is_mark (events.Mcheck port) = false
is_mark events.Announce = false
is_mark (events.Away a) = true
is_mark (events.Back a) = true

-- The edge with all others up may take the same step: the answers differ in the decision at most, and so do the edges
-- afterwards in who is away.
pub record StepsAlike (e : Edge) (event : Event) (result : Result Reply Refusal) (e' : Edge) : Type 0 where
  pub answer : Result Reply Refusal
  pub alike : SameButDecision result answer
  pub steps : Steps (with_all_up e) event answer (with_all_up e')

-- but for the list of those that are away, no event depends on it
abbrev pub DependsNotOnAway : Type 0
DependsNotOnAway = (e e' : Edge) (event : Event) (result : Result Reply Refusal) → is_mark event ≡ false
    → Steps e event result e' → (e'.away ≡ e.away) × StepsAlike e event result e'

-- and an edge that goes away or comes back changes nothing else
abbrev pub MarksOnlyAway : Type 0
MarksOnlyAway = (e e' : Edge) (event : Event) (result : Result Reply Refusal) → is_mark event ≡ true
    → Steps e event result e' → with_all_up e' ≡ with_all_up e

-- ---- runs

-- an event that was entered, and its answer
abbrev pub Entered : Type 0
Entered = Event × Result Reply Refusal

-- these events, one after the other, with these answers
abbrev pub EdgeRuns : Edge → List Entered → Edge → Type 0
EdgeRuns old [] new = new ≡ old
EdgeRuns old (x ∷ run) new = (mid : Edge) × Steps old x.0 x.1 mid × EdgeRuns mid run new

-- the run without edges that go away or come back
abbrev pub without_marks : List Entered → List Entered
without_marks run = filter (λ x. not (is_mark x.0)) run

-- the same events with the same answers, but for the decisions
abbrev pub AreAlike : List Entered → List Entered → Type 0
AreAlike [] [] = Unit {0}
AreAlike [] (y ∷ ys) = ⊥
AreAlike (x ∷ xs) [] = ⊥
AreAlike (x ∷ xs) (y ∷ ys) = (y.0 ≡ x.0) × SameButDecision x.1 y.1 × AreAlike xs ys

-- If no edge is away at the beginning of a run and at its end, the run without those that went away and came back leads
-- to the very same edge, with the same answers, but for the decisions in between.
abbrev pub AsIfNeverAway : Type 0
AsIfNeverAway = (run : List Entered) (e e' : Edge) → EdgeRuns e run e' → e.away ≡ [] → e'.away ≡ []
    → (others : List Entered) × AreAlike (without_marks run) others × EdgeRuns e others e'
