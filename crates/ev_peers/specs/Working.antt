-- How a worker handles the things that come to it.
use Rattle.std.specs.Prelude.{◌≡◌, ◌≢◌, ◌⊎◌, ℕ, ◌-◌, ◌^◌, nat_lt, Bool, false, true, if◌then◌else◌, List, []}
use Rattle.std.specs.Prelude.{◌∷◌, length}
use Rattle.std.specs.Prelude.{Option, Some, None, Result, Ok, Err}
use Rattle.vxlan_wire.specs.Vxlan.{instance_of}
use Rattle.vxlan_wire.specs.declared.vxlan.VxlanRefusal.{VxlanRefusal}
use Rattle.ev_edge.specs.declared.event.Event.{Event}
use Rattle.ev_edge.specs.declared.event.Event.TheVariants as events
use Rattle.ev_book.specs.Book.{PassState}
use Rattle.ev_peers.specs.declared.shared_edge.Ended.{Ended}
use Rattle.ev_peers.specs.declared.shared_edge.Ended.TheVariants.{End, Device as Failed, NoMemory}
use Rattle.ev_mailboxes.specs.Mail.{EdgeMessage}
use Rattle.ev_mailboxes.specs.declared.edge_message.EdgeMessage.TheVariants.{Record, Room, Ask}
use Rattle.ev_mailboxes.specs.declared.receptions.Input.{Input}
use Rattle.ev_mailboxes.specs.declared.receptions.Input.TheVariants as inputs
use Rattle.ev_mailboxes.specs.declared.receptions.Reception.{Reception}
use Rattle.ev_peers.specs.declared.workers.Inlet.{Inlet}
use Rattle.ev_peers.specs.declared.workers.Inlet.TheVariants.{Port, Tunnel, Clock}
use Rattle.ev_peers.specs.Forwarding.{Parcel}
use Rattle.ev_links.specs.Links.{Arrival, Call, brings, fails}
use Rattle.ev_peers.specs.Passing.{Said, says, hears, Announces, PassesOn}
use Rattle.ev_peers.specs.Control.{Answers as AnswersRequest}
use Rattle.ev_links.specs.Coming.{DoesAll, DoesAllToTheEnd}

-- ---- the event of a datagram

-- the event is a frame at this port, or a datagram of this edge, with these octets
abbrev pub IsFrame : ℕ → List ℕ → Event → Type 0
IsFrame port octets (events.Frame at frame) = (at ≡ port) × (frame.now ≡ octets)
IsFrame port octets _ = ⊥

abbrev pub IsTunnelFrame : ℕ → List ℕ → Event → Type 0
IsTunnelFrame from octets (events.TunnelFrame by datagram) = (by ≡ from) × (datagram.now ≡ octets)
IsTunnelFrame from octets _ = ⊥

-- the event of a datagram; an empty datagram has none, except at a clock
abbrev pub IsEventOf : Inlet → Arrival → Option Event → Type 0
IsEventOf Clock a event = event ≡ Some events.Second
IsEventOf (Port port vni) a None = a.octets ≡ []
IsEventOf (Port port vni) a (Some event) = (a.octets ≢ []) × IsFrame port a.octets event
IsEventOf Tunnel a None = a.octets ≡ []
IsEventOf Tunnel a (Some event) = (a.octets ≢ []) × IsTunnelFrame a.from a.octets event

-- a VNI and a frame, or VNI 0 and no octets if the frame has more than 9,018 octets
abbrev pub fitting : ℕ × List ℕ → ℕ × List ℕ
fitting carried = if nat_lt 9018 (length carried.1) then (0, []) else carried

abbrev pub unwrapped : Result (ℕ × List ℕ) VxlanRefusal → ℕ × List ℕ
unwrapped (Ok carried) = fitting carried
unwrapped (Err refusal) = (0, [])

-- the VNI and the frame that a datagram carries
abbrev pub carried : Inlet → List ℕ → ℕ × List ℕ
carried (Port port vni) octets = fitting (vni, octets)
carried Tunnel octets = unwrapped (instance_of octets)
carried Clock octets = (0, [])

-- ---- the handling of a datagram

-- a worker's pass, the parcels for links, and the messages to the other edges and the operator
pub record Standing : Type 0 where
  pub pass : PassState
  pub parcels : Option (List Parcel)
  pub records : Said

abbrev pub standing : PassState → Option (List Parcel) → Said → Standing
standing pass parcels records = record { pass = pass; parcels = parcels; records = records }

-- an event is entered once and passed on; if there is no event, nothing is done
abbrev pub Does : ℕ → ℕ × List ℕ → Standing → Option Event → Standing → Type 0
Does bridge carried s None s' = s' ≡ s
Does bridge carried s (Some event) s' = PassesOn bridge carried.0 carried.1 s.pass event s.parcels s.records s'.pass
    s'.parcels s'.records

-- the event of a datagram, if it has one, is entered once and passed on
pub record Handles (bridge : ℕ) (source : Inlet) (s : Standing) (a : Arrival) (s' : Standing) : Type 0 where
  pub event : Option Event
  pub is : IsEventOf source a event
  pub does : Does bridge (carried source a.octets) s event s'

-- announcements are requested and sent to the other edges; no parcel is passed to a link
abbrev pub Resumes : Standing → Standing → Type 0
Resumes s s' = Announces s.pass s.records s'.pass s'.records × (s'.parcels ≡ s.parcels)

-- an update of another edge is entered and passed on; if another edge has room again, announcements are requested; a
-- request is carried out once, and answered
abbrev pub Takes : ℕ → Standing → EdgeMessage → Standing → Type 0
Takes bridge s (Record u) s' = Does bridge (0, []) s (Some (events.Take u)) s'
Takes bridge s Room s' = Resumes s s'
Takes bridge s (Ask request) s' = AnswersRequest bridge request s.pass s.parcels s.records s'.pass s'.parcels s'.records

-- ---- a link that fails, and works again

-- the state of a worker, and whether the last call of its link brought a datagram
pub record Hearing : Type 0 where
  pub works : Bool
  pub at : Standing

abbrev pub hearing : Bool → Standing → Hearing
hearing works at = record { works = works; at = at }

-- the event that a port comes up or goes down
abbrev pub port_event : ℕ → Bool → Event
port_event port true = events.PortUp port
port_event port false = events.PortDown port

abbrev pub input_of : Inlet → Input
input_of (Port port vni) = inputs.Port port
input_of Tunnel = inputs.Tunnel
input_of Clock = inputs.Clock

-- the port of a port's link comes up or goes down; for other links nothing is done
abbrev pub Turns : ℕ → Inlet → Bool → Standing → Standing → Type 0
Turns bridge (Port port vni) works s s' = Does bridge (vni, []) s (Some (port_event port works)) s'
Turns bridge Tunnel works s s' = s' ≡ s
Turns bridge Clock works s s' = s' ≡ s

-- the message to the operator about a link
abbrev pub change_of : Inlet → Bool → Reception
change_of source works = record { input = input_of source; works = works }

-- the operator receives the message that a link works again or has failed, and the link's port comes up or goes down
abbrev pub Changes : ℕ → Inlet → Bool → Standing → Standing → Type 0
Changes bridge source works s s' =
    Turns bridge source works (standing s.pass s.parcels (says s.records (hears (change_of source works) ∷ []))) s'

-- this happens exactly if the link started or stopped failing with this call
abbrev pub Becomes : ℕ → Inlet → Bool → Bool → Standing → Standing → Type 0
Becomes bridge source true true s s' = s' ≡ s
Becomes bridge source true false s s' = Changes bridge source false s s'
Becomes bridge source false true s s' = Changes bridge source true s s'
Becomes bridge source false false s s' = s' ≡ s

abbrev pub has_brought : Call → Bool
has_brought (brings a) = true
has_brought fails = false

-- the datagram that a call brought is handled; a failed call brought none
abbrev pub HandlesCall : ℕ → Inlet → Standing → Call → Standing → Type 0
HandlesCall bridge source s (brings a) s' = Handles bridge source s a s'
HandlesCall bridge source s fails s' = s' ≡ s

-- One call of a worker's link. If the link started or stopped failing with this call, the operator receives a message
-- and the link's port comes up or goes down. Then the datagram that the call brought is handled.
pub record Answers (bridge : ℕ) (source : Inlet) (h : Hearing) (call : Call) (h' : Hearing) : Type 0 where
  pub works : h'.works ≡ has_brought call
  pub turned : Standing
  pub becomes : Becomes bridge source h.works (has_brought call) h.at turned
  pub handles : HandlesCall bridge source turned call h'.at

-- ---- a worker

-- how a worker ends whose link had failed `before` times at its start and `after` times at its end
abbrev pub ended_of : ℕ → ℕ → Ended
ended_of before after = if nat_lt before after then Failed else End

-- the most failures of a link
abbrev pub most_failures : ℕ
most_failures = 2 ^ 64 - 1

-- the worker answered all calls of its link, to the link's end, unless the link had failed as often as it can
abbrev pub Hears : ℕ → Inlet → ℕ → Option (List (Option Call)) → Hearing → Option (List (Option Call)) → Hearing
    → Type 0
Hears bridge source failed came h came' h' =
    DoesAllToTheEnd (Answers bridge source) came h came' h'
    ⊎ (DoesAll (Answers bridge source) came h came' h' × (failed ≡ most_failures))

-- A link works at the beginning. Failures and refused memory end no worker.
pub record Ends (bridge : ℕ) (source : Inlet) (failed : ℕ) (came : Option (List (Option Call))) (s : Standing)
    (came' : Option (List (Option Call))) (s' : Standing) : Type 0 where
  pub works : Bool
  pub hears : Hears bridge source failed came (hearing true s) came' (hearing works s')

-- A port's worker brings its port up, and then answers all calls of its link.
pub record PortEnds (bridge port vni failed : ℕ) (came : Option (List (Option Call))) (s : Standing)
    (came' : Option (List (Option Call))) (s' : Standing) : Type 0 where
  pub up : Standing
  pub comes_up : Turns bridge (Port port vni) true s up
  pub ends : Ends bridge (Port port vni) failed came up came' s'

-- a worker of other edges' updates took all messages that came, to the end; it has no link
abbrev pub PeerEnds : Ended → ℕ → List (Option EdgeMessage) → Standing → List (Option EdgeMessage) → Standing → Type 0
PeerEnds End bridge came s came' s' = DoesAllToTheEnd (Takes bridge) (Some came) s (Some came') s'
PeerEnds Failed bridge came s came' s' = ⊥
PeerEnds NoMemory bridge came s came' s' = ⊥
