-- Datagrams that come over a link, and datagrams that are sent over one.
use Rattle.std.specs.Prelude.{ℕ, Bool, List, [], ◌∷◌, take, Option, Some, None, Result, Ok, Err}
use Rattle.ether_wire.specs.declared.ends.Device.{Device}

-- a received datagram: its sender's address and its octets
pub record Arrival : Type 0 where
  pub from : ℕ
  pub octets : List ℕ

abbrev pub arrival : ℕ → List ℕ → Arrival
arrival from octets = record { from = from; octets = octets }

-- a call of a link before the link's end: the call brings a datagram, or fails
pub data Call : Type 0 where
  brings : Arrival → Call
  fails : Call

-- the entry of a call in the link's history, with the buffer after the call: a datagram, the end, or a failure
abbrev pub brought : Result (Option (ℕ × ℕ)) Device → List ℕ → List (Option Call)
brought (Ok (Some got)) buffer = Some (brings (arrival got.0 (take got.1 buffer))) ∷ []
brought (Ok None) buffer = None ∷ []
brought (Err failure) buffer = Some fails ∷ []

-- a datagram to send: its destination address and its octets
pub record Packet : Type 0 where
  pub to : ℕ
  pub octets : List ℕ

abbrev pub packet : ℕ → List ℕ → Packet
packet to octets = record { to = to; octets = octets }

-- the datagram that a call of a link sent; none if the call failed
abbrev pub sent_by : ℕ → List ℕ → Result (Unit {0}) Device → List Packet
sent_by to octets (Ok done) = packet to octets ∷ []
sent_by to octets (Err failure) = []

-- a datagram that a link was to send without waiting, and whether it was sent
pub record Try : Type 0 where
  pub packet : Packet
  pub is_sent : Bool

abbrev pub a_try : Packet → Bool → Try
a_try p is_sent = record { packet = p; is_sent = is_sent }
