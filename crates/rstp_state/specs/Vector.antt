-- Vectors and times, and when a message is superior to a port's information.
use Rattle.std.specs.Prelude.{◌≡◌, ℕ, Bool, false, not, ◌&&◌, ◌||◌, ◌==◌, ◌+◌, ◌-◌, ◌/◌, max}
use Rattle.std.specs.declared.cmp.Ordering.{Ordering}
use Rattle.std.specs.Ordering.{nat_cmp, ordering_then, is_lt}
use Rattle.bpdu_wire.specs.Numbers.{TIME_UNITS}
use Rattle.bpdu_wire.specs.declared.bpdu.Message.{Message}
use Rattle.bpdu_wire.specs.Id.{bridge_address, port_number}
use Rattle.rstp_state.specs.declared.vector.Vector.{Vector}
use Rattle.rstp_state.specs.declared.vector.Times.{Times}

-- root, cost, designated bridge, designated port, in this order (IEEE 802.1D-2004, 17.5)
abbrev pub vector_cmp : Vector → Vector → Ordering
vector_cmp a b =
    ordering_then (nat_cmp a.root b.root) (ordering_then (nat_cmp a.cost b.cost)
    (ordering_then (nat_cmp a.bridge b.bridge) (nat_cmp a.port b.port)))

-- the lesser vector is the better one
abbrev pub is_less : Vector → Vector → Bool
is_less a b = is_lt (vector_cmp a b)

abbrev pub same_vector : Vector → Vector → Bool
same_vector a b = a.root == b.root && (a.cost == b.cost && (a.bridge == b.bridge && a.port == b.port))

abbrev pub same_times : Times → Times → Bool
same_times a b = a.message_age == b.message_age && (a.max_age == b.max_age
    && (a.hello == b.hello && a.forward_delay == b.forward_delay))

-- a message's vector
abbrev pub vector_of : Message → Vector
vector_of m = record { root = m.root; cost = m.cost; bridge = m.bridge; port = m.port }

-- a time of a message in whole seconds, rounded up
abbrev pub seconds_of : ℕ → ℕ
seconds_of n = (n + (TIME_UNITS - 1)) / TIME_UNITS

-- a message's times, in seconds; a Hello time is at least 1
abbrev pub times_of : Message → Times
times_of m = record {
  message_age = seconds_of m.message_age;
  max_age = seconds_of m.max_age;
  hello = max (seconds_of m.hello) 1;
  forward_delay = seconds_of m.forward_delay;
}

-- from the same port number and bridge address, with any priorities
abbrev pub same_sender : Vector → Vector → Bool
same_sender a b = bridge_address a.bridge == bridge_address b.bridge && port_number a.port == port_number b.port

-- A message's vector v and times t are superior to a port's vector w and times u (IEEE 802.1D-2004, 17.6).
abbrev pub superior : Vector → Times → Vector → Times → Bool
superior v t w u = is_less v w || (same_sender v w && (not (same_vector v w) || not (same_times t u)))

-- of two different vectors, one is better
abbrev pub NeverEquallyGood : Type 0
NeverEquallyGood = (a b : Vector) → is_less a b ≡ false → is_less b a ≡ false → a ≡ b
