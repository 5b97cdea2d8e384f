-- The information rules (IEEE 802.1D-2004, 17.27, in this project's own table).
use Rattle.std.specs.Prelude.{ℕ, Bool, true, false, not, ◌&&◌, ◌||◌, ◌==◌, ◌*◌, nat_lt, if◌then◌else◌, Option, Some}
use Rattle.bpdu_wire.specs.Numbers.{AGREEMENT, CHANGE_ACKNOWLEDGEMENT, LEARNING, PROPOSAL}
use Rattle.bpdu_wire.specs.Numbers.{TOPOLOGY_CHANGE}
use Rattle.bpdu_wire.specs.declared.bpdu.Message.{Message}
use Rattle.bpdu_wire.specs.declared.bpdu.Bpdu.{Bpdu}
use Rattle.bpdu_wire.specs.declared.bpdu.Bpdu.TheVariants.{Config, Rst, Tcn}
use Rattle.rstp_state.specs.declared.port.PortState.{PortState}
use Rattle.rstp_state.specs.declared.port.Information.TheVariants as information
use Rattle.rstp_state.specs.declared.port.InfoIs.TheVariants as info_is
use Rattle.rstp_state.specs.declared.vector.Vector.{Vector}
use Rattle.rstp_state.specs.declared.vector.Times.{Times}
use Rattle.rstp_state.specs.Vector.{is_less, vector_of, times_of}
use Rattle.rstp_state.specs.Port.{is_out, is_current, is_received, is_mine, has_flag}
use Rattle.rstp_run.specs.Class.{class_of, is_superior, is_repeated, is_inferior, is_not_designated, is_other}

-- parts of the effects

-- a Config or RST message is stored, and has the flag
abbrev pub message_has : ℕ → Option Bpdu → Bool
message_has flag (Some (Config message)) = has_flag message.flags flag
message_has flag (Some (Rst message)) = has_flag message.flags flag
message_has flag _ = false

-- an RST message is stored, and has the flag
abbrev pub rst_has : ℕ → Option Bpdu → Bool
rst_has flag (Some (Rst message)) = has_flag message.flags flag
rst_has flag _ = false

abbrev pub is_tcn : Option Bpdu → Bool
is_tcn (Some Tcn) = true
is_tcn _ = false

-- the vector of the stored message, or this one
abbrev pub vector_or : Vector → Option Bpdu → Vector
vector_or vector (Some (Config message)) = vector_of message
vector_or vector (Some (Rst message)) = vector_of message
vector_or vector _ = vector

-- sets `proposed` if the message proposes
abbrev pub with_proposal : PortState → PortState
with_proposal port = record port { proposed = port.proposed || rst_has PROPOSAL port.message }

-- records a topology change or an acknowledgement in the message
abbrev pub with_change_flags : PortState → PortState
with_change_flags port = record port {
  received_topology_change = port.received_topology_change || message_has TOPOLOGY_CHANGE port.message;
  received_acknowledgement = port.received_acknowledgement || message_has CHANGE_ACKNOWLEDGEMENT port.message;
}

-- the time for which a port keeps information with these times: three Hello times, or 0 if the information is too old
abbrev pub info_time : Times → ℕ
info_time times = if nat_lt times.message_age times.max_age then 3 * times.hello else 0

abbrev pub with_info_time : PortState → PortState
with_info_time port = record port { received_info_while = info_time port.port_times }

abbrev pub with_info : Message → PortState → PortState
with_info message port = record port { port_priority = vector_of message; port_times = times_of message }

-- the message's vector and times become the port's
abbrev pub with_info_of : Option Bpdu → PortState → PortState
with_info_of (Some (Config message)) port = with_info message port
with_info_of (Some (Rst message)) port = with_info message port
with_info_of _ port = port

abbrev pub with_message_info : PortState → PortState
with_message_info port = with_info_of port.message port

abbrev pub handled : PortState → PortState
handled port = record port { received_message = false }

-- a port whose information is too old, or had none, requests selection again
abbrev pub aging : PortState → PortState
aging port = record port {
  information = information.Aged;
  info_is = info_is.Aged;
  reselect = true;
  selected = false;
}

-- Disabled: the port went down

abbrev pub disabled_guard : PortState → Bool
disabled_guard port = not port.enabled && not (is_out port.information)

abbrev pub disabled_effect : PortState → PortState
disabled_effect port = record port {
  information = information.Disabled;
  received_message = false;
  proposing = false;
  proposed = false;
  agree = false;
  agreed = false;
  received_info_while = 0;
  info_is = info_is.Disabled;
  reselect = true;
  selected = false;
}

-- Drop: a message at a port that is down

abbrev pub drop_guard : PortState → Bool
drop_guard port = is_out port.information && port.received_message

abbrev pub drop_effect : PortState → PortState
drop_effect port = record port { received_message = false }

-- Enabled: the port came up

abbrev pub enabled_guard : PortState → Bool
enabled_guard port = is_out port.information && port.enabled

abbrev pub enabled_effect : PortState → PortState
enabled_effect port = aging port

-- Update: the port takes over its designated vector and times

abbrev pub update_guard : PortState → Bool
update_guard port = not (is_out port.information) && port.selected && port.update_info

-- the other end still agrees: it agreed to the port's own vector, and the new vector is no worse
abbrev pub keeps_agreed : PortState → Bool
keeps_agreed port =
    port.agreed && (is_mine port.info_is && not (is_less port.port_priority port.designated_priority))

abbrev pub update_effect : PortState → PortState
update_effect port = record port {
  proposing = false;
  proposed = false;
  agreed = keeps_agreed port;
  synced = port.synced && keeps_agreed port;
  port_priority = port.designated_priority;
  port_times = port.designated_times;
  update_info = false;
  info_is = info_is.Mine;
  new_info = true;
  information = information.Current;
}

-- Aged: the received information is too old

abbrev pub aged_guard : PortState → Bool
aged_guard port =
    is_current port.information && is_received port.info_is && port.received_info_while == 0
    && not port.update_info && not port.received_message

abbrev pub aged_effect : PortState → PortState
aged_effect port = aging port

-- a message is pending, and may be taken
abbrev pub may_take : PortState → Bool
may_take port = is_current port.information && port.received_message && not port.update_info

-- Superior: better information of a designated port

abbrev pub superior_guard : PortState → Bool
superior_guard port = may_take port && is_superior (class_of port)

-- the port's agreement stays: the new vector is no worse than the earlier received one
abbrev pub keeps_agree : PortState → Bool
keeps_agree port =
    port.agree && (is_received port.info_is && not (is_less port.port_priority
    (vector_or port.port_priority port.message)))

abbrev pub with_superior_flags : PortState → PortState
with_superior_flags port = record port {
  agreed = false;
  proposing = false;
  agree = keeps_agree port;
  info_is = info_is.Received;
  reselect = true;
  selected = false;
}

abbrev pub superior_effect : PortState → PortState
superior_effect port =
    handled (with_info_time (with_message_info (with_superior_flags (with_change_flags (with_proposal port)))))

-- Repeated: the information that the port already has

abbrev pub repeated_guard : PortState → Bool
repeated_guard port = may_take port && is_repeated (class_of port)

abbrev pub repeated_effect : PortState → PortState
repeated_effect port = handled (with_info_time (with_change_flags (with_proposal port)))

-- Inferior: worse information of a designated port, which is disputed if that port learns

abbrev pub inferior_guard : PortState → Bool
inferior_guard port = may_take port && is_inferior (class_of port)

abbrev pub inferior_effect : PortState → PortState
inferior_effect port =
    if rst_has LEARNING port.message
    then record port { disputed = true; agreed = false; received_message = false }
    else record port { received_message = false }

-- NotDesignated: the answer of a root, alternate or backup port, which may be an agreement

abbrev pub not_designated_guard : PortState → Bool
not_designated_guard port = may_take port && is_not_designated (class_of port)

abbrev pub with_answer : PortState → PortState
with_answer port =
    if port.point_to_point && message_has AGREEMENT port.message
    then record port { agreed = true; proposing = false }
    else record port { agreed = false }

abbrev pub not_designated_effect : PortState → PortState
not_designated_effect port = handled (with_change_flags (with_answer port))

-- Other: any other message; a TCN is recorded

abbrev pub other_guard : PortState → Bool
other_guard port = may_take port && is_other (class_of port)

abbrev pub other_effect : PortState → PortState
other_effect port = record port {
  received_notification = port.received_notification || is_tcn port.message;
  received_message = false;
}
