-- The class of a received message at its port (IEEE 802.1D-2004, 17.21.8, in this project's own table).
use Rattle.std.specs.Prelude.{Bool, true, false, ◌&&◌, if◌then◌else◌, Option, Some, None}
use Rattle.bpdu_wire.specs.declared.bpdu.Message.{Message}
use Rattle.bpdu_wire.specs.declared.bpdu.Bpdu.{Bpdu}
use Rattle.bpdu_wire.specs.declared.bpdu.Bpdu.TheVariants.{Config, Rst, Tcn}
use Rattle.bpdu_wire.specs.declared.bpdu.SenderRole.{SenderRole}
use Rattle.bpdu_wire.specs.declared.bpdu.SenderRole.TheVariants as sender
use Rattle.bpdu_wire.specs.Bpdu.{role_of}
use Rattle.rstp_state.specs.declared.port.PortState.{PortState}
use Rattle.rstp_state.specs.Vector.{is_less, same_vector, same_times, vector_of, times_of, superior}
use Rattle.rstp_state.specs.Port.{is_received}
use Rattle.rstp_run.specs.declared.class.Class.{Class}
use Rattle.rstp_run.specs.declared.class.Class.TheVariants as class

-- a designated port's message
abbrev pub designated_class : PortState → Message → Class
designated_class port message =
    if superior (vector_of message) (times_of message) port.port_priority port.port_times then class.Superior
    else (if same_vector (vector_of message) port.port_priority
    && (same_times (times_of message) port.port_times && is_received port.info_is)
    then class.Repeated
    else (if is_less port.port_priority (vector_of message) then class.Inferior else class.Other))

-- the message of a root, alternate or backup port
abbrev pub answering_class : PortState → Message → Class
answering_class port message =
    if is_less (vector_of message) port.port_priority then class.Other else class.NotDesignated

-- the sender's role is Alternate, Backup or Root, not unknown or Designated
abbrev pub is_answer : SenderRole → Bool
is_answer sender.AlternateOrBackup = true
is_answer sender.Root = true
is_answer _ = false

abbrev pub rst_class : PortState → Message → Class
rst_class port message =
    if is_answer (role_of message.flags) then answering_class port message else designated_class port message

abbrev pub bpdu_class : PortState → Option Bpdu → Class
bpdu_class port None = class.Other
bpdu_class port (Some Tcn) = class.Other
bpdu_class port (Some (Config message)) = designated_class port message
bpdu_class port (Some (Rst message)) = rst_class port message

abbrev pub class_of : PortState → Class
class_of port = bpdu_class port port.message

abbrev pub is_superior : Class → Bool
is_superior class.Superior = true
is_superior _ = false

abbrev pub is_repeated : Class → Bool
is_repeated class.Repeated = true
is_repeated _ = false

abbrev pub is_inferior : Class → Bool
is_inferior class.Inferior = true
is_inferior _ = false

abbrev pub is_not_designated : Class → Bool
is_not_designated class.NotDesignated = true
is_not_designated _ = false

abbrev pub is_other : Class → Bool
is_other class.Other = true
is_other _ = false
