-- The texts that are printed for a line, for a step, for a refusal and for a port.
use Rattle.std.specs.Prelude.{ℕ, ◌/◌, ◌%◌, ◌==◌, Bool, true, false, if◌then◌else◌, List, [], ◌∷◌, ◌++◌, codes}
use Rattle.std.specs.Prelude.{decimal, get_or, Option, Some, None, Result, Ok, Err}
use Rattle.std.specs.List.{flat_map}
use Rattle.ether_wire.specs.Addr.{addr_text}
use Rattle.ether_wire.specs.Ports.{ports_text}
use Rattle.bpdu_wire.specs.declared.bpdu.Bpdu.{Bpdu}
use Rattle.bpdu_wire.specs.Writing.{octets_of}
use Rattle.rstp_state.specs.declared.port.PortState.{PortState}
use Rattle.rstp_state.specs.declared.port.Role.{Role}
use Rattle.rstp_state.specs.declared.port.Role.TheVariants.{Disabled, Root, Designated, Alternate, Backup}
use Rattle.route_wire.specs.Fields.{Fields}
use Rattle.route_join.specs.declared.table.Taken.{Taken}
use Rattle.route_join.specs.declared.table.Taken.TheVariants.{Newer, Known}
use Rattle.ev_tunnel.specs.declared.decision.Decision.{Decision}
use Rattle.ev_mobility.specs.declared.alert.Alert.{Alert}
use Rattle.ev_mobility.specs.Alert.{number_of}
use Rattle.ev_edge.specs.declared.refusal.Refusal.{Refusal}
use Rattle.ev_edge.specs.declared.refusal.Refusal.TheVariants.{Ether, Bpdu as OfBpdu, Vxlan, Edge as OfEdge}
use Rattle.ev_edge.specs.declared.reply.Reply.{Reply}
use Rattle.ev_fabric.specs.declared.refusal.FabricRefusal.{FabricRefusal}
use Rattle.ev_fabric.specs.declared.refusal.FabricRefusal.TheVariants.{NoMemory, NoSuchEdge, NoSuchUpdate, NoHigher}
use Rattle.ev_fabric.specs.declared.refusal.FabricRefusal.TheVariants.{Edge}
use Rattle.ev_fabric.specs.Refusal.{refusal_number}
use Rattle.ev_script.specs.declared.script.mode.Mode.{Mode}
use Rattle.ev_script.specs.declared.script.mode.Mode.TheVariants.{Simulate, Play}

-- ---- lines

-- `> LINE` if the script is played
abbrev pub shown_text : Mode → List ℕ → List ℕ
shown_text Simulate line = []
shown_text Play line = codes "> " ++ line ++ codes "\n"

-- an edge's number, and a text after it
abbrev pub words_text : ℕ → List ℕ → List ℕ
words_text edge words = decimal edge ++ words

-- a line of an edge's number, a word and a number
abbrev pub number_text : ℕ → List ℕ → ℕ → List ℕ
number_text edge word number = decimal edge ++ word ++ decimal number ++ codes "\n"

-- ---- the results of a step

-- two lower case hexadecimal digits
abbrev pub hex_digits : ℕ → List ℕ
hex_digits octet =
    get_or (codes "0123456789abcdef") (octet / 16) 0 ∷ get_or (codes "0123456789abcdef") (octet % 16) 0 ∷ []

abbrev pub hex_text : List ℕ → List ℕ
hex_text octets = flat_map hex_digits octets

-- `E bpdu P HEX`
abbrev pub bpdu_line : ℕ → ℕ × Bpdu → List ℕ
bpdu_line edge sent =
    words_text edge (codes " bpdu ") ++ decimal sent.0 ++ codes " " ++ hex_text (octets_of sent.1) ++ codes "\n"

abbrev pub bpdu_lines : ℕ → List (ℕ × Bpdu) → List ℕ
bpdu_lines edge bpdus = flat_map (bpdu_line edge) bpdus

-- a comma and an address
abbrev pub later_words : ℕ → List ℕ
later_words address = codes "," ++ addr_text address

-- addresses with commas between, or a dash for none
abbrev pub addresses_text : List ℕ → List ℕ
addresses_text [] = codes "-"
addresses_text (first ∷ later) = addr_text first ++ flat_map later_words later

-- `E local L remote R`
abbrev pub decision_line : ℕ → Decision → List ℕ
decision_line edge d =
    words_text edge (codes " local ") ++ ports_text d.local ++ codes " remote " ++ addresses_text d.remote.items
    ++ codes "\n"

abbrev pub place_text : ℕ → Option Decision → List ℕ
place_text edge None = []
place_text edge (Some d) = decision_line edge d

-- whether an update was newer or known, if one was taken
abbrev pub taken_text : ℕ → Option Taken → List ℕ
taken_text edge None = []
taken_text edge (Some Newer) = words_text edge (codes " newer\n")
taken_text edge (Some Known) = words_text edge (codes " known\n")

-- `E alert N`, if there is an alert
abbrev pub alert_text : ℕ → Option Alert → List ℕ
alert_text edge None = []
alert_text edge (Some alert) = number_text edge (codes " alert ") (number_of alert)

-- the BPDUs, then where a frame goes, then whether an update was newer or known, then an alert
abbrev pub reply_text : ℕ → Reply → List ℕ
reply_text edge reply =
    bpdu_lines edge reply.bpdus.items ++ place_text edge reply.decision ++ taken_text edge reply.taken
    ++ alert_text edge reply.alert

-- ---- a refusal

-- the part of an edge that refuses
abbrev pub edge_part : Refusal → List ℕ
edge_part (Ether refusal) = codes " refused ether "
edge_part (OfBpdu refusal) = codes " refused bpdu "
edge_part (Vxlan refusal) = codes " refused vxlan "
edge_part (OfEdge refusal) = codes " refused edge "

-- the part that refuses
abbrev pub part_of : FabricRefusal → List ℕ
part_of NoMemory = codes " refused edge "
part_of NoSuchEdge = codes " refused fabric "
part_of NoSuchUpdate = codes " refused fabric "
part_of NoHigher = codes " refused fabric "
part_of (Edge refusal) = edge_part refusal

-- `E refused PART N`
abbrev pub refusal_text : ℕ → FabricRefusal → List ℕ
refusal_text edge refusal = number_text edge (part_of refusal) (refusal_number refusal)

-- ---- the answers of a fabric

-- the answer to a step
abbrev pub step_text : ℕ → Result Reply FabricRefusal → List ℕ
step_text edge (Ok reply) = reply_text edge reply
step_text edge (Err refusal) = refusal_text edge refusal

-- the BPDUs that are sent in a second; only the first second of a command (0) prints a refusal
abbrev pub second_text : ℕ → ℕ → Result Reply FabricRefusal → List ℕ
second_text edge turn (Ok reply) = bpdu_lines edge reply.bpdus.items
second_text edge turn (Err refusal) = if turn == 0 then refusal_text edge refusal else []

-- `E pool K` for the update that is the K-th of the pool now; `E none` if nothing was pending
abbrev pub announced_text : ℕ → ℕ → Option Fields → List ℕ
announced_text edge last None = words_text edge (codes " none\n")
announced_text edge last (Some u) = number_text edge (codes " pool ") last

-- the answer to an announcement, after which the pool has `last` updates
abbrev pub announcement_text : ℕ → ℕ → Result Reply FabricRefusal → List ℕ
announcement_text edge last (Ok reply) = announced_text edge last reply.announced
announcement_text edge last (Err refusal) = refusal_text edge refusal

-- ---- a port

abbrev pub role_words : Role → List ℕ
role_words Disabled = codes " disabled"
role_words Root = codes " root"
role_words Designated = codes " designated"
role_words Alternate = codes " alternate"
role_words Backup = codes " backup"

abbrev pub state_words : PortState → List ℕ
state_words p = if p.forwarding then codes " forwarding" else if p.learning then codes " learning"
    else codes " discarding"

abbrev pub passing_words : Bool → List ℕ
passing_words true = codes " passes\n"
passing_words false = codes " blocks\n"

-- `E port P ROLE STATE passes`, or `blocks`
abbrev pub port_text : ℕ → ℕ → PortState → Bool → List ℕ
port_text edge number p passes =
    words_text edge (codes " port ") ++ decimal number ++ role_words p.role ++ state_words p ++ passing_words passes
