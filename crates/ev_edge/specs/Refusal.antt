-- The numbers of an edge's own refusals.
use Rattle.std.specs.Prelude.{ℕ}
use Rattle.ev_edge.specs.declared.refusal.EdgeRefusal.{EdgeRefusal}
use Rattle.ev_edge.specs.declared.refusal.EdgeRefusal.TheVariants.{BadMac, UnknownOriginator, OwnNameAhead, NoMemory}
use Rattle.ev_edge.specs.declared.refusal.EdgeRefusal.TheVariants.{NoSuchPort, NoSuchVni, OwnSpent, PortStorm}
use Rattle.ev_edge.specs.declared.refusal.Refusal.{Refusal}
use Rattle.ev_edge.specs.declared.refusal.Refusal.TheVariants.{Ether, Bpdu, Vxlan, Edge}
use Rattle.ether_wire.specs.Frame as frame
use Rattle.bpdu_wire.specs.Refusal as bpdu
use Rattle.vxlan_wire.specs.Vxlan as vxlan

abbrev pub own_number : EdgeRefusal → ℕ
own_number BadMac = 11
own_number UnknownOriginator = 12
own_number OwnNameAhead = 13
own_number NoMemory = 15
own_number NoSuchPort = 16
own_number NoSuchVni = 17
own_number OwnSpent = 21
own_number (PortStorm port) = 24

-- each part has numbers of its own
abbrev pub refusal_number : Refusal → ℕ
refusal_number (Ether r) = frame.refusal_number r
refusal_number (Bpdu r) = bpdu.refusal_number r
refusal_number (Vxlan r) = vxlan.refusal_number r
refusal_number (Edge r) = own_number r
