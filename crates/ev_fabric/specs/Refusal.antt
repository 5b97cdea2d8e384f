-- The numbers of a fabric's refusals.
use Rattle.std.specs.Prelude.{ℕ}
use Rattle.ev_edge.specs.Refusal as edge
use Rattle.ev_fabric.specs.declared.refusal.FabricRefusal.{FabricRefusal}
use Rattle.ev_fabric.specs.declared.refusal.FabricRefusal.TheVariants.{NoMemory, NoSuchEdge, NoSuchUpdate, NoHigher}
use Rattle.ev_fabric.specs.declared.refusal.FabricRefusal.TheVariants.{Edge}

abbrev pub refusal_number : FabricRefusal → ℕ
refusal_number NoMemory = 15
refusal_number NoSuchEdge = 18
refusal_number NoSuchUpdate = 19
refusal_number NoHigher = 22
refusal_number (Edge r) = edge.refusal_number r
