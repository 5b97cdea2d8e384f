use Rattle.std.proofs.Common.{◌∙◌, sym}
use Rattle.mac_arena.proofs.Tables.{found_by, slot_is, places_in, read_slot}
use Rattle.mac_arena.proofs.table.MacTable.walk.Goals as goal

pub returns : goal.returns
returns c =
    let found = found_by c.self.invariant c.self.view_is in
    c.learned.ensures ∙ read_slot c.self.inside.slots.items c.args.node _ (rw (places_in found) at c.requires)
    c.index.ensures ∙ sym (slot_is found c.args.node)
