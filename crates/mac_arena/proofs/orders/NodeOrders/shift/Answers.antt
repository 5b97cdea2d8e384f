use Rattle.std.proofs.Common.{rules, ◌<◌, length}
use Rattle.std.proofs.lemmas.List.{length-map}
use Rattle.idx_links.specs.Links.{IsFree}
use Rattle.idx_links.specs.Families.{lists_of}
use Rattle.mac_arena.proofs.OrderSteps.{ports_off}
use Rattle.mac_arena.proofs.orders.NodeOrders.shift.Goals as goal

pub push_back-requires : goal.push_back-requires
push_back-requires c =
    let off = ports_off c.self.inside.links c.unlink.new.self c.args.self.now c.args.node c.self.invariant
    c.self.view_is c.unlink.ensures.families in
    let list : c.args.port < length (lists_of c.unlink.new.self 1) = rw (off, length-map) c.requires.port in
    let free : IsFree (lists_of c.unlink.new.self 1) c.args.node = rw off c.requires.once in
    let node : c.args.node < c.unlink.new.self.nodes = search rules in
    search (rules, list, free, node)
