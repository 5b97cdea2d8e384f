use Rattle.std.proofs.Common.{rules, arith, ◌<◌, ◌∙◌, ap, length, []}
use Rattle.std.specs.List.{range_with_len}
use Rattle.idx_links.specs.Families.{lists_of}
use Rattle.std.proofs.Common.{replicate}
use Rattle.mac_arena.proofs.OrderSteps.{four, new_free, freed, more_free}
use Rattle.mac_arena.proofs.orders.NodeOrders.new.Goals as goal

pub push_back-requires : goal.push_back-requires
push_back-requires c =
    let is = c.loop-node.invariant.families in
    let free = new_free c.loop-node.links (replicate c.args.buckets []) (replicate c.args.ports []) c.loop-node.node
    is in
    let list : 1 < length (lists_of c.loop-node.links 2) = rw is (omega arith) in
    let node : c.loop-node.node < c.loop-node.links.nodes = search rules in
    search (rules, list, free, node)

pub loop-node-preserved : goal.loop-node-preserved
loop-node-preserved c = record {
  families = freed c.loop-node.links c.push_back.new.self c.loop-node.node (replicate c.args.buckets [])
      (replicate c.args.ports []) [] (range_with_len 0 c.loop-node.node) c.loop-node.invariant.families
      c.push_back.ensures.families
      ∙ ap (four (replicate c.args.buckets []) (replicate c.args.ports []) []) (more_free c.loop-node.node);
  nodes = c.push_back.ensures.nodes ∙ c.loop-node.invariant.nodes;
}
