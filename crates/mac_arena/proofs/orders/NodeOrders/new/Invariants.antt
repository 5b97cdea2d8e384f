use Rattle.std.proofs.Common.{◌≡◌, [], replicate}
use Rattle.std.specs.List.{range_with_len}
use Rattle.mac_arena.proofs.OrderSteps.{four}
use Rattle.mac_arena.proofs.orders.NodeOrders.new.Given as goal

abbrev pub invariant-loop-node : goal.invariant-loop-node
invariant-loop-node l = record {
  families : l.links.families ≡ four (replicate l.buckets []) (replicate l.ports []) [] (range_with_len 0 l.node);
  nodes : l.links.nodes ≡ l.nodes;
}
