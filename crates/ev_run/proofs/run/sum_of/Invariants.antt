use Rattle.std.proofs.Common.{◌≡◌, take}
use Rattle.std.specs.List.{list_any}
use Rattle.ev_run.specs.RunEdges.{all_lost, link_failed, was_out_of_memory}
use Rattle.ev_run.proofs.run.sum_of.Given as goal

abbrev pub invariant-loop-outcome : goal.invariant-loop-outcome
invariant-loop-outcome l = record {
  lost : l.sum.lost ≡ all_lost (take l.outcome-index l.ended);
  device : l.sum.is_device ≡ list_any link_failed (take l.outcome-index l.ended);
  out_of_memory : l.sum.is_out_of_memory ≡ list_any was_out_of_memory (take l.outcome-index l.ended);
}
