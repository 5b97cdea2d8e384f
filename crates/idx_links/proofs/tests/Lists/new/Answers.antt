use Rattle.idx_links.proofs.FamilyCalls.{lengths_new}
use Rattle.idx_links.proofs.tests.Lists.new.Goals as goal

pub invariant_of-result : goal.invariant_of-result
invariant_of-result c = record {
  sized = lengths_new c.in_ok-links.links c.in_ok-links.ensures.lists;
  counted = c.in_ok-links.ensures.nodes;
}
