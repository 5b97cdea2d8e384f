use Rattle.idx_links.proofs.Calls.{new_good, new_lists, new_nodes}
use Rattle.idx_links.proofs.linked_lists.LinkedLists.new.Goals as goal

pub invariant_of-result : goal.invariant_of-result
invariant_of-result c = rw (
  c.in_ok-places.ensures.next,
  c.in_ok-places.ensures.prev,
  c.in_ok-places.ensures.owner,
  c.in_ok-places.ensures.lens,
) (new_good c.args.lists c.args.nodes)

pub returns-clause-lists : goal.returns-clause-lists
returns-clause-lists c = rw (
  c.in_ok-places.ensures.next,
  c.in_ok-places.ensures.lens,
) (new_lists c.args.lists c.args.nodes)

pub returns-clause-nodes : goal.returns-clause-nodes
returns-clause-nodes c = rw (
  c.in_ok-places.ensures.next,
  c.in_ok-places.ensures.lens,
) (new_nodes c.args.lists c.args.nodes)
