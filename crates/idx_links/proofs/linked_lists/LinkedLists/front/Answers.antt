use Rattle.idx_links.proofs.Calls.{list_place, front_owes}
use Rattle.idx_links.proofs.linked_lists.LinkedLists.front.Goals as goal

pub next-place-requires : goal.next-place-requires
next-place-requires c = (list_place c.self.invariant c.self.view_is c.lists-count.ensures.count c.requires).1

pub returns-then-place-count : goal.returns-then-place-count
returns-then-place-count c = (front_owes c.self.invariant c.self.view_is c.lists-count.ensures.count c.requires
    c.next-place.ensures).0 c.if-place-count.true

pub returns : goal.returns
returns c = (front_owes c.self.invariant c.self.view_is c.lists-count.ensures.count c.requires
    c.next-place.ensures).1 c.if-place-count.false
