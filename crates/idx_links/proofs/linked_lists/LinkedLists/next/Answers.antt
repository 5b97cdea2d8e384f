use Rattle.std.proofs.Common.{rules}
use Rattle.idx_links.proofs.Calls.{node_place, next_at_owes}
use Rattle.idx_links.proofs.linked_lists.LinkedLists.next.Goals as goal

pub next-place-requires : goal.next-place-requires
next-place-requires c = node_place c.self.invariant c.self.view_is c.lists-count.ensures.count c.requires.node

pub returns-then-place-count : goal.returns-then-place-count
returns-then-place-count c l i on = (next_at_owes c.self.invariant c.self.view_is c.lists-count.ensures.count l i on
    c.next-place.ensures).0 c.if-place-count.true

pub returns : goal.returns
returns c l i on = (next_at_owes c.self.invariant c.self.view_is c.lists-count.ensures.count l i on
    c.next-place.ensures).1 c.if-place-count.false

pub overflow_add-count : goal.overflow_add-count
overflow_add-count c =
    let low = node_place c.self.invariant c.self.view_is c.lists-count.ensures.count c.requires.node in
    let small = c.lists-count.ensures.small in search rules
