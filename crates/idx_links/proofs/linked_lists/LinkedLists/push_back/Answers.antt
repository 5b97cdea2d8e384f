use Rattle.std.proofs.Common.{rules}
use Rattle.std.proofs.lemmas.List.{length-set}
use Rattle.idx_links.proofs.Calls.{list_place, node_place, push_owes}
use Rattle.idx_links.proofs.linked_lists.LinkedLists.push_back.Goals as goal

pub prev-last-requires : goal.prev-last-requires
prev-last-requires c = (list_place c.self.invariant c.self.view_is c.lists.ensures.count c.requires.list).1

pub invariant_of-self : goal.invariant_of-self
invariant_of-self c =
    let b = c.join.ensures in
    let d = c.join-2.ensures in
    let e = c.enter.ensures in
    rw (e.next, d.next, b.next, e.prev, d.prev, b.prev, e.owner, d.owner, b.owner, e.lens, d.lens, b.lens)
    (push_owes c.self.invariant c.self.view_is c.lists.ensures.count c.requires.list c.requires.node c.requires.free
    c.prev-last.ensures).1

pub returns-clause-lists : goal.returns-clause-lists
returns-clause-lists c =
    let b = c.join.ensures in
    let d = c.join-2.ensures in
    let e = c.enter.ensures in
    rw (e.next, d.next, b.next, e.lens, d.lens, b.lens) (push_owes c.self.invariant c.self.view_is
    c.lists.ensures.count c.requires.list c.requires.node c.requires.free c.prev-last.ensures).2

pub overflow_add-place : goal.overflow_add-place
overflow_add-place c = (let low = node_place c.self.invariant c.self.view_is c.lists.ensures.count c.requires.node in
    let small = c.lists.ensures.small in search rules)

pub join-requires-2-clause-behind : goal.join-requires-2-clause-behind
join-requires-2-clause-behind c = rw (c.join.ensures.next, length-set) (list_place c.self.invariant c.self.view_is
    c.lists.ensures.count c.requires.list).1

pub enter-requires-clause-list : goal.enter-requires-clause-list
enter-requires-clause-list c = rw (c.join-2.ensures.lens, c.join.ensures.lens) (list_place c.self.invariant
    c.self.view_is c.lists.ensures.count c.requires.list).0
