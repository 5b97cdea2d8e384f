use Rattle.std.proofs.Common.{rules, arith}
use Rattle.idx_links.proofs.Calls.{node_place, linked_is, unlink_owes}
use Rattle.idx_links.proofs.linked_lists.LinkedLists.unlink.Goals as goal

pub owner-requires : goal.owner-requires
owner-requires c = record {
  node = omega (arith, c.lists.ensures.count);
  place = node_place c.self.invariant c.self.view_is c.lists.ensures.count c.requires.node;
}

pub unreachable-requires : goal.unreachable-requires
unreachable-requires c =
    let on = linked_is c.self.invariant c.self.view_is c.lists.ensures.count c.args.node c.requires.linked
    c.owner.ensures in
    c.in_default.not-Some on.0 on.1

pub invariant_of-self : goal.invariant_of-self
invariant_of-self c =
    let b = c.join.ensures in
    let d = c.join-2.ensures in
    let e = c.leave.ensures in
    rw (e.next, d.next, b.next, e.prev, d.prev, b.prev, e.owner, d.owner, b.owner, e.lens, d.lens, b.lens)
    (unlink_owes c.self.invariant c.self.view_is c.lists.ensures.count c.args.node c.owner.ensures c.in-Some.is
    c.prev-before.ensures c.next-behind.ensures).2

pub returns-clause-lists : goal.returns-clause-lists
returns-clause-lists c =
    let b = c.join.ensures in
    let d = c.join-2.ensures in
    let e = c.leave.ensures in
    rw (e.next, d.next, b.next, e.lens, d.lens, b.lens) (unlink_owes c.self.invariant c.self.view_is
    c.lists.ensures.count c.args.node c.owner.ensures c.in-Some.is c.prev-before.ensures c.next-behind.ensures).3

pub overflow_add-place : goal.overflow_add-place
overflow_add-place c = (let low = node_place c.self.invariant c.self.view_is c.lists.ensures.count c.requires.node in
    let small = c.lists.ensures.small in search rules)
