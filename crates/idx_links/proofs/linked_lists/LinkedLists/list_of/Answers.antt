use Rattle.std.proofs.Common.{rules, arith}
use Rattle.idx_links.proofs.Calls.{node_place, list_of_owes}
use Rattle.idx_links.proofs.linked_lists.LinkedLists.list_of.Goals as goal

pub owner-requires : goal.owner-requires
owner-requires c = record {
  node = omega (arith, c.lists.ensures.count);
  place = node_place c.self.invariant c.self.view_is c.lists.ensures.count c.requires;
}

pub returns-clause-on : goal.returns-clause-on
returns-clause-on c = (list_of_owes c.self.invariant c.self.view_is c.lists.ensures.count c.args.node
    c.owner.ensures).on

pub returns-clause-only : goal.returns-clause-only
returns-clause-only c = (list_of_owes c.self.invariant c.self.view_is c.lists.ensures.count c.args.node
    c.owner.ensures).only

pub returns-clause-within : goal.returns-clause-within
returns-clause-within c = (list_of_owes c.self.invariant c.self.view_is c.lists.ensures.count c.args.node
    c.owner.ensures).within

pub returns-clause-off : goal.returns-clause-off
returns-clause-off c = (list_of_owes c.self.invariant c.self.view_is c.lists.ensures.count c.args.node
    c.owner.ensures).off

pub overflow_add-lists : goal.overflow_add-lists
overflow_add-lists c = (let low = node_place c.self.invariant c.self.view_is c.lists.ensures.count c.requires in
    let small = c.lists.ensures.small in search rules)
