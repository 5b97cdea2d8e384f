use Rattle.std.proofs.Common.{rules, ◌≡◌, ◌+◌}
use Rattle.idx_links.proofs.Calls.{grow_owes}
use Rattle.idx_links.proofs.linked_lists.LinkedLists.grow.Goals as goal

pub invariant_of-self-2 : goal.invariant_of-self-2
invariant_of-self-2 c =
    let places_is : c.in-Some.places ≡ c.lists.result + c.args.nodes = search rules in
    let e = c.in_ok-grow.ensures in
    (grow_owes c.self.invariant c.self.view_is c.lists.ensures.count c.args.nodes places_is e.next e.prev e.owner
    e.lens).good

pub returns-clause-lists : goal.returns-clause-lists
returns-clause-lists c =
    let places_is : c.in-Some.places ≡ c.lists.result + c.args.nodes = search rules in
    let e = c.in_ok-grow.ensures in
    (grow_owes c.self.invariant c.self.view_is c.lists.ensures.count c.args.nodes places_is e.next e.prev e.owner
    e.lens).lists

pub returns-clause-enough : goal.returns-clause-enough
returns-clause-enough c =
    let places_is : c.in-Some.places ≡ c.lists.result + c.args.nodes = search rules in
    let e = c.in_ok-grow.ensures in
    (grow_owes c.self.invariant c.self.view_is c.lists.ensures.count c.args.nodes places_is e.next e.prev e.owner
    e.lens).enough
