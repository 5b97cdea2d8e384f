use Rattle.std.proofs.Common.{rules}
use Rattle.idx_links.proofs.FamilyCalls.{index_owes, free_number, pushed_family, pushed_families}
use Rattle.idx_links.proofs.family.Family.push_back.Goals as goal

pub overflow_add-index : goal.overflow_add-index
overflow_add-index g c = (let owes = index_owes c.self.invariant c.self.view_is c.requires.family c.requires.list
    c.index.ensures in let fits = owes.1 in search rules)

pub push_back-requires-clause-list : goal.push_back-requires-clause-list
push_back-requires-clause-list g c = (index_owes c.self.invariant c.self.view_is c.requires.family c.requires.list
    c.index.ensures).0

pub push_back-requires-clause-free : goal.push_back-requires-clause-free
push_back-requires-clause-free g c = free_number c.self.invariant c.self.view_is c.requires.family c.args.node
    c.requires.free

pub invariant_of-self : goal.invariant_of-self
invariant_of-self g c = pushed_family c.self.invariant c.self.view_is c.requires.family c.requires.list
    c.requires.node c.index.ensures c.push_back.ensures.nodes c.push_back.ensures.lists

pub returns-clause-families : goal.returns-clause-families
returns-clause-families g c = pushed_families c.self.invariant c.self.view_is c.requires.family c.args.node
    c.requires.list c.index.ensures c.push_back.ensures.lists
