use Rattle.std.proofs.Common.{rules}
use Rattle.idx_links.proofs.FamilyCalls.{index_owes, len_tells, apart_tells, below_tells}
use Rattle.idx_links.proofs.family.Family.len.Goals as goal

pub overflow_add-index : goal.overflow_add-index
overflow_add-index g c = (let owes = index_owes c.self.invariant c.self.view_is c.requires.family c.requires.list
    c.index.ensures in let fits = owes.1 in search rules)

pub len-requires : goal.len-requires
len-requires g c = (index_owes c.self.invariant c.self.view_is c.requires.family c.requires.list c.index.ensures).0

pub returns-clause-value : goal.returns-clause-value
returns-clause-value g c = len_tells c.self.invariant c.self.view_is c.requires.family c.requires.list c.index.ensures
    c.len.ensures.value

pub returns-clause-apart : goal.returns-clause-apart
returns-clause-apart g c = apart_tells c.self.invariant c.self.view_is c.requires.family c.len.ensures.apart

pub returns-clause-below : goal.returns-clause-below
returns-clause-below g c = below_tells c.self.invariant c.self.view_is c.requires.family
