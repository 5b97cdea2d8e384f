use Rattle.std.proofs.Common.{refl}
use Rattle.idx_links.proofs.Calls.{list_place, len_owes, apart_owes}
use Rattle.idx_links.proofs.linked_lists.LinkedLists.len.Goals as goal

pub len-requires : goal.len-requires
len-requires c = (list_place c.self.invariant c.self.view_is refl c.requires).0

pub returns-clause-value : goal.returns-clause-value
returns-clause-value c = len_owes c.self.invariant c.self.view_is refl c.requires c.len.ensures

pub returns-clause-apart : goal.returns-clause-apart
returns-clause-apart c = apart_owes c.self.invariant c.self.view_is refl
