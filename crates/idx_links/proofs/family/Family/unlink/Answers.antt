use Rattle.std.proofs.Common.{◌+◌, ◌*◌}
use Rattle.idx_links.proofs.FamilyCalls.{linked_number, unlinked_family, unlinked_families}
use Rattle.idx_links.proofs.family.Family.unlink.Goals as goal

pub unlink-requires-clause-linked : goal.unlink-requires-clause-linked
unlink-requires-clause-linked g c = linked_number c.self.invariant c.self.view_is c.requires.family c.args.node
    c.requires.linked

pub invariant_of-self : goal.invariant_of-self
invariant_of-self g c = unlinked_family c.self.invariant (c.args.node * g.row.K + c.args.family)
    c.unlink.ensures.nodes c.unlink.ensures.lists

pub returns-clause-families : goal.returns-clause-families
returns-clause-families g c = unlinked_families c.self.invariant c.self.view_is c.requires.family c.args.node
    c.unlink.ensures.lists
