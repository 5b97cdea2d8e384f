use Rattle.std.proofs.Common.{ap, not, ◌∙◌}
use Rattle.mac_arena.proofs.Tables.{found_by, is_chained, is_ported, ageing_is, is_dropped}
use Rattle.mac_arena.proofs.table.MacTable.leave.Goals as goal

pub leave-requires-clause-chained : goal.leave-requires-clause-chained
leave-requires-clause-chained c = is_chained (found_by c.self.invariant c.self.view_is) c.args.node c.requires.at

pub leave-requires-clause-ported : goal.leave-requires-clause-ported
leave-requires-clause-ported c = is_ported (found_by c.self.invariant c.self.view_is) c.args.node c.requires.at

pub leave-requires-clause-ageless : goal.leave-requires-clause-ageless
leave-requires-clause-ageless c = ageing_is (found_by c.self.invariant c.self.view_is) c.args.node c.requires.at
    ∙ ap not c.requires.pinned

pub invariant_of-self : goal.invariant_of-self
invariant_of-self c = rw (c.leave.ensures, c.leave-2.ensures) (is_dropped (found_by c.self.invariant c.self.view_is)
    c.args.node c.requires.at c.requires.pinned).table

pub returns : goal.returns
returns c = rw (c.leave.ensures, c.leave-2.ensures) (is_dropped (found_by c.self.invariant c.self.view_is) c.args.node
    c.requires.at c.requires.pinned).seen
