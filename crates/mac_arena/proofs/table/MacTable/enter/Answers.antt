use Rattle.std.proofs.Common.{rules, ◌∙◌}
use Rattle.mac_arena.proofs.Tables.{found_by, takes_low, takes_free, takes_ageless, takes_unchained, takes_unported}
use Rattle.mac_arena.proofs.Tables.{takes_node, bucket_is, is_entered, at_new}
use Rattle.mac_arena.proofs.table.MacTable.enter.Goals as goal

pub enter-requires-clause-node : goal.enter-requires-clause-node
enter-requires-clause-node c = takes_node (found_by c.self.invariant c.self.view_is) c.args.node c.requires.free

pub enter-requires-clause-free : goal.enter-requires-clause-free
enter-requires-clause-free c = takes_free (found_by c.self.invariant c.self.view_is) c.args.node c.requires.free

pub enter-requires-clause-ageless : goal.enter-requires-clause-ageless
enter-requires-clause-ageless c = takes_ageless (found_by c.self.invariant c.self.view_is) c.args.node c.requires.free

pub enter-requires-clause-unchained : goal.enter-requires-clause-unchained
enter-requires-clause-unchained c = takes_unchained (found_by c.self.invariant c.self.view_is) c.args.node
    c.requires.free

pub enter-requires-clause-unported : goal.enter-requires-clause-unported
enter-requires-clause-unported c = takes_unported (found_by c.self.invariant c.self.view_is) c.args.node c.requires.free

pub index_mut-requires : goal.index_mut-requires
index_mut-requires c = let low = takes_low (found_by c.self.invariant c.self.view_is) c.args.node c.requires.free in
    search rules

pub invariant_of-self : goal.invariant_of-self
invariant_of-self c =
    let found = found_by c.self.invariant c.self.view_is in
    rw (c.enter.ensures, c.place_of_port.ensures, c.requires.bucket ∙ bucket_is found c.args.key.now, c.pinned.ensures)
    (is_entered found c.args.node c.requires.free c.args.key.now c.args.port c.requires.new c.requires.some
    c.requires.port).table

pub returns-clause-after : goal.returns-clause-after
returns-clause-after c =
    let found = found_by c.self.invariant c.self.view_is in
    rw (c.enter.ensures, c.place_of_port.ensures, c.requires.bucket ∙ bucket_is found c.args.key.now, c.pinned.ensures)
    (is_entered found c.args.node c.requires.free c.args.key.now c.args.port c.requires.new c.requires.some
    c.requires.port).seen

pub returns-clause-at : goal.returns-clause-at
returns-clause-at c =
    let found = found_by c.self.invariant c.self.view_is in
    rw (c.enter.ensures, c.place_of_port.ensures, c.requires.bucket ∙ bucket_is found c.args.key.now, c.pinned.ensures)
    (at_new c.self.inside.slots.items c.args.node (takes_low found c.args.node c.requires.free)
    (is_entered found c.args.node c.requires.free c.args.key.now c.args.port c.requires.new c.requires.some
    c.requires.port))
