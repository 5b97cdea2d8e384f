use Rattle.std.proofs.Common.{refl}
use Rattle.mac_arena.specs.Learning.{learnt_of}
use Rattle.mac_arena.proofs.Looking.{learn_entry, learn_size, pin_entry, pin_size, removal_entry, removal_size}
use Rattle.mac_arena.proofs.laws.entries_after.Goals as goal

pub returns-clause-learnt : goal.returns-clause-learnt
returns-clause-learnt c = learn_entry c.args.table.now c.args.key.now c.args.port c.args.second
    (learnt_of c.args.table.now c.args.key.now c.args.port)

pub returns-clause-size_learnt : goal.returns-clause-size_learnt
returns-clause-size_learnt c = learn_size c.args.table.now c.args.key.now c.args.port c.args.second
    (learnt_of c.args.table.now c.args.key.now c.args.port) refl

pub returns-clause-pinned : goal.returns-clause-pinned
returns-clause-pinned c = pin_entry c.args.table.now c.args.key.now c.args.port

pub returns-clause-size_pinned : goal.returns-clause-size_pinned
returns-clause-size_pinned c = pin_size c.args.table.now c.args.key.now c.args.port

pub returns-clause-removed : goal.returns-clause-removed
returns-clause-removed c = removal_entry c.args.table.now c.args.key.now

pub returns-clause-size_removed : goal.returns-clause-size_removed
returns-clause-size_removed c = removal_size c.args.table.now c.args.key.now
