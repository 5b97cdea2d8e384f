use Rattle.std.proofs.Common.{arith, ap, ◌∙◌}
use Rattle.mac_arena.specs.Inner.Learning.{heard}
use Rattle.mac_arena.specs.Entry.{pinned_at}
use Rattle.mac_arena.specs.declared.station.Learned.{Learned}
use Rattle.mac_arena.proofs.Values.{standing_is, stands, latest_with, new_is}
use Rattle.mac_arena.proofs.table.MacTable.learn_new.Goals as goal

pub hear-requires-clause-at : goal.hear-requires-clause-at
hear-requires-clause-at c = stands c.enter.new.self _ _ c.enter.ensures.at

pub hear-requires-clause-pinned : goal.hear-requires-clause-pinned
hear-requires-clause-pinned c = ap (λ (y : Learned). y.entry.pinned)
    (standing_is c.enter.new.self _ _ c.enter.ensures.at)

pub hear-requires-clause-latest : goal.hear-requires-clause-latest
hear-requires-clause-latest c = rw c.enter.ensures.after (latest_with c.args.self.now c.args.key.now
    (pinned_at c.args.port) c.args.second c.requires.latest (omega arith))

pub returns-clause-after : goal.returns-clause-after
returns-clause-after c =
    let after = standing_is c.enter.new.self _ _ c.enter.ensures.at in
    c.hear.ensures ∙ (λ i. heard (c.enter.ensures.after i) (after i).station (after i).entry.port c.args.second)
    ∙ new_is c.args.self.now c.args.key.now c.args.port c.args.second
