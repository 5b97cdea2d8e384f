use Rattle.std.proofs.Common.{◌≡◌, ◌≤◌, None, length, ◌∙◌, ap, arith}
use Rattle.std.specs.FinMap.Entries.{find}
use Rattle.std.proofs.lemmas.List.{take_all}
use Rattle.route_wire.specs.Order.{register_cmp}
use Rattle.route_join.specs.Table.{entries_of}
use Rattle.route_join.specs.Inner.LargeGroup.{large_updates}
use Rattle.route_join.proofs.Leaders.{not_yet}
use Rattle.route_join.proofs.Places.{about_at}
use Rattle.route_join.proofs.Trees.{same_updates, filled_more}
use Rattle.route_join.proofs.large_group.LargeGroup.of.Goals as goal

pub about-requires : goal.about-requires
about-requires c = rw c.update-item.is (about_at c.args.subject.now c.args.updates.now c.loop-update.update-index
    c.update-item.result c.requires.about c.loop-update-test.true)

pub loop-update-preserved : goal.loop-update-preserved
loop-update-preserved c =
    let inv = c.loop-update.invariant in
    let us = c.args.updates.now in
    let at = c.loop-update.update-index in
    let same = c.about.ensures ∙ c.update-item.is in
    let none : find register_cmp c.about.result.register
    (entries_of (large_updates c.loop-update.tree.entries c.loop-update.nodes.items)) ≡ None =
    rw (inv.filled, same) (not_yet us at c.requires.ordered c.loop-update-test.true c.update-item.result) in
    record {
      kept = c.in_ok-take_in.ensures.kept;
      filled = c.in_ok-take_in.ensures.takes.entries ∙ rw (none, inv.filled, same)
          (filled_more us at c.requires.ordered c.loop-update-test.true c.update-item.result);
    }

pub returns : goal.returns
returns c =
    let inv = c.loop-update.invariant in
    let us = c.args.updates.now in
    let all : length us ≤ c.loop-update.update-index = omega (arith, c.loop-update-test.false) in
    same_updates (large_updates c.loop-update.tree.entries c.loop-update.nodes.items) us (inv.filled
    ∙ ap entries_of (take_all c.loop-update.update-index us all))
