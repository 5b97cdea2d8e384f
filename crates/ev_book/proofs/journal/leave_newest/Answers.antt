use Rattle.std.proofs.Common.{rules, ◌≡◌, length, sym, subst, ap}
use Rattle.route_join.specs.Table.{IsTableOf}
use Rattle.route_join.specs.Updates.{all_updates}
use Rattle.ev_book.specs.Journal.{Compacts}
use Rattle.ev_book.proofs.Compacting.{no_more, compacted, table_again}
use Rattle.ev_book.proofs.journal.leave_newest.Goals as goal

pub loop-update-init : goal.loop-update-init
loop-update-init c =
    let few = no_more c.args.updates.now.items c.args.table.now c.requires in
    let same : c.into_iter-update-iterator.result ≡ all_updates c.args.table.now = search rules in
    let left : length c.into_iter-update-iterator.result ≡ length (all_updates c.args.table.now) = ap length same in
    record {
      all = search rules;
      room = search (rules, few, left);
    }

pub returns-clause-compacts : goal.returns-clause-compacts
returns-clause-compacts c =
    let all : c.loop-update.updates.items ≡ all_updates c.args.table.now = search rules in
    subst (Compacts c.args.updates.now.items) (sym all) (compacted c.args.updates.now.items c.args.table.now c.requires)

pub returns-clause-table : goal.returns-clause-table
returns-clause-table c =
    let all : c.loop-update.updates.items ≡ all_updates c.args.table.now = search rules in
    subst (λ us. IsTableOf us c.args.table.now) (sym all) (table_again c.args.updates.now.items c.args.table.now)
