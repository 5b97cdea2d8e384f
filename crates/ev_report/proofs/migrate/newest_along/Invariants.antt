use Rattle.std.proofs.Common.{◌≡◌, drop}
use Rattle.ev_report.specs.Migrated.{newest_along}
use Rattle.ev_report.specs.Inner.Migrated.{behind}
use Rattle.ev_report.proofs.migrate.newest_along.Given as goal

-- the newest from here on is the newest from the first
abbrev pub invariant-loop-update : goal.invariant-loop-update
invariant-loop-update l = record {
  can_next : (goal.iterator-loop-update).can_next l.ahead;
  is_finite : (goal.iterator-loop-update).is_finite l.ahead;
  newest : newest_along l.newest l.ahead ≡ newest_along l.fn.first l.initial.ahead;
  ahead : drop 1 (behind l.newest l.ahead) ≡ drop 1 (behind l.fn.first l.initial.ahead);
}
