use Rattle.std.proofs.Common.{◌≡◌, ◌++◌, List, length}
use Rattle.route_wire.specs.Fields.{Fields}
use Rattle.route_join.specs.Table.{with_updates}
use Rattle.route_join.specs.Updates.{all_updates}
use Rattle.route_join.proofs.table.Table.merge.Given as goal

-- the updates that are done, followed by those that are left, are all updates
abbrev pub invariant-loop-update : goal.invariant-loop-update
invariant-loop-update l = record {
  done : List Fields;
  whole : done ++ l.update-iterator ≡ all_updates l.other;
  merged : l.self ≡ with_updates l.initial.self done;
  counted : l.joined ≡ length done;
  listeners : l.self.originators ≡ l.initial.self.originators;
}
