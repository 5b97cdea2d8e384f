use Rattle.std.proofs.Common.{◌≡◌}
use Rattle.ether_wire.specs.Ends.{with_text}
use Rattle.route_join.specs.Inner.Lines.{group_lines}
use Rattle.route_join.specs.Group.{AreGroups}
use Rattle.route_join.proofs.groups.put_groups.Given as goal

-- the written text, followed by the text still to be written, is the whole text
abbrev pub invariant-loop-subject : goal.invariant-loop-subject
invariant-loop-subject g l = record {
  whole : with_text (g.O.Out.end l.initial.out) (group_lines l.groups)
      ≡ with_text (g.O.Out.end l.out) (group_lines l.subject-iterator);
  groups : AreGroups l.subject-iterator;
  failed : (g.O.Out.end l.out).failures ≡ (g.O.Out.end l.initial.out).failures;
}
