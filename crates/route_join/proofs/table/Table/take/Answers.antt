use Rattle.std.proofs.Common.{Ok, refl, ap, sym, ◌∙◌}
use Rattle.std.proofs.lemmas.Option.{none-some}
use Rattle.route_join.specs.Group.{updates_in}
use Rattle.route_join.proofs.Edits.{found, listed_by, not_unknown}
use Rattle.route_join.proofs.Holding.{kept_with, table_with, taken_is}
use Rattle.route_join.proofs.Taking.{counted_with}
use Rattle.route_join.proofs.table.Table.take.Goals as goal

pub returns-in_default-clause-unknown : goal.returns-in_default-clause-unknown
returns-in_default-clause-unknown c = rw (← c.self.view_is) (not_unknown _ _ (listed_by c.as_slice.ensures.value
    c.register-originator.ensures c.if-not-is_among.ensures) (λ h. cc))

pub returns-in_default-clause-no_memory : goal.returns-in_default-clause-no_memory
returns-in_default-clause-no_memory c = λ h. rw (
  ← c.self.view_is,
  found c.self.inside.originators.items
      (updates_in c.self.inside.groups) c.args.update.now.register c.self.invariant.grouped.kept.ordered,
)
    c.in_default.ensures.takes.absent

pub invariant_of-self-2 : goal.invariant_of-self-2
invariant_of-self-2 c = record {
  grouped = record {
    kept = kept_with c.self.invariant.grouped.kept refl c.args.update.now _ c.in-Ok.ensures.takes.entries
        c.always_well_formed.ensures
        (listed_by c.as_slice.ensures.value c.register-originator.ensures c.if-not-is_among.ensures);
    groups = c.in-Ok.ensures.groups;
  };
  counted = counted_with (updates_in c.self.inside.groups) (updates_in c.take.new.self) c.args.update.now
      c.self.inside.held c.take.new.held c.self.invariant.grouped.kept.ordered c.in-Ok.ensures.takes.entries
      c.self.invariant.counted c.in-Ok.ensures.takes.counted;
  few = c.in-Ok.ensures.takes.few c.self.invariant.few;
}

pub returns-clause-taken : goal.returns-clause-taken
returns-clause-taken c = c.in-Ok.ensures.takes.taken
    ∙ taken_is c.self.invariant.grouped.kept c.self.view_is c.args.update.now

pub returns-clause-table : goal.returns-clause-table
returns-clause-table c = table_with c.self.invariant.grouped.kept c.self.view_is c.args.update.now
    (updates_in c.take.new.self) c.in-Ok.ensures.takes.entries

pub returns-clause-unknown : goal.returns-clause-unknown
returns-clause-unknown c = rw (← c.self.view_is) (not_unknown _ _ (listed_by c.as_slice.ensures.value
    c.register-originator.ensures c.if-not-is_among.ensures) (λ h. cc))

-- an update of a listed originator at a known register is always taken
pub returns-clause-there : goal.returns-clause-there
returns-clause-there c = λ v at listed. (ap Ok (returns-clause-taken c), returns-clause-table c)

pub returns-in_default-clause-there : goal.returns-in_default-clause-there
returns-in_default-clause-there c = λ v at listed.
    absurd (none-some v (sym (returns-in_default-clause-no_memory c refl) ∙ at))
