use Rattle.std.proofs.Common.{rules, ◌≡◌, Some, None, List, [], ◌∷◌, cond, Ok, OnErr, refl, ap, sym, ◌∙◌, arith}
use Rattle.std.specs.BTreeMap.{insert_entry, is_at}
use Rattle.std.specs.HashMap.Entry.{entry_value, map_with_value}
use Rattle.std.specs.Map.{set_value}
use Rattle.std.proofs.lemmas.Map.Steps.{set_value_same}
use Rattle.std.proofs.lemmas.Result.{on_err_weaker}
use Rattle.route_wire.specs.Fields.{Fields}
use Rattle.route_join.specs.declared.table.Taken.TheVariants.{Newer}
use Rattle.route_join.specs.Subject.{Subject, subject_cmp, subject_of}
use Rattle.route_join.specs.Table.{entries_of}
use Rattle.route_join.specs.Inner.Group.{Takes}
use Rattle.route_join.specs.Inner.Groups.{group_at, group_in, groups_along}
use Rattle.route_join.specs.Inner.Subject.{subject_eq}
use Rattle.route_join.proofs.Groupings.{about_there, set_inserts}
use Rattle.route_join.proofs.Indexed.{found_of, written_as, set_indexed, new_indexed, entered, not_among}
use Rattle.route_join.proofs.Leaders.{on_ok, new_takes, refused_takes}
use Rattle.route_join.proofs.Taking.{groups_after, takes_after, found_in}
use Rattle.route_join.proofs.groups.take_in.Goals as goal

pub take-requires : goal.take-requires
take-requires c =
    let at : Some c.into_mut.result.now ≡ group_in c.args.index.now.entries c.subject_of-subject.result =
    sym c.into_mut.ensures.value ∙ ap entry_value (sym c.in-Ok-Occupied.field-0-is) ∙ c.in-Ok-Occupied.ensures.value in
    about_there _ c.requires.groups refl
    (found_of c.requires.indexed refl c.subject_of-subject.ensures c.register.ensures at)

-- ---- a subject that has a group
module _ (c : goal.After-index-in-Ok-Occupied-1) where
  abbrev changed : List (Subject × List Fields)
  changed = (map_with_value c.in-Ok-Occupied.field-0 c.take.new.self).entries

  at : Some c.into_mut.result.now ≡ group_in c.args.index.now.entries c.subject_of-subject.result
  at = sym c.into_mut.ensures.value ∙ ap entry_value (sym c.in-Ok-Occupied.field-0-is)
      ∙ c.in-Ok-Occupied.ensures.value

  there : Some c.into_mut.result.now
      ≡ group_at (subject_of c.args.update.now.register.key) (groups_along c.args.order.now.keys
      c.args.index.now.entries)
  there = found_of c.requires.indexed refl c.subject_of-subject.ensures c.register.ensures at

  each : (q : Subject) → group_in changed q
      ≡ cond (subject_eq c.subject_of-subject.result q) (Some c.take.new.self) (group_in c.args.index.now.entries q)
  each = (c.in-Ok-Occupied.ensures.update.0 c.take.new.self).0

  written : groups_along c.args.order.now.keys changed
      ≡ set_value (is_at (subject_cmp (subject_of c.args.update.now.register.key)))
      (groups_along c.args.order.now.keys c.args.index.now.entries) c.take.new.self
  written = written_as c.requires.indexed refl c.take.new.self changed
      (rw (← c.register.ensures) c.subject_of-subject.ensures) each

  inserted : groups_along c.args.order.now.keys changed
      ≡ insert_entry subject_cmp (groups_along c.args.order.now.keys c.args.index.now.entries)
      (subject_of c.args.update.now.register.key) c.take.new.self
  inserted = written ∙ set_inserts _ _ c.into_mut.result.now c.take.new.self c.requires.groups (sym there)

  unchanged : OnErr c.take.result (groups_along c.args.order.now.keys changed
      ≡ groups_along c.args.order.now.keys c.args.index.now.entries)
  unchanged = on_err_weaker c.take.result (λ e. written ∙ set_value_same _ _ c.take.new.self (rw e (sym there)))
      c.take.ensures.err

pub returns-in-Ok-Occupied-clause-indexed : goal.returns-in-Ok-Occupied-clause-indexed
returns-in-Ok-Occupied-clause-indexed c = search (
  rules,
  set_indexed c.subject_of-subject.result c.take.new.self _
      (changed c) (each c) (at c) c.requires.indexed,
)

pub returns-in-Ok-Occupied-clause-takes : goal.returns-in-Ok-Occupied-clause-takes
returns-in-Ok-Occupied-clause-takes c = search (
  rules,
  takes_after _ c.args.update.now c.requires.groups (there c) _
      (inserted c) c.take.ensures.takes,
)

pub returns-in-Ok-Occupied-clause-groups : goal.returns-in-Ok-Occupied-clause-groups
returns-in-Ok-Occupied-clause-groups c = search (
  rules,
  groups_after _ c.args.update.now c.requires.groups (there c) _
      (inserted c) c.take.result c.take.ensures.takes (unchanged c),
)

pub returns-in-Ok-Occupied-clause-err : goal.returns-in-Ok-Occupied-clause-err
returns-in-Ok-Occupied-clause-err c = search (rules, unchanged c)

-- ---- memory is refused, or the count is full
pub returns-in_default-clause-takes : goal.returns-in_default-clause-takes
returns-in_default-clause-takes c =
    let none : None ≡ group_in c.args.index.now.entries c.subject_of-subject.result = search rules in
    refused_takes (found_in _ c.args.update.now c.requires.groups
    (found_of c.requires.indexed refl c.subject_of-subject.ensures c.register.ensures none))

pub returns-then-is_err-clause-takes : goal.returns-then-is_err-clause-takes
returns-then-is_err-clause-takes c =
    let none : None ≡ group_in c.args.index.now.entries c.subject_of-subject.result = search rules in
    refused_takes (found_in _ c.args.update.now c.requires.groups
    (found_of c.requires.indexed refl c.subject_of-subject.ensures c.register.ensures none))

pub returns-in-Err-clause-takes : goal.returns-in-Err-clause-takes
returns-in-Err-clause-takes c = refused_takes (found_in _ c.args.update.now c.requires.groups
    (found_of c.requires.indexed refl c.subject_of-subject.ensures c.register.ensures (sym c.in-Err.ensures.absent)))

-- ---- a new subject
module _ (c : goal.After-index-in-Ok-Vacant-2-1) where
  abbrev grown : List (Subject × List Fields)
  grown = (map_with_value c.in-Ok-Vacant.field-0 c.new.result).entries

  none : None ≡ group_in c.args.index.now.entries c.subject_of-subject.result
  none = search rules

  absent : None
      ≡ group_at (subject_of c.args.update.now.register.key) (groups_along c.args.order.now.keys
      c.args.index.now.entries)
  absent = found_of c.requires.indexed refl c.subject_of-subject.ensures c.register.ensures none

  all : (q : Subject) → group_in grown q
      ≡ cond (subject_eq c.subject_of-subject.result q) (Some c.new.result) (group_in c.args.index.now.entries q)
  all = (c.in-Ok-Vacant.ensures.update.0 c.new.result).0

  made : groups_along c.insert.new.self.keys grown
      ≡ insert_entry subject_cmp (groups_along c.args.order.now.keys c.args.index.now.entries)
      (subject_of c.args.update.now.register.key) (c.args.update.now ∷ [])
  made =
      ap (λ ks. groups_along ks grown) (on_ok c.insert.result _ c.insert.ensures.keys (sym c.is_err.ensures.value
      ∙ c.if-is_err.false))
      ∙ entered c.subject_of-subject.result c.new.result c.args.index.now.entries grown all c.args.order.now.keys
      (not_among c.requires.indexed refl _ none)
      ∙ rw (c.subject_of-subject.ensures, c.register.ensures, c.new.ensures)

  takes : Takes [] c.args.update.now c.args.held.now (Ok Newer) (entries_of (c.args.update.now ∷ [])) c.in-Some.more
  takes = new_takes refl refl c.in-Some.ensures.1 (omega (arith, c.in-Some.ensures.0))

pub returns-else-is_err-clause-indexed : goal.returns-else-is_err-clause-indexed
returns-else-is_err-clause-indexed c = search (
  rules,
  new_indexed c.subject_of-subject.result c.new.result _ (grown c)
      (all c) c.args.order.now.keys c.insert.new.self.keys c.insert.ensures.ordered (on_ok c.insert.result _
      c.insert.ensures.updates (sym c.is_err.ensures.value ∙ c.if-is_err.false)).0 c.requires.indexed,
)

pub returns-else-is_err-clause-takes : goal.returns-else-is_err-clause-takes
returns-else-is_err-clause-takes c = search (
  rules,
  takes_after _ c.args.update.now c.requires.groups (absent c)
      (c.args.update.now ∷ []) (made c) (takes c),
)

pub returns-else-is_err-clause-groups : goal.returns-else-is_err-clause-groups
returns-else-is_err-clause-groups c = search (
  rules,
  groups_after _ c.args.update.now c.requires.groups (absent c)
      (c.args.update.now ∷ []) (made c) (Ok Newer) (takes c) tt,
)
