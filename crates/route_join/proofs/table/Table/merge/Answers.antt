use Rattle.std.proofs.Common.{◌≡◌, ◌∷◌, ◌++◌, [], true, length, Contains, ap, refl, sym, subst, ◌∙◌, arith}
use Rattle.std.proofs.Common.{append_assoc, append-nil, length-append}
use Rattle.std.proofs.lemmas.List.Elements.{Contains-append_right}
use Rattle.route_join.specs.Table.{IsListed, is_listed}
use Rattle.route_join.specs.Joins.{IsJoin}
use Rattle.route_join.proofs.Abouts.{all_updates_are}
use Rattle.route_join.proofs.Joins.{join_is}
use Rattle.route_join.proofs.Leaders.{on_ok}
use Rattle.route_join.proofs.Merging.{all_is, on_err, refused_memory, joins_first, join_all, updates_append}
use Rattle.route_join.proofs.table.Table.merge.Goals as goal

pub loop-update-init : goal.loop-update-init
loop-update-init c = record {
  done = [];
  whole = c.into_iter-update-iterator.ensures.into_iter_gives ∙ c.of-update-items.ensures
      ∙ sym (all_is c.other.invariant.grouped c.other.view_is);
  merged = refl;
  counted = omega arith;
  listeners = refl;
}

pub loop-update-preserved : goal.loop-update-preserved
loop-update-preserved c =
    let inv = c.loop-update.invariant in
    let u = c.in-Some.update in
    record {
      done = inv.done ++ u ∷ [];
      whole = rw (append_assoc, ← c.in-Some.ensures.steps) inv.whole;
      merged = on_ok c.take.result _ c.take.ensures.table (sym c.is_err.ensures.value ∙ c.if-is_err.false)
          ∙ rw (inv.merged, updates_append c.args.self.now inv.done (u ∷ []));
      counted = omega (arith, inv.counted, length-append inv.done (u ∷ []));
      listeners = c.take.ensures.listeners ∙ inv.listeners;
    }

pub returns-then-is_err-clause-part : goal.returns-then-is_err-clause-part
returns-then-is_err-clause-part c =
    let inv = c.loop-update.invariant in
    let u = c.in-Some.update in
    let failed = sym c.is_err.ensures.value ∙ c.if-is_err.true in
    let stayed = on_err c.take.result _ c.take.ensures.err failed in
    let whole = ap (λ x. inv.done ++ x) (sym c.in-Some.ensures.steps) ∙ inv.whole in
    let there : is_listed c.args.other.now u.register.originator ≡ true =
    subst IsListed c.other.view_is c.other.invariant.grouped.kept.listed u.register u.value
    ((all_updates_are c.args.other.now).own u (subst (λ us. Contains us u) whole
    (Contains-append_right inv.done (u ∷ c.next.new.self) u (0, omega arith, refl)))) in
    let listed : is_listed c.loop-update.self u.register.originator ≡ true = rw inv.listeners (c.requires _ there) in
    joins_first c.args.self.now c.args.other.now c.take.new.self inv.done c.next.new.self u c.loop-update.joined whole
    inv.counted (stayed ∙ inv.merged) (rw stayed (c.take.ensures.no_memory (refused_memory c.take.result failed
    (λ h. let f = c.take.ensures.unknown.0 h in cc))))

pub overflow_add-joined : goal.overflow_add-joined
overflow_add-joined c =
    let inv = c.loop-update.invariant in
    let all = ap length (inv.whole ∙ all_is c.other.invariant.grouped c.other.view_is) in
    omega (
      arith,
      inv.counted,
      ap length c.in-Some.ensures.steps,
      length-append inv.done c.loop-update.update-iterator,
      all,
      c.other.invariant.counted,
      c.other.invariant.few,
    )

pub returns-clause-merged : goal.returns-clause-merged
returns-clause-merged c =
    let inv = c.loop-update.invariant in
    join_all c.args.self.now c.args.other.now c.loop-update.self inv.done
    (sym (append-nil inv.done) ∙ ap (λ x. inv.done ++ x) (sym c.in-None.ensures.steps.0) ∙ inv.whole) inv.merged

pub returns-clause-joined : goal.returns-clause-joined
returns-clause-joined c = subst (IsJoin c.args.self.now c.args.other.now) (sym (returns-clause-merged c))
    (join_is c.args.self.now c.args.other.now)
