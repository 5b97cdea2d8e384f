use Rattle.std.proofs.Common.{rules, ◌≡◌, Some, None, cond, ◌++◌, ◌∷◌, [], length, ap, refl, sym, ◌∙◌, arith}
use Rattle.std.specs.BTreeMap.{is_at}
use Rattle.std.specs.BTreeMap.Entry.{entry_value, map_with_value}
use Rattle.std.proofs.lemmas.List.{length-map}
use Rattle.route_wire.specs.declared.update.Register.{Register}
use Rattle.route_wire.specs.Order.{register_cmp}
use Rattle.route_join.specs.declared.winner_tree.WinnerNode.{WinnerNode}
use Rattle.route_join.specs.Inner.WinnerTree.{owns}
use Rattle.route_join.specs.Inner.LargeGroup.{place_at}
use Rattle.route_join.proofs.Leaders.{known_takes, newer_takes, new_takes, refused_takes}
use Rattle.route_join.proofs.Trees.{found_now, has_place, compared, within, replaced_group, replaced_put}
use Rattle.route_join.proofs.Trees.{entered_group, entered_put}
use Rattle.route_join.proofs.large_group.take_in.Goals.{After-push}
use Rattle.route_join.proofs.large_group.take_in.Goals as goal

pub replace-requires-clause-within : goal.replace-requires-clause-within
replace-requires-clause-within c =
    let at = sym c.get-place.ensures ∙ ap entry_value (sym c.in-Ok-Occupied.field-0-is)
    ∙ c.in-Ok-Occupied.ensures.value ∙ ap (place_at c.args.tree.now.entries) c.new.ensures in
    let w = within c.requires refl c.register.ensures at in
    let v = c.args.nodes.now in
    omega (arith, w, v.ok.0)

pub returns-then-not-is_newer_there-clause-takes : goal.returns-then-not-is_newer_there-clause-takes
returns-then-not-is_newer_there-clause-takes c =
    let at = sym c.get-place.ensures ∙ ap entry_value (sym c.in-Ok-Occupied.field-0-is)
    ∙ c.in-Ok-Occupied.ensures.value ∙ ap (place_at c.args.tree.now.entries) c.new.ensures in
    let newer = compared c.requires refl c.register.ensures at c.is_newer_there.result c.args.update.now.value
    c.deref.ensures.value c.is_newer_there.ensures in
    search (
      rules,
      known_takes _ c.args.update.now (found_now c.requires refl c.register.ensures at) newer
          c.args.held.now c.if-not-is_newer_there.true,
    )

module _ (c : goal.After-replace) where
  at : Some c.get-place.result.now ≡ place_at c.args.tree.now.entries c.register.result
  at = sym c.get-place.ensures ∙ ap entry_value (sym c.in-Ok-Occupied.field-0-is) ∙ c.in-Ok-Occupied.ensures.value
      ∙ ap (place_at c.args.tree.now.entries) c.new.ensures

pub returns-else-not-is_newer_there-clause-kept : goal.returns-else-not-is_newer_there-clause-kept
returns-else-not-is_newer_there-clause-kept c = search (
  rules,
  replaced_group c.args.tree.now.entries
      c.args.nodes.now.items c.replace.new.nodes.items c.args.update.now c.requires c.replace.ensures.settled (has_place
      c.requires refl c.register.ensures (at c)) c.replace.ensures.owns,
)

pub returns-else-not-is_newer_there-clause-takes : goal.returns-else-not-is_newer_there-clause-takes
returns-else-not-is_newer_there-clause-takes c =
    let newer = compared c.requires refl c.register.ensures (at c) c.is_newer_there.result c.args.update.now.value
    c.deref.ensures.value c.is_newer_there.ensures in
    search (
      rules,
      newer_takes _ c.args.update.now (found_now c.requires refl c.register.ensures (at c)) newer
          c.args.held.now _ (replaced_put c.args.tree.now.entries c.args.nodes.now.items c.replace.new.nodes.items
          c.args.update.now c.requires c.replace.ensures.settled (has_place c.requires refl c.register.ensures (at c))
          c.replace.ensures.owns) c.if-not-is_newer_there.false,
    )

pub returns-in_default-clause-takes : goal.returns-in_default-clause-takes
returns-in_default-clause-takes c =
    let none : None ≡ place_at c.args.tree.now.entries c.register.result = search rules in
    refused_takes (found_now c.requires refl c.register.ensures none)

pub returns-in_default-reserve-clause-takes : goal.returns-in_default-reserve-clause-takes
returns-in_default-reserve-clause-takes c =
    let none : None ≡ place_at c.args.tree.now.entries c.register.result = search rules in
    refused_takes (found_now c.requires refl c.register.ensures none)

pub returns-in-Err-clause-takes : goal.returns-in-Err-clause-takes
returns-in-Err-clause-takes c = refused_takes (found_now c.requires refl c.register.ensures
    (sym c.in-Err.ensures.absent ∙ ap (place_at c.args.tree.now.entries) c.new.ensures))

module _ (c : After-push) where
  none : None ≡ place_at c.args.tree.now.entries c.register.result
  none = search rules

  next : c.in-Ok.place ≡ length (owns c.args.nodes.now.items)
  next =
      let v = c.reserve.new.nodes in
      let long : length v.items ≡ length c.args.nodes.now.items = ap length c.reserve.ensures.items in
      let same = length-map c.args.nodes.now.items (λ (b : WinnerNode). b.own) in
      omega (arith, c.in-Ok.ensures.place, v.ok.0, long, same)

  updated : (q : Register) → place_at (map_with_value c.in-Ok-Vacant.field-0 c.in-Ok.place).entries q
      ≡ cond (is_at (register_cmp c.args.update.now.register) q) (Some (length (owns c.args.nodes.now.items)))
      (place_at c.args.tree.now.entries q)
  updated q = rw ((c.in-Ok-Vacant.ensures.update.0 c.in-Ok.place).0 q, c.new.ensures, c.register.ensures, next)

  own : owns c.push.new.nodes.items ≡ owns c.args.nodes.now.items ++ c.args.update.now ∷ []
  own = rw (c.push.ensures.owns, c.reserve.ensures.items)

pub returns-in-Ok-clause-kept : goal.returns-in-Ok-clause-kept
returns-in-Ok-clause-kept c = search (
  rules,
  entered_group c.args.tree.now.entries c.args.nodes.now.items
      c.push.new.nodes.items c.args.update.now c.requires c.push.ensures.settled (map_with_value c.in-Ok-Vacant.field-0
      c.in-Ok.place).entries (c.in-Ok-Vacant.ensures.update.2 c.in-Ok.place) (updated c) (rw (← c.register.ensures) (sym
      (none c))) (own c),
)

pub returns-in-Ok-clause-takes : goal.returns-in-Ok-clause-takes
returns-in-Ok-clause-takes c =
    let put = entered_put c.args.tree.now.entries c.args.nodes.now.items c.push.new.nodes.items c.args.update.now
    c.requires c.push.ensures.settled (map_with_value c.in-Ok-Vacant.field-0 c.in-Ok.place).entries
    (c.in-Ok-Vacant.ensures.update.2 c.in-Ok.place) (updated c)
    (rw (← c.register.ensures) (sym (none c))) (own c) in
    search (
      rules,
      new_takes {u = c.args.update.now} (found_now c.requires refl c.register.ensures (none c)) {held =
          c.args.held.now} put c.in-Some.ensures.1 (omega (arith, c.in-Some.ensures.0)),
    )
