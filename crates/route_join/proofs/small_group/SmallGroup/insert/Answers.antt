use Rattle.std.proofs.Common.{◌≡◌, ◌<◌, ◌≤◌, ◌^◌, ℕ, Err, List, [], length, refl, arith}
use Rattle.std.specs.List.{insert}
use Rattle.route_wire.specs.Fields.{Fields}
use Rattle.route_join.specs.Table.{IsOrdered}
use Rattle.route_join.specs.Inner.Place.{place_of}
use Rattle.route_join.specs.Inner.Group.{told}
use Rattle.route_join.proofs.Places.{IsGap, gapped}
use Rattle.route_join.proofs.Edits.{inserted, ordered_put}
use Rattle.route_join.proofs.Leaders.{winner_inserted, winner_movable}
use Rattle.route_join.proofs.small_group.SmallGroup.insert.Goals as goal

-- the gap for an update, which is that of its entry e
module _ {us now : List Fields} {u e : Fields} {at : ℕ} (k : IsOrdered us) (is : e ≡ u) (view : us ≡ now)
    (h : place_of now u.register ≡ Err at) where
  gap : IsGap us e.register at
  gap = gapped us e.register at k (rw (is, view) h)

  in_order : IsOrdered (insert us at e)
  in_order = ordered_put [] us (insert us at e) e k (gap.write e refl)

pub insert_at-requires : goal.insert_at-requires
insert_at-requires c =
    let w : c.args.at ≤ length c.self.inside.updates.items =
    (gap c.self.invariant.ordered c.of.ensures c.self.view_is c.requires).within in
    omega arith

pub moved-requires : goal.moved-requires
moved-requires c =
    let v = c.self.inside.updates in
    let few : length v.items < 2 ^ 63 = omega (arith, v.ok.0, v.ok.1, v.small) in
    winner_movable v.items (told v.items) c.self.inside.winner c.self.invariant.winner few

pub better_place-self-inside-requires : goal.better_place-self-inside-requires
better_place-self-inside-requires c =
    rw (c.deref.ensures.value, inserted _ _ _ _ c.insert_at.ensures c.if-is_err.ensures.negation)
    (in_order c.self.invariant.ordered c.of.ensures c.self.view_is c.requires)

pub invariant_of-self-2 : goal.invariant_of-self-2
invariant_of-self-2 c =
    let us = c.self.inside.updates.items in
    let e = c.of.result in
    let there : c.insert_at.new.updates.items ≡ insert us c.args.at e =
    inserted _ _ _ _ c.insert_at.ensures c.if-is_err.ensures.negation in
    rw (c.better_place-self-inside.ensures, c.deref.ensures.value, c.moved.ensures, there) record {
      ordered = in_order c.self.invariant.ordered c.of.ensures c.self.view_is c.requires;
      winner = winner_inserted us c.args.at e c.self.inside.winner
          (gap c.self.invariant.ordered c.of.ensures c.self.view_is c.requires) c.self.invariant.winner;
    }

pub returns-clause-ok : goal.returns-clause-ok
returns-clause-ok c = rw (
  inserted _ _ _ _ c.insert_at.ensures c.if-is_err.ensures.negation,
  ← c.of.ensures,
  ← c.self.view_is,
) ((gap c.self.invariant.ordered c.of.ensures c.self.view_is c.requires).write c.of.result refl)
