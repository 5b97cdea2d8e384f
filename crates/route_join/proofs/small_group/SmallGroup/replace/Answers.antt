use Rattle.std.proofs.Common.{◌≡◌, ◌<◌, ℕ, Ok, List, [], length, refl, sym, ◌∙◌, arith, set}
use Rattle.route_wire.specs.Fields.{Fields}
use Rattle.route_join.specs.Table.{IsOrdered}
use Rattle.route_join.specs.Owner.{advert_in}
use Rattle.route_join.specs.Inner.Place.{place_of}
use Rattle.route_join.specs.Inner.Group.{said_at, stays_best}
use Rattle.route_join.proofs.Places.{IsPlace, placed}
use Rattle.route_join.proofs.Edits.{ordered_put}
use Rattle.route_join.proofs.Leaders.{winner_set, winner_stays}
use Rattle.route_join.proofs.small_group.SmallGroup.replace.Goals as goal

-- the place of an update, which is that of its entry e
module _ {us now : List Fields} {u e : Fields} {at : ℕ} (is : e ≡ u) (view : us ≡ now)
    (h : place_of now u.register ≡ Ok at) where
  there : IsPlace us e.register at
  there = placed us e.register at (rw (is, view) h)

  in_order : IsOrdered us → IsOrdered (set us at e)
  in_order k = ordered_put [] us (set us at e) e k (there.write e refl)

pub index_mut-requires : goal.index_mut-requires
index_mut-requires c =
    let w : c.args.at < length c.self.inside.updates.items =
    (there {u = c.args.update.now} refl c.self.view_is c.requires).within in
    omega arith

pub winner_after-self-inside-requires-clause-ordered : goal.winner_after-self-inside-requires-clause-ordered
winner_after-self-inside-requires-clause-ordered c =
    rw c.deref-2.ensures.value (in_order c.of.ensures c.self.view_is c.requires c.self.invariant.ordered)

pub winner_after-self-inside-requires-clause-other : goal.winner_after-self-inside-requires-clause-other
winner_after-self-inside-requires-clause-other c = λ ne.
    rw c.deref-2.ensures.value (winner_set c.self.inside.updates.items c.args.at c.of.result c.self.inside.winner
    c.self.invariant.ordered (there c.of.ensures c.self.view_is c.requires) c.self.invariant.winner ne)

pub winner_after-self-inside-requires-clause-same : goal.winner_after-self-inside-requires-clause-same
winner_after-self-inside-requires-clause-same c = λ is stays.
    let seen = sym c.deref.ensures.value in
    let test = (λ i. stays_best (said_at (seen i) c.args.at) (advert_in ((c.of.ensures i).value.content)))
    ∙ c.stays_winner-stays.ensures stays in
    rw (c.deref-2.ensures.value, is) (winner_stays c.self.inside.updates.items c.args.at c.of.result
    (there c.of.ensures c.self.view_is c.requires) (rw is at c.self.invariant.winner) test)

pub invariant_of-self : goal.invariant_of-self
invariant_of-self c = record {
  ordered = in_order c.of.ensures c.self.view_is c.requires c.self.invariant.ordered;
  winner = rw c.deref-2.ensures.value at c.winner_after-self-inside.ensures;
}

pub returns : goal.returns
returns c = rw (← c.of.ensures, ← c.self.view_is)
    ((there c.of.ensures c.self.view_is c.requires).write c.of.result refl)
