use Rattle.std.proofs.Common.{◌≡◌, ℕ, suc, ◌+◌, ◌-◌, List, Some, None, arith, sym, ap, ◌∙◌}
use Rattle.ether_wire.specs.Ends.{End, with_text}
use Rattle.route_join.specs.Updates.{updates_of}
use Rattle.ev_view.specs.Owners.{Offer, ranked, offer_lines}
use Rattle.ev_view.proofs.Ranking.{found_among, offer_told, none_told, all_told}
use Rattle.ev_view.proofs.owner.put_offers.Goals as goal

pub returns-in_default : goal.returns-in_default
returns-in_default g c =
    let us = updates_of c.args.table.now c.args.vni c.args.mac in
    let told : List ℕ = c.loop-turn.told.items in
    let none = found_among c.as_slice.result.now told c.updates_of.result us None c.as_slice.ensures.value
    c.updates_of.ensures.value c.in_default.ensures in
    sym (c.loop-turn.invariant.whole
    ∙ none_told us told (64 - c.loop-turn.turn) c.args.number (g.W.Out.end c.loop-turn.out) none)

pub loop-turn-preserved : goal.loop-turn-preserved
loop-turn-preserved g c =
    let us = updates_of c.args.table.now c.args.vni c.args.mac in
    let told : List ℕ = c.loop-turn.told.items in
    let turn = c.loop-turn.turn in
    let best : Offer = c.in-Some.offer in
    let next : End = g.W.Out.end c.put_offer.new.out in
    let test = c.loop-turn-test.true in
    let left : 64 - turn ≡ suc (64 - (turn + 1)) = omega (arith, test) in
    let found = found_among c.as_slice.result.now told c.updates_of.result us (Some best) c.as_slice.ensures.value
    c.updates_of.ensures.value c.in-Some.ensures in
    record {
      whole = c.loop-turn.invariant.whole
          ∙ offer_told us told (64 - turn) (64 - (turn + 1)) c.args.number best (g.W.Out.end c.loop-turn.out) next left
          found c.in_ok-put_offer.ensures
          ∙ ap (λ (ts : List ℕ). with_text next (offer_lines c.args.number (ranked (64 - (turn + 1)) ts us)))
          (sym c.push.ensures.items);
      failed = ap (λ (e : End). e.failures) c.in_ok-put_offer.ensures ∙ c.loop-turn.invariant.failed;
      many = c.push.ensures.len ∙ ap (λ (n : ℕ). n + 1) c.loop-turn.invariant.many;
    }

pub returns : goal.returns
returns g c =
    let us = updates_of c.args.table.now c.args.vni c.args.mac in
    let turn = c.loop-turn.turn in
    let test = c.loop-turn-test.false in
    let past : 64 - turn ≡ 0 = omega (arith, test) in
    sym (c.loop-turn.invariant.whole
    ∙ all_told us c.loop-turn.told.items (64 - turn) c.args.number (g.W.Out.end c.loop-turn.out) past)
