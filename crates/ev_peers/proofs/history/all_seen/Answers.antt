use Rattle.std.proofs.Common.{rules, refl, ◌<◌, length, ◌≡◌, Option, Some, List, slice_get}
use Rattle.std.proofs.lemmas.Option.{slice_get_read}
use Rattle.ev_book.proofs.Prefixes.{prefix_self, prefix_trans}
use Rattle.ev_peers.proofs.Histories.{seen_step, seen_first}
use Rattle.ev_peers.proofs.history.all_seen.Goals as goal

pub loop-place-init : goal.loop-place-init
loop-place-init g c = record { front = prefix_self c.args.front; seen = seen_first c.args.front c.args.seats.now }

pub loop-place-preserved : goal.loop-place-preserved
loop-place-preserved g c =
    let inv = c.loop-place.invariant in
    let all = c.loop-place.all in
    let more = c.with_seen-all.result in
    let k = c.loop-place.place in
    let seats = c.args.seats.now in
    let there : k < length seats = search rules in
    let seat = c.index-seats-place.result in
    let at : slice_get seats k ≡ Some seat = slice_get_read seats (length seats) k seat refl there
    c.index-seats-place.is in
    record {
      front = prefix_trans c.args.front all more inv.front c.with_seen-all.ensures.front;
      seen = seen_step k all more seats seat inv.seen c.with_seen-all.ensures.front at c.with_seen-all.ensures.seat;
    }
