use Rattle.std.proofs.Common.{rules, refl, ◌<◌, length, ◌≡◌, Some, slice_get}
use Rattle.std.proofs.lemmas.Option.{slice_get_read}
use Rattle.ev_peers.proofs.Histories.{seen_at, settled_step, settled_first}
use Rattle.ev_peers.proofs.history.settle_all.Goals as goal

pub loop-place-init : goal.loop-place-init
loop-place-init g c = settled_first c.args.front.now c.args.seats.now

pub settle_one-requires : goal.settle_one-requires
settle_one-requires g c =
    let k = c.loop-place.place in
    let seats = c.args.seats.now in
    let there : k < length seats = search rules in
    let seat = c.index-seats-place.result in
    let at : slice_get seats k ≡ Some seat = slice_get_read seats (length seats) k seat refl there
    c.index-seats-place.is in
    seen_at k (length seats) c.args.front.now seats seat c.requires there at

pub loop-place-preserved : goal.loop-place-preserved
loop-place-preserved g c =
    let k = c.loop-place.place in
    let seats = c.args.seats.now in
    let there : k < length seats = search rules in
    let seat = c.index-seats-place.result in
    let at : slice_get seats k ≡ Some seat = slice_get_read seats (length seats) k seat refl there
    c.index-seats-place.is in
    settled_step k c.args.front.now seats seat c.loop-place.invariant at c.settle_one.ensures
