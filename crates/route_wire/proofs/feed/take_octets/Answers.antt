use Rattle.route_wire.proofs.Feeding.{take_both, first_then}
use Rattle.route_wire.proofs.feed.take_octets.Goals as goal

pub returns-clause-taken : goal.returns-clause-taken
returns-clause-taken c =
    rw (c.take_body.ensures.taken, c.take_head-head.ensures.taken, c.split_at.ensures.back)
    (take_both c.args.held.now.items c.args.piece.now c.take_head-head.result c.take_body.result)

pub returns-clause-unfinished : goal.returns-clause-unfinished
returns-clause-unfinished c =
    first_then _ c.take_head-head.result c.take_body.result c.take_head-head.ensures.unfinished (λ j less.
    rw (c.take_head-head.ensures.taken, c.split_at.ensures.back, take_both) at
    (c.take_body.ensures.unfinished j less))
