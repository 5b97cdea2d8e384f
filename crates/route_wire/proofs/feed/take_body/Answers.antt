use Rattle.std.proofs.Common.{◌≡◌, ◌+◌, ◌-◌, take, length, min, sym, ◌∙◌, arith}
use Rattle.std.proofs.lemmas.Bool.{ltb-true, lt-ltb}
use Rattle.std.proofs.lemmas.List.{length-take}
use Rattle.route_wire.specs.Stream.{follow_of}
use Rattle.route_wire.proofs.Prefixes.{goes_on}
use Rattle.route_wire.proofs.feed.take_body.Goals as goal

-- how many octets are moved
least : (c : goal.In-Ok) → c.min-count.result ≡ min (length c.args.piece.now)
    (6 + follow_of c.args.held.now.items - length c.args.held.now.items)
least c = rw (
  c.min-count.ensures,
  c.read_u16.ensures,
  c.split_at.ensures.back,
  c.as_slice.ensures.value,
  c.len.ensures.value,
)

pub returns-clause-unfinished : goal.returns-clause-unfinished
returns-clause-unfinished c = λ k less.
    goes_on c.args.newest c.args.held.now.items (take k c.args.piece.now) c.requires.six c.requires.rest
    ∙ lt-ltb _ _ (omega (arith, length-take k c.args.piece.now, least c))

pub returns-clause-ended : goal.returns-clause-ended
returns-clause-ended c = λ h.
    let known = goes_on c.args.newest c.args.held.now.items (take c.min-count.result c.args.piece.now) c.requires.six
    c.requires.rest in
    let less = ltb-true _ _ (sym known ∙ rw c.in-Ok.ensures.ok at h) in
    omega (arith, length-take c.min-count.result c.args.piece.now, least c)
