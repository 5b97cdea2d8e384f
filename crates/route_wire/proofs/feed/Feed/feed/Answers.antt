use Rattle.std.proofs.Common.{◌≡◌, rules, sym, ap, take, ◌∙◌}
use Rattle.route_wire.specs.declared.stream.Whole.TheVariants.{Rest}
use Rattle.route_wire.specs.Stream.{whole_up_to}
use Rattle.route_wire.specs.Feed.{is_fault}
use Rattle.route_wire.proofs.Feeding.{read_skipping, read_taking, held_more}
use Rattle.route_wire.proofs.feed.Feed.feed.Goals as goal

pub invariant_of-self : goal.invariant_of-self
invariant_of-self c = (
  c.self.invariant.0,
  rw c.take_octets.ensures.taken (held_more c.self.inside.newest c.self.inside.held.items c.args.piece.now
      c.take_octets.result c.take_octets.ensures.fits c.self.invariant.1 c.take_octets.ensures.unfinished),
)

pub returns-in-Fault-clause-read : goal.returns-in-Fault-clause-read
returns-in-Fault-clause-read c = λ stream answers. read_skipping c.args.self.now stream c.args.piece.now answers
    (rw (← c.self.view_is, ← c.as_slice.ensures.value) (ap is_fault (sym c.whole_up_to.ensures ∙ c.in-Fault.is)))

-- the held octets are a proper beginning of a record
rests : (c : goal.After-take_octets) → whole_up_to c.self.inside.newest c.self.inside.held.items ≡ Rest
rests c = rw (← c.as_slice.ensures.value) (sym c.whole_up_to.ensures ∙ c.in-Rest.is)

pub returns-in-Rest-clause-feeds : goal.returns-in-Rest-clause-feeds
returns-in-Rest-clause-feeds c = rw (← c.self.view_is, rests c) (search rules)

pub returns-in-Rest-clause-read : goal.returns-in-Rest-clause-read
returns-in-Rest-clause-read c = rw (← c.self.view_is, c.take_octets.ensures.taken) (λ stream answers.
    read_taking c.self.inside.newest c.self.inside.held.items (take c.take_octets.result c.args.piece.now) stream
    answers (rests c))
