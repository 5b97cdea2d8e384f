use Rattle.std.proofs.Common.{sym, ◌∙◌}
use Rattle.route_wire.proofs.Feeding.{read_answer}
use Rattle.route_wire.proofs.Prefixes.{held_whole, whole_of_all}
use Rattle.route_wire.proofs.feed.Feed.next_into.Goals as goal

pub read_into-refusal-requires : goal.read_into-refusal-requires
read_into-refusal-requires c = rw c.as_slice-in-Length.ensures.value
    (whole_of_all c.self.inside.newest c.self.inside.held.items c.self.invariant.0
    (held_whole c.self.inside.newest c.self.inside.held.items c.in-Length.field-0 c.self.invariant.1
    (rw (← c.as_slice.ensures.value) (sym c.whole_up_to.ensures ∙ c.in-Length.is))))

pub returns-in-Length-clause-read : goal.returns-in-Length-clause-read
returns-in-Length-clause-read c = rw (← c.self.view_is, c.clear.ensures) (λ stream answers.
    read_answer c.self.inside.newest c.self.inside.held.items stream answers _
    (held_whole c.self.inside.newest c.self.inside.held.items c.in-Length.field-0 c.self.invariant.1
    (rw (← c.as_slice.ensures.value) (sym c.whole_up_to.ensures ∙ c.in-Length.is)))
    (rw (c.answer.ensures, c.read_into-refusal.ensures, c.as_slice-in-Length.ensures.value)))
