use Rattle.std.proofs.Common.{ℕ, List, ap, subst, ◌∙◌}
use Rattle.route_wire.specs.Record.{is_length}
use Rattle.route_wire.specs.Feed.{Held, shown}
use Rattle.ev_exchange.specs.Receiving.{Received, Given, HasReceived, Delivers}
use Rattle.ev_exchange.specs.Inner.Receiving.{end_of_next}
use Rattle.route_wire.proofs.Steps.{same_after}
use Rattle.ev_exchange.proofs.Receiving.{delivered}
use Rattle.ev_exchange.proofs.receiver.Receiver.end.Goals as goal

pub invariant_of-self : goal.invariant_of-self
invariant_of-self c =
    let same = c.next-next.ensures.after ∙ same_after c.self.inside.feed c.self.invariant.1 in (
      ap (λ (x : Held). x.newest) same ∙ c.self.invariant.0,
      ap (λ (x : Held). is_length (shown x)) same ∙ c.self.invariant.1,
    )

pub returns-clause-same : goal.returns-clause-same
returns-clause-same c =
    ap (λ (x : Held). record { feed = x; counts = c.self.inside.counts })
    (c.next-next.ensures.after ∙ same_after c.self.inside.feed c.self.invariant.1) ∙ c.self.view_is

pub returns-clause-delivers : goal.returns-clause-delivers
returns-clause-delivers c =
    let same = c.next-next.ensures.after ∙ same_after c.self.inside.feed c.self.invariant.1 in
    subst (λ (r : Received). (start given : Given) (stream : List ℕ)
    → HasReceived r start given stream → Delivers stream start given r.counts c.end_of_next.result) c.self.view_is
    (delivered (record { feed = c.self.inside.feed; counts = c.self.inside.counts }) c.self.invariant.0
    c.self.invariant.1 c.next-next.result c.next-next.ensures.value c.end_of_next.result
    (c.end_of_next.ensures ∙ ap (λ (x : Held). end_of_next c.next-next.result x.rest) same))
