use Rattle.std.proofs.Common.{take, refl, sym, ◌∙◌}
use Rattle.route_wire.specs.declared.stream.Next.TheVariants.{More, Record, Refused, Fault}
use Rattle.route_wire.specs.Feed.{shown}
use Rattle.ev_exchange.specs.Receiving.{Received}
use Rattle.ev_exchange.proofs.Counting.{counts_entered}
use Rattle.ev_report.proofs.Refusals.{refused_below}
use Rattle.ev_exchange.proofs.Feeding.{takes_some, takes_kept}
use Rattle.ev_exchange.proofs.Receiving.{received_step, counts_none, none_given}
use Rattle.ev_exchange.proofs.receiver.Receiver.step.Goals as goal

pub invariant_of-self : goal.invariant_of-self
invariant_of-self g c =
    takes_kept c.self.inside.feed c.take-taken.new.self c.args.piece.now c.take-taken.result.0 c.take-taken.result.1
    c.take-taken.ensures.takes c.self.invariant.1 c.self.invariant.0

pub invariant_of-self-in-Fault : goal.invariant_of-self-in-Fault
invariant_of-self-in-Fault g c =
    takes_kept c.self.inside.feed c.take-taken.new.self c.args.piece.now c.take-taken.result.0 c.take-taken.result.1
    c.take-taken.ensures.takes c.self.invariant.1 c.self.invariant.0

pub invariant_of-self-in-Record : goal.invariant_of-self-in-Record
invariant_of-self-in-Record g c =
    takes_kept c.self.inside.feed c.take-taken.new.self c.args.piece.now c.take-taken.result.0 c.take-taken.result.1
    c.take-taken.ensures.takes c.self.invariant.1 c.self.invariant.0

pub invariant_of-self-in-Refused : goal.invariant_of-self-in-Refused
invariant_of-self-in-Refused g c =
    takes_kept c.self.inside.feed c.take-taken.new.self c.args.piece.now c.take-taken.result.0 c.take-taken.result.1
    c.take-taken.ensures.takes c.self.invariant.1 c.self.invariant.0

pub refuse-requires : goal.refuse-requires
refuse-requires g c =
    refused_below (shown c.take-taken.ensures.takes.mid) c.take-taken.ensures.takes.mid.rest c.in-Refused.refusal
    (sym c.in-Refused.is ∙ c.take-taken.ensures.takes.next)

pub returns-in-More-clause-took : goal.returns-in-More-clause-took
returns-in-More-clause-took g c =
    let octets = take c.take-taken.result.0 c.args.piece.now in
    let r : Received = record { feed = c.self.inside.feed; counts = c.self.inside.counts } in
    let s : Received = record { feed = c.take-taken.new.self; counts = c.self.inside.counts } in
    let given = g.E.Entrance.given c.args.into.now in
    received_step c.args.self.now r s given given octets c.take-taken.new.self c.take-taken.result.1 More
    c.self.view_is refl c.in-More.is c.take-taken.ensures.read (counts_none r.counts) (λ answers h. none_given given)

pub returns-in-Fault-clause-took : goal.returns-in-Fault-clause-took
returns-in-Fault-clause-took g c =
    let octets = take c.take-taken.result.0 c.args.piece.now in
    let r : Received = record { feed = c.self.inside.feed; counts = c.self.inside.counts } in
    let s : Received = record { feed = c.take-taken.new.self; counts = c.self.inside.counts } in
    let given = g.E.Entrance.given c.args.into.now in
    received_step c.args.self.now r s given given octets c.take-taken.new.self c.take-taken.result.1
    (Fault c.in-Fault.field-0) c.self.view_is refl c.in-Fault.is c.take-taken.ensures.read (counts_none r.counts)
    (λ answers h. none_given given)

pub returns-in-Record-clause-took : goal.returns-in-Record-clause-took
returns-in-Record-clause-took g c =
    let octets = take c.take-taken.result.0 c.args.piece.now in
    let r : Received = record { feed = c.self.inside.feed; counts = c.self.inside.counts } in
    let s : Received = record { feed = c.take-taken.new.self; counts = c.self.inside.counts } in
    let given = g.E.Entrance.given c.args.into.now in
    received_step c.args.self.now r s given (g.E.Entrance.given c.enter.new.self) octets c.take-taken.new.self
    c.take-taken.result.1 (Record c.in-Record.update) c.self.view_is refl c.in-Record.is c.take-taken.ensures.read
    (λ answers h. counts_entered r.counts answers c.in-Record.update h) (λ answers h. c.enter.ensures)

pub returns-in-Refused-clause-took : goal.returns-in-Refused-clause-took
returns-in-Refused-clause-took g c =
    let octets = take c.take-taken.result.0 c.args.piece.now in
    let r : Received = record { feed = c.self.inside.feed; counts = c.self.inside.counts } in
    let given = g.E.Entrance.given c.args.into.now in
    received_step c.args.self.now r c.refuse.new.self given (g.E.Entrance.given c.refuse.new.into) octets
    c.take-taken.new.self c.take-taken.result.1 (Refused c.in-Refused.refusal) c.self.view_is c.refuse.ensures.feed
    c.in-Refused.is c.take-taken.ensures.read c.refuse.ensures.counts c.refuse.ensures.told

pub returns-in-More-clause-some : goal.returns-in-More-clause-some
returns-in-More-clause-some g c =
    takes_some c.self.inside.feed c.take-taken.new.self c.args.piece.now c.take-taken.result.0 c.take-taken.result.1
    c.take-taken.ensures.takes c.self.invariant.1 c.requires

pub returns-in-Fault-clause-some : goal.returns-in-Fault-clause-some
returns-in-Fault-clause-some g c =
    takes_some c.self.inside.feed c.take-taken.new.self c.args.piece.now c.take-taken.result.0 c.take-taken.result.1
    c.take-taken.ensures.takes c.self.invariant.1 c.requires

pub returns-in-Record-clause-some : goal.returns-in-Record-clause-some
returns-in-Record-clause-some g c =
    takes_some c.self.inside.feed c.take-taken.new.self c.args.piece.now c.take-taken.result.0 c.take-taken.result.1
    c.take-taken.ensures.takes c.self.invariant.1 c.requires

pub returns-in-Refused-clause-some : goal.returns-in-Refused-clause-some
returns-in-Refused-clause-some g c =
    takes_some c.self.inside.feed c.take-taken.new.self c.args.piece.now c.take-taken.result.0 c.take-taken.result.1
    c.take-taken.ensures.takes c.self.invariant.1 c.requires
