use Rattle.std.proofs.Common.{◌≡◌, Err, sym, ap, ◌||◌, ◌∙◌, refl}
use Rattle.route_wire.specs.Record.{is_length}
use Rattle.route_wire.specs.declared.stream.Answer.{Answer}
use Rattle.route_wire.specs.Fields.{Fields}
use Rattle.route_wire.specs.Feed.{Held, shown, next_with}
use Rattle.route_wire.proofs.Steps.{feeds_some}
use Rattle.ev_report.specs.declared.stream.Intake.{Intake}
use Rattle.ev_report.specs.Inner.Progressing.{State, state}
use Rattle.ev_report.proofs.Feeding.{shows_next}
use Rattle.ev_report.proofs.Refusals.{refused_otherwise}
use Rattle.ev_report.proofs.Taking.{octets_next, octets_more, octets_faulty, answers_refused, or_false}
use Rattle.ev_report.proofs.stream.Intake.step.Goals as goal

is : {a b : Answer} (u : Fields) → a ≡ b → next_with a u ≡ next_with b u
is u e = ap (λ (a : Answer). next_with a u) e

pub returns-in-More-clause-taken : goal.returns-in-More-clause-taken
returns-in-More-clause-taken g c = octets_more (state c.args.self.now (g.N.Out.end c.args.notes.now)) c.args.piece.now
    c.take_into-taken.result.0 c.take_into-taken.new.self _ c.take_into-taken.ensures.takes c.requires.feed
    c.take_into-taken.ensures.read (is c.take_into-taken.new.update c.in-More.is)

pub returns-in-More-clause-some : goal.returns-in-More-clause-some
returns-in-More-clause-some g c = feeds_some c.args.self.now.feed c.take_into-taken.ensures.takes.mid c.args.piece.now
    c.take_into-taken.result.0 c.take_into-taken.ensures.takes.feeds (ap is_length c.requires.feed) c.requires.piece

pub returns-in-More-clause-shows : goal.returns-in-More-clause-shows
returns-in-More-clause-shows g c = shows_next c.args.self.now.feed c.take_into-taken.new.self c.args.piece.now
    c.take_into-taken.result.0 _ _ c.take_into-taken.ensures.takes (is c.take_into-taken.new.update c.in-More.is)

pub returns-in-Record-clause-taken : goal.returns-in-Record-clause-taken
returns-in-Record-clause-taken g c = octets_next (state c.args.self.now (g.N.Out.end c.args.notes.now))
    c.args.piece.now c.take_into-taken.result.0 c.take_into-taken.new.self _ c.take_into-taken.ensures.takes
    c.requires.feed c.take_into-taken.ensures.read _ (is c.take_into-taken.new.update c.in-Record.is)
    (state c.take.new.self (g.N.Out.end c.take.new.notes)) c.take.ensures.feed c.take.ensures.taken

pub returns-in-Record-clause-some : goal.returns-in-Record-clause-some
returns-in-Record-clause-some g c = feeds_some c.args.self.now.feed c.take_into-taken.ensures.takes.mid
    c.args.piece.now
    c.take_into-taken.result.0 c.take_into-taken.ensures.takes.feeds (ap is_length c.requires.feed) c.requires.piece

pub returns-in-Record-clause-shows : goal.returns-in-Record-clause-shows
returns-in-Record-clause-shows g c = ap (λ (h : Held). shown h) c.take.ensures.feed
    ∙ shows_next c.args.self.now.feed c.take_into-taken.new.self c.args.piece.now c.take_into-taken.result.0
    _ _ c.take_into-taken.ensures.takes (is c.take_into-taken.new.update c.in-Record.is)

pub returns-in-Refused-clause-taken : goal.returns-in-Refused-clause-taken
returns-in-Refused-clause-taken g c =
    let s : State = state c.args.self.now (g.N.Out.end c.args.notes.now) in
    let m : State = state (record c.args.self.now { feed = c.take_into-taken.new.self }) s.notes in
    let t : State = state c.refuse.new.self (g.N.Out.end c.refuse.new.notes) in
    let refusal = c.in-Refused.refusal in
    let takes = c.take_into-taken.ensures.takes in
    let other = refused_otherwise (shown takes.mid) takes.mid.rest refusal (sym (is c.take_into-taken.new.update
    c.in-Refused.is) ∙ takes.next) in
    octets_next s c.args.piece.now c.take_into-taken.result.0 c.take_into-taken.new.self _ takes
    c.requires.feed c.take_into-taken.ensures.read _ (is c.take_into-taken.new.update c.in-Refused.is) t
    (ap (λ (x : Intake). x.feed) c.refuse.ensures.kept)
    (answers_refused (Err refusal) refusal m m t refl c.refuse.ensures refl refl (or_false s.intake.is_out_of_memory
    ∙ ap (λ b. s.intake.is_out_of_memory || b) (sym other)))

pub returns-in-Refused-clause-some : goal.returns-in-Refused-clause-some
returns-in-Refused-clause-some g c = feeds_some c.args.self.now.feed c.take_into-taken.ensures.takes.mid
    c.args.piece.now
    c.take_into-taken.result.0 c.take_into-taken.ensures.takes.feeds (ap is_length c.requires.feed) c.requires.piece

pub returns-in-Refused-clause-shows : goal.returns-in-Refused-clause-shows
returns-in-Refused-clause-shows g c = ap (λ (x : Intake). shown x.feed) c.refuse.ensures.kept
    ∙ shows_next c.args.self.now.feed c.take_into-taken.new.self c.args.piece.now c.take_into-taken.result.0
    _ _ c.take_into-taken.ensures.takes (is c.take_into-taken.new.update c.in-Refused.is)

pub returns-in-Fault-clause-taken : goal.returns-in-Fault-clause-taken
returns-in-Fault-clause-taken g c = octets_faulty (state c.args.self.now (g.N.Out.end c.args.notes.now))
    c.args.piece.now c.take_into-taken.result.0 c.take_into-taken.new.self _ c.take_into-taken.ensures.takes
    c.requires.feed c.take_into-taken.ensures.read c.in-Fault.fault (is c.take_into-taken.new.update c.in-Fault.is)

pub returns-in-Fault-clause-shows : goal.returns-in-Fault-clause-shows
returns-in-Fault-clause-shows g c = shows_next c.args.self.now.feed c.take_into-taken.new.self c.args.piece.now
    c.take_into-taken.result.0 _ _ c.take_into-taken.ensures.takes (is c.take_into-taken.new.update c.in-Fault.is)
