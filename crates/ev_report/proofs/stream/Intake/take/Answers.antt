use Rattle.std.proofs.Common.{Ok, Err, ℕ, true, ◌+◌, refl, ap, subst}
use Rattle.route_join.specs.Table.{Table}
use Rattle.route_join.specs.Taken.{number_of}
use Rattle.route_join.specs.declared.table.TakeError.{TakeError}
use Rattle.route_join.specs.declared.table.TakeError.TheVariants.{UnknownOriginator, NoMemory}
use Rattle.ev_report.specs.Report.{Becomes}
use Rattle.ev_report.specs.Inner.Progressing.{State, state, Refuses}
use Rattle.ev_report.proofs.Taking.{answers_taken, answers_refused, becomes, or_false, or_true}
use Rattle.ev_report.proofs.stream.Intake.take.Goals as goal

pub returns-in-Ok-clause-taken : goal.returns-in-Ok-clause-taken
returns-in-Ok-clause-taken g c =
    let s = c.args.self.now in
    let u = c.args.update.now in
    let notes = g.N.Out.end c.args.notes.now in
    answers_taken u (state s notes) (state (record s { table = c.take.new.self; count = s.count + 1 }) notes)
    (becomes s.table u (Ok c.in-Ok.field-0) c.in-Ok.ensures.unknown c.in-Ok.ensures.no_memory) c.in-Ok.ensures.table
    refl refl refl refl

pub returns-in-Err-UnknownOriginator-clause-taken : goal.returns-in-Err-UnknownOriginator-clause-taken
returns-in-Err-UnknownOriginator-clause-taken g c =
    let s = c.args.self.now in
    let u = c.args.update.now in
    let notes = g.N.Out.end c.args.notes.now in
    let m : State = state (record s { table = c.take.new.self }) notes in
    let t : State = state c.refuse.new.self (g.N.Out.end c.refuse.new.notes) in
    let k = c.in-Err-UnknownOriginator.ensures in
    answers_refused (Ok u) (number_of UnknownOriginator) (state s notes) m t
    (subst (λ (e : TakeError). Becomes s.table (Ok u) (Err (number_of e))) c.in-Err-UnknownOriginator.field-0-is
    (becomes s.table u (Err c.in-Err-UnknownOriginator.field-0) k.unknown k.no_memory))
    (subst (λ (n : ℕ). Refuses n m t) c.number.ensures c.refuse.ensures)
    (ap (λ (x : Table). record s { table = x }) k.err) refl (or_false s.is_out_of_memory)

pub returns-in-Err-NoMemory-clause-taken : goal.returns-in-Err-NoMemory-clause-taken
returns-in-Err-NoMemory-clause-taken g c =
    let s = c.args.self.now in
    let u = c.args.update.now in
    let notes = g.N.Out.end c.args.notes.now in
    let m : State = state (record s { table = c.take.new.self; is_out_of_memory = true }) notes in
    let t : State = state c.refuse-in-Err-NoMemory.new.self (g.N.Out.end c.refuse-in-Err-NoMemory.new.notes) in
    let k = c.in-Err-NoMemory.ensures in
    answers_refused (Ok u) (number_of NoMemory) (state s notes) m t
    (subst (λ (e : TakeError). Becomes s.table (Ok u) (Err (number_of e))) c.in-Err-NoMemory.field-0-is
    (becomes s.table u (Err c.in-Err-NoMemory.field-0) k.unknown k.no_memory))
    (subst (λ (n : ℕ). Refuses n m t) c.number-in-Err-NoMemory.ensures c.refuse-in-Err-NoMemory.ensures)
    (ap (λ (x : Table). record s { table = x; is_out_of_memory = true }) k.err) refl (or_true s.is_out_of_memory)
