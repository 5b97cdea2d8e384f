use Rattle.std.proofs.Common.{rules, ◌≡◌, Some, None, true, false, sym}
use Rattle.ev_script.specs.Script.{skips, asked_in}
use Rattle.ev_script.proofs.Playings.{no_question, line_answered, line_skipped, line_bad, line_done}
use Rattle.ev_script.proofs.simulate.simulator.Simulator.line.Goals as goal

pub returns-in-Some : goal.returns-in-Some
returns-in-Some g c =
    let mode = c.args.mode in
    let line = c.args.line.now in
    let e : asked_in mode line ≡ Some c.in-Some.question = search rules in
    line_answered mode line c.args.self.now c.answer.new.self (g.W.Out.end c.args.out.now)
    (g.W.Out.end c.answer.new.out) c.in-Some.question e c.answer.ensures.made c.answer.ensures.told

pub returns-then-skips : goal.returns-then-skips
returns-then-skips g c =
    let mode = c.args.mode in
    let line = c.args.line.now in
    let e : asked_in mode line ≡ None = search rules in
    let f : skips mode line ≡ true = search rules in
    line_skipped mode line c.args.self.now (g.W.Out.end c.args.out.now) e f

pub returns-in-None : goal.returns-in-None
returns-in-None g c =
    let mode = c.args.mode in
    let line = c.args.line.now in
    let e : asked_in mode line ≡ None = search rules in
    let f : skips mode line ≡ false = search rules in
    line_bad mode line c.args.self.now (g.W.Out.end c.args.out.now) (no_question mode line e f) (sym c.in-None.ensures)

pub returns-in-Some-parse : goal.returns-in-Some-parse
returns-in-Some-parse g c =
    let mode = c.args.mode in
    let line = c.args.line.now in
    let e : asked_in mode line ≡ None = search rules in
    let f : skips mode line ≡ false = search rules in
    line_done mode line c.args.self.now c.show.new.self c.perform.new.self (g.W.Out.end c.args.out.now)
    (g.W.Out.end c.show.new.out) (g.W.Out.end c.perform.new.out) c.in-Some-parse.edge _ (no_question mode line e f)
    (sym c.in-Some-parse.ensures) c.show.ensures.made c.show.ensures.told c.perform.ensures
