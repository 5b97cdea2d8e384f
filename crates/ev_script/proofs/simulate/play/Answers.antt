use Rattle.std.proofs.Common.{Bool, not, ◌||◌, is_ok, ap, ◌∙◌}
use Rattle.ev_report.specs.Notes.{status_of}
use Rattle.ev_script.proofs.Simulating.{plays_on}
use Rattle.ev_script.proofs.simulate.play.Goals as goal

pub returns : goal.returns
returns g c =
    let out = g.W.Out.end c.args.out.now in
    let out' = g.W.Out.end c.play-bad.new.out in
    let notes = g.N.Out.end c.args.notes.now in
    let notes' = g.N.Out.end c.put_bad_line.new.notes in
    let p = c.new-simulator.result in
    let final = c.play-bad.new.self in
    let bad = c.play-bad.result in
    let r = c.put_bad_line.result in
    let failed = c.has_failed-has_failed.ensures ∙ ap (λ (b : Bool). not b || not c.is_ok-is_noted.result)
    c.is_told.ensures
    ∙ ap (λ (b : Bool). not final.is_told || not b) c.is_ok-is_noted.ensures.value in
    plays_on c.args.mode c.args.fabric c.args.script.now p final out out' notes notes' r c.status_of.result
    c.new-simulator.ensures.fabric c.new-simulator.ensures.fed c.new-simulator.ensures.told bad c.requires.out
    c.requires.notes c.play-bad.ensures
    c.put_bad_line.ensures
    (c.status_of.ensures ∙ ap (λ (b : Bool). status_of b c.is_out_of_memory.result c.is_some.result) failed
    ∙ ap (λ (b : Bool). status_of (not final.is_told || not (is_ok r)) b c.is_some.result) c.is_out_of_memory.ensures
    ∙ ap (λ (b : Bool). status_of (not final.is_told || not (is_ok r)) final.is_out_of_memory b) c.is_some.ensures)
