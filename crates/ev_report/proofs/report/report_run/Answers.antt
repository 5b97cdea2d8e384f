use Rattle.std.proofs.Common.{◌≡◌, Bool, not, ◌||◌, is_ok, refl, ap, subst, ◌∙◌}
use Rattle.ether_wire.specs.Ends.{Puts}
use Rattle.route_wire.specs.Feed.{Held}
use Rattle.route_join.specs.Table.{Table}
use Rattle.route_join.specs.Report.{report_of}
use Rattle.ev_report.specs.declared.stream.Intake.{Intake}
use Rattle.ev_report.specs.Notes.{has_stopped, status_of}
use Rattle.ev_report.specs.Inner.Progressing.{state, new_intake, TakesInput}
use Rattle.ev_report.proofs.Finishing.{renders}
use Rattle.ev_report.proofs.report.report_run.Goals as goal

pub returns : goal.returns
returns g c =
    let ending = c.take_input-ending.result in
    let reader = g.R.In.end c.args.reader.now in
    let reader' = g.R.In.end c.take_input-ending.new.reader in
    let out = g.W.Out.end c.args.out.now in
    let out' = g.W.Out.end c.write_report.new.out in
    let notes = g.N.Out.end c.args.notes.now in
    let mid = g.N.Out.end c.take_input-ending.new.notes in
    let notes' = g.N.Out.end c.note_end-is_broken.new.notes in
    let intake = c.take_input-ending.new.self in
    let last = c.note_end-is_broken.new.self in
    let r = c.write_report.result in
    let broken = c.note_end-is_broken.result in
    let out_of_memory = c.is_out_of_memory.result in
    let failed = c.has_failed-has_failed.ensures ∙ ap (λ (b : Bool). has_stopped ending ||
    (not b || not c.is_told.result)) c.is_ok-is_reported.ensures.value
    ∙ ap (λ (b : Bool). has_stopped ending || (not (is_ok r) || not b)) c.is_told.ensures in
    let all = has_stopped ending || (not (is_ok r) || not last.is_told) in
    let fresh_is : c.new-intake.result ≡ new_intake 3 c.args.originators.items = c.new-intake.ensures
    ∙ ap (λ (h : Held). new_intake h.newest c.args.originators.items) c.new-feed.ensures.value in
    renders 3 (λ ending outcomes t. report_of t) c.args.originators.items reader reader' out out' notes mid notes'
    intake last ending
    (subst (λ (x : Intake). TakesInput x.feed.newest ending reader reader' (state x notes) (state intake mid)) fresh_is
    c.take_input-ending.ensures.taken)
    c.note_end-is_broken.ensures.kept c.note_end-is_broken.ensures.told r (report_of last.table) c.requires.out
    c.requires.notes
    (subst (λ (t : Table). Puts out out' (report_of t) r) c.table.ensures c.write_report.ensures) refl
    c.status_of.result
    (c.status_of.ensures ∙ ap (λ (b : Bool). status_of b out_of_memory broken) failed
    ∙ ap (λ (b : Bool). status_of all b broken) c.is_out_of_memory.ensures
    ∙ ap (λ (b : Bool). status_of all last.is_out_of_memory b) c.note_end-is_broken.ensures.broken)
