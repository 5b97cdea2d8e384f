use Rattle.std.proofs.Common.{Bool, ℕ, false, map, not, ◌||◌, nat_lt, is_ok, subst, ap, ◌∙◌}
use Rattle.std.specs.List.{list_any}
use Rattle.ev_report.specs.Notes.{status_of}
use Rattle.ev_run.specs.Inner.Sockets.{bound_at}
use Rattle.ev_run.specs.RunEdges.{all_lost, link_failed, system_text, noted_text}
use Rattle.ev_run.specs.Inner.RunEdges.{PutsRest}
use Rattle.ev_run.proofs.Running.{tells_ended}
use Rattle.ev_run.proofs.run.tell_ended.Goals as goal

pub returns : goal.returns
returns g c =
    let sum = c.sum_of-sum.result in
    let is = c.sum_of-sum.ensures in
    let ended = c.args.ended.now in
    let system = system_text c.args.watched.table.now (map bound_at c.args.watched.sockets.now) in
    let r = c.put_reports.result in
    let s = c.put_rest.result in
    let notes = g.N.Out.end c.args.notes.now in
    let notes' = g.N.Out.end c.put_rest.new.notes in
    let failed = c.has_failed-has_failed.ensures
    ∙ ap (λ (b : Bool). ((not c.args.is_read || b) || nat_lt 0 sum.lost) ||
    (not c.is_ok-is_told.result || not c.is_ok-is_noted.result)) is.device
    ∙ ap (λ (n : ℕ). ((not c.args.is_read || list_any link_failed ended) || nat_lt 0 n) ||
    (not c.is_ok-is_told.result || not c.is_ok-is_noted.result)) is.lost
    ∙ ap (λ (b : Bool). ((not c.args.is_read || list_any link_failed ended) || nat_lt 0 (all_lost ended)) ||
    (not b || not c.is_ok-is_noted.result)) c.is_ok-is_told.ensures.value
    ∙ ap (λ (b : Bool). ((not c.args.is_read || list_any link_failed ended) || nat_lt 0 (all_lost ended)) ||
    (not (is_ok r) || not b)) c.is_ok-is_noted.ensures.value in
    tells_ended ended system c.args.is_read (g.W.Out.end c.args.out.now) (g.W.Out.end c.put_reports.new.out)
    notes notes' c.args.told r s
    c.status_of.result c.requires c.put_reports.ensures
    (subst (λ (n : ℕ). PutsRest c.args.told notes notes' (noted_text ended system n) s) is.lost c.put_rest.ensures)
    (c.status_of.ensures ∙ ap (λ (b : Bool). status_of b sum.is_out_of_memory false) failed
    ∙ ap (λ (b : Bool). status_of (((not c.args.is_read || list_any link_failed ended) || nat_lt 0 (all_lost ended)) ||
    (not (is_ok r) || not (is_ok s))) b false) is.out_of_memory)
