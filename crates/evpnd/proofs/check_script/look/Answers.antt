use Rattle.std.proofs.Common.{◌∙◌, Bool, not, ◌||◌, false, List, ℕ, ap, subst}
use Rattle.ev_report.specs.Notes.{status_of}
use Rattle.ev_script.specs.Faults.{ChecksLines}
use Rattle.evpnd.proofs.Scripted.{looks}
use Rattle.evpnd.proofs.check_script.look.Goals as goal

pub returns : goal.returns
returns g c =
    let found = c.check_lines-found.result in
    let notes = g.N.Out.end c.args.notes.now in
    let notes' = g.N.Out.end c.check_lines-found.new.notes in
    let r = c.put_lines.result in
    let named = subst (λ (t : List ℕ). ChecksLines t c.as_bytes-2.result.now notes notes' found)
    c.as_bytes.ensures.value c.check_lines-found.ensures in
    let lines = subst (λ (t : List ℕ). ChecksLines c.args.name.now t notes notes' found) c.as_bytes-2.ensures.value
    named in
    looks c.args.name.now c.args.text.now (g.W.Out.end c.args.out.now) (g.W.Out.end c.put_lines.new.out) notes notes'
    found r c.status_of.result c.requires.out c.requires.notes lines c.put_lines.ensures
    (c.status_of.ensures ∙ ap (λ (b : Bool). status_of b false (not found.are_good)) (c.has_failed-has_failed.ensures
    ∙ ap (λ (b : Bool). not b || not found.are_told) c.is_ok-is_written.ensures.value))
