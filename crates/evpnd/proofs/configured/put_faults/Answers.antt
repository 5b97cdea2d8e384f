use Rattle.std.proofs.Common.{rules, inr, [], refl}
use Rattle.ev_config.specs.Told.{line_text}
use Rattle.ev_config.proofs.Lines.{refusal_lines}
use Rattle.evpnd.proofs.Telling.{put_before}
use Rattle.evpnd.specs.Configured.{config_text}
use Rattle.evpnd.proofs.configured.put_faults.Goals as goal

pub returns : goal.returns
returns g c =
    let wanted = c.args.refused.wanted in
    let text = c.args.refused.text.now in
    let old = g.N.Out.end c.args.notes.now in
    let mid = g.N.Out.end c.put_key.new.notes in
    let new = g.N.Out.end c.put_refusal.new.notes in
    put_before wanted text old mid new (config_text c.args.key.now) c.put_refusal.result
    (rw c.as_bytes.ensures.value at c.in_ok-put_key.ensures)
    (refusal_lines wanted text mid new c.put_refusal.result c.put_refusal.ensures)

pub returns-in_err-put_key : goal.returns-in_err-put_key
returns-in_err-put_key g c = (line_text [], inr (record { words = []; told_is = refl }), search rules)
