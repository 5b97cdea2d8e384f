use Rattle.std.proofs.Common.{rules, ◌≡◌, ℕ, List, ◌++◌, codes, option_map, ap, subst, ◌∙◌}
use Rattle.ether_wire.specs.Ends.{Puts}
use Rattle.ev_config.specs.Schema.{Row}
use Rattle.ev_config.specs.Faults.{find_row}
use Rattle.ev_config.specs.Told.{line_text, row_text, range_text}
use Rattle.ev_config.specs.Inner.Faults.{row_of, faulty_of}
use Rattle.ev_config.proofs.Lines.{bare, bare_about, fault_told}
use Rattle.ev_config.proofs.refusal.put_fault.Goals as goal

pub returns : goal.returns
returns g c =
    let fault = faulty_of c.args.fault in
    let key = c.in_ok-put_key.ensures in
    let found = c.found_line-found.result.octets.items in
    let advice = c.advice_line-advice.result.octets.items in
    let mid = g.N.Out.end c.put_key.new.notes in
    let new = g.N.Out.end c.put_advice.new.notes in
    let lead : row_text (option_map row_of c.row_at-row.result) ≡ range_text c.args.wanted fault =
    ap row_text (c.row_at-row.ensures ∙ ap (λ (rows : List Row). find_row rows fault.1) c.rows_of.ensures) in
    fault_told c.args.wanted fault key.0 found advice (g.N.Out.end c.args.notes.now)
    (g.N.Out.end c.put_place.new.notes) mid new c.put_advice.result key.1 c.in_ok-put_place.ensures key.2
    (subst (λ (x : List ℕ). Puts mid new (line_text (found ++ codes ", " ++ x ++ advice)) c.put_advice.result) lead
    c.put_advice.ensures)

pub returns-in_err-put_place : goal.returns-in_err-put_place
returns-in_err-put_place g c =
    let fault = faulty_of c.args.fault in
    (bare c.args.wanted fault, bare_about c.args.wanted fault, search rules)

pub returns-in_err-put_key : goal.returns-in_err-put_key
returns-in_err-put_key g c =
    let fault = faulty_of c.args.fault in
    (bare c.args.wanted fault, bare_about c.args.wanted fault, search rules)
