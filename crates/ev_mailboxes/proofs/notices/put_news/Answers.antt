use Rattle.std.proofs.Common.{List, ℕ, [], append-nil, sym, subst, ap, ◌∙◌}
use Rattle.ether_wire.specs.Ends.{Puts}
use Rattle.ether_wire.proofs.Appending.{puts_behind}
use Rattle.ev_mailboxes.specs.Notices.{news_text, refused_text}
use Rattle.ev_mailboxes.proofs.notices.put_news.Goals as goal

pub returns-in_ok-put_refused-in-Refused : goal.returns-in_ok-put_refused-in-Refused
returns-in_ok-put_refused-in-Refused g c =
    let old = g.N.Out.end c.args.notes.now in
    let mid = g.N.Out.end c.put_refused.new.notes in
    let new = g.N.Out.end c.flush-in-Refused.new.self in
    let text = refused_text c.in-Refused.refused in
    subst (λ (t : List ℕ). Puts old new t c.flush-in-Refused.result)
    (append-nil text ∙ ap (news_text c.args.edge) (sym c.in-Refused.is))
    (puts_behind old mid new text [] c.flush-in-Refused.result c.in_ok-put_refused-in-Refused.ensures
    c.flush-in-Refused.ensures)
