use Rattle.std.proofs.Common.{rules, ◌≡◌, ℕ, ◌-◌, List, ◌++◌, take, drop, ap, ◌∙◌}
use Rattle.ev_links.proofs.Backlogs.{window_more}
use Rattle.ev_links.proofs.backlog.Backlog.append.Goals as goal
use Rattle.ev_links.proofs.backlog.Backlog.append.Goals.{then-self-more, else-self-more}

pub returns : goal.returns
returns c =
    let at = c.if-self-more.self-inside in
    let same : take (at.end - at.start) (drop at.start at.octets.items) ≡ c.args.self.now =
    elim c.if-self-more.branch [ then-self-more w ↦ search rules | else-self-more w ↦ search rules ] in
    window_more at.start at.end at.octets.items c.put_at.new.octets.items c.args.more.now
    (elim c.if-self-more.branch [ then-self-more w ↦ search rules | else-self-more w ↦ search rules ])
    (elim c.if-self-more.branch [ then-self-more w ↦ search rules | else-self-more w ↦ search rules ])
    c.put_at.ensures.written
    ∙ ap (λ (xs : List ℕ). xs ++ c.args.more.now) same
