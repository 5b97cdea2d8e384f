use Rattle.std.proofs.Common.{rules, ap, ◌∙◌}
use Rattle.std.specs.Prelude.{vec_len}
use Rattle.ev_links.specs.Line.{after_drop}
use Rattle.ev_links.proofs.Lines.{drop_view}
use Rattle.ev_links.proofs.line.Line.drop_rest.Goals as goal

pub returns : goal.returns
returns c = rw (c.clear.ensures.items, c.clear-2.ensures.items, c.empty_all.ensures.many)
    (drop_view (vec_len c.self.inside.parts) c.self.inside.bpdus.items c.self.inside.heads.items c.self.inside.backlog
    c.self.inside.dropped
    c.saturating_add.result c.saturating_add-self-inside.result c.self.inside.has_ended
    c.len-bpdus.result c.len-frames.result (c.len-bpdus.ensures ∙ c.self.inside.bpdus.ok.0)
    (c.len-frames.ensures ∙ c.self.inside.heads.ok.0) (search rules) (search rules)
    ∙ ap after_drop c.self.view_is)
