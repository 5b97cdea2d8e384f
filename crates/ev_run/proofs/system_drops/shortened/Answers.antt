use Rattle.std.proofs.Common.{map, ap, ◌∙◌}
use Rattle.std.proofs.lemmas.Result.{IfOk-weaker}
use Rattle.ev_run.specs.SystemDrops.{dropped_at}
use Rattle.ev_run.specs.Inner.SystemDrops.{text_of_rows}
use Rattle.ev_run.proofs.Shortening.{same_drops}
use Rattle.ev_run.proofs.system_drops.shortened.Goals as goal

pub returns : goal.returns
returns c = IfOk-weaker c.text_of_rows.result _ _ (λ short is at.
    ap (λ text. dropped_at text at) (is ∙ ap (λ rows. text_of_rows (map (λ row. row.now) rows)) c.as_slice.ensures.value
    ∙ ap text_of_rows c.in_ok-rows.ensures) ∙ same_drops at c.args.text.now) c.text_of_rows.ensures
