use Rattle.std.proofs.Common.{below_more, sym, ◌∙◌, arith}
use Rattle.rstp_run.proofs.Whole.{found}
use Rattle.rstp_run.proofs.engine.Engine.has_enabled.Goals as goal

pub returns-then-has_enabled_at : goal.returns-then-has_enabled_at
returns-then-has_enabled_at c = record {
  off = λ no. cc;
  on = λ yes all.
      found _ _ c.has_enabled_at.ensures c.if-has_enabled_at.true (all c.loop-p.p (omega arith));
}

pub loop-p-preserved : goal.loop-p-preserved
loop-p-preserved c =
    below_more _ _ c.loop-p.invariant (sym c.has_enabled_at.ensures ∙ c.if-has_enabled_at.false)
