use Rattle.rstp_run.specs.declared.rule.TheConstants.{MAIN, SENDS}
use Rattle.rstp_run.proofs.Whole.{settled-off, off-settled, not-false}
use Rattle.rstp_run.proofs.engine.Engine.is_settled.Goals as goal
use Rattle.std.proofs.lemmas.Bool.{not-true}

pub returns-then-not-has_enabled-clause-yes : goal.returns-then-not-has_enabled-clause-yes
returns-then-not-has_enabled-clause-yes c = λ is.
    settled-off _ (c.has_enabled.ensures.off c.if-not-has_enabled.true)
    (c.has_enabled-then-not-has_enabled.ensures.off (not-true _ is))

pub returns-then-not-has_enabled-clause-no : goal.returns-then-not-has_enabled-clause-no
returns-then-not-has_enabled-clause-no c = λ is all.
    c.has_enabled-then-not-has_enabled.ensures.on (not-false _ is) (off-settled SENDS _ all)

pub returns-else-not-has_enabled-clause-no : goal.returns-else-not-has_enabled-clause-no
returns-else-not-has_enabled-clause-no c = λ is all.
    c.has_enabled.ensures.on c.if-not-has_enabled.false (off-settled MAIN _ all)
