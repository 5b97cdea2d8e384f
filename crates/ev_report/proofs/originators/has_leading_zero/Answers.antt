use Rattle.std.proofs.Common.{sym, ◌∙◌}
use Rattle.ev_report.proofs.Listing.{shorter_after, zero_here, zero_later, zero_last}
use Rattle.ev_report.proofs.originators.has_leading_zero.Goals as goal

pub returns-then-is_zero_led : goal.returns-then-is_zero_led
returns-then-is_zero_led c =
    zero_here c.args.text.now c.loop-number.rest.now c.loop-number.invariant c.in-Some.number.now c.in-Some.after.now
    (sym c.in-Some.ensures) (sym c.is_zero_led.ensures ∙ c.if-is_zero_led.true)

pub loop-number-smaller : goal.loop-number-smaller
loop-number-smaller c = shorter_after 46 c.loop-number.rest.now c.in-Some.number.now c.in-Some.after.now
    (sym c.in-Some.ensures)

pub loop-number-preserved : goal.loop-number-preserved
loop-number-preserved c =
    zero_later c.args.text.now c.loop-number.rest.now c.loop-number.invariant c.in-Some.number.now c.in-Some.after.now
    (sym c.in-Some.ensures) (sym c.is_zero_led.ensures ∙ c.if-is_zero_led.false)

pub returns : goal.returns
returns c = c.is_zero_led-2.ensures ∙ zero_last c.args.text.now c.loop-number.rest.now c.loop-number.invariant
    (sym c.in_default.ensures)
