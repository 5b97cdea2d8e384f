use Rattle.std.proofs.Common.{◌≤◌, sym, ◌∙◌, arith}
use Rattle.ev_console.proofs.Conversing.{take_short, take_full}
use Rattle.ev_console.proofs.conversation.keep.Goals as goal

pub returns-then-len-lt-KEPT : goal.returns-then-len-lt-KEPT
returns-then-len-lt-KEPT c = c.push.ensures.items
    ∙ sym (take_short 20001 c.args.line.now.items c.args.octet
    (omega (arith, c.if-len-lt-KEPT.true, c.len.ensures.value)))

pub returns-else-len-lt-KEPT : goal.returns-else-len-lt-KEPT
returns-else-len-lt-KEPT c =
    let fits : c.len.result ≤ 20001 = c.len.ensures.fits in
    sym (take_full 20001 c.args.line.now.items c.args.octet
    (omega (arith, fits, c.if-len-lt-KEPT.false, c.len.ensures.value)))
