use Rattle.std.proofs.Common.{◌≡◌, ◌<◌, [], length, ap, arith}
use Rattle.std.proofs.lemmas.Bool.Decides.{nat_tests}
use Rattle.ev_console.proofs.Conversing.{ends_silent, ends_answered}
use Rattle.ev_console.proofs.Doing.{none_of}
use Rattle.ev_console.proofs.conversation.take_end.Goals as goal

pub returns-then-is_empty : goal.returns-then-is_empty
returns-then-is_empty g c =
    ends_silent (g.O.Operated.count c.args.operated.now) c.args.line.now (g.O.Operated.asked c.args.operated.now)
    (g.W.Out.end c.args.out.now) _ (none_of c.args.line.now (grind (arith, nat_tests)))

pub returns : goal.returns
returns g c =
    let some : 0 < length c.args.line.now = grind (arith, nat_tests) in
    ends_answered (g.O.Operated.count c.args.operated.now) c.args.line.now (g.O.Operated.asked c.args.operated.now)
    (g.O.Operated.asked c.reply.new.operated) (g.W.Out.end c.args.out.now) (g.W.Out.end c.reply.new.out) c.reply.result
    (λ (e : c.args.line.now ≡ []). let l = ap length e in omega (arith, l, some)) c.reply.ensures.does
