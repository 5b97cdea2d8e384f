use Rattle.std.proofs.Common.{List, ℕ, subst, arith}
use Rattle.std.proofs.lemmas.Bool.Decides.{nat_tests}
use Rattle.ev_console.specs.Inner.Answers.{Replies}
use Rattle.ev_console.proofs.Conversing.{takes_kept, takes_reply}
use Rattle.ev_console.proofs.conversation.take_octet.Goals as goal

pub returns-then-octet-ne10-clause-takes : goal.returns-then-octet-ne10-clause-takes
returns-then-octet-ne10-clause-takes g c =
    takes_kept (g.O.Operated.count c.args.operated.now) c.args.octet c.args.line.now.items c.keep.new.line.items
    (g.O.Operated.asked c.args.operated.now) (g.W.Out.end c.args.out.now) _ (grind (arith, nat_tests)) c.keep.ensures

pub returns-clause-takes : goal.returns-clause-takes
returns-clause-takes g c =
    let count = g.O.Operated.count c.args.operated.now in
    let held = c.args.line.now.items in
    let middle = g.O.Operated.asked c.args.operated.now in
    let after = g.O.Operated.asked c.reply-replied.new.operated in
    let mid = g.W.Out.end c.args.out.now in
    let new = g.W.Out.end c.reply-replied.new.out in
    let r = c.reply-replied.result in
    takes_reply count c.args.octet held middle after mid new c.if-octet-ne10.false c.clear.new.self.items r
    c.clear.ensures
    (subst (λ (l : List ℕ). Replies count l middle after mid new r) c.as_slice.ensures.value
    c.reply-replied.ensures.does)
