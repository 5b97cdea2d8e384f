use Rattle.std.proofs.Common.{◌≡◌, ℕ, ◌+◌, List, [], ◌∷◌, ◌++◌, take, drop, get_or, Ok, Err, sym, ap, subst, ◌∙◌}
use Rattle.std.proofs.lemmas.List.{take_more, take-append-drop}
use Rattle.ev_console.specs.Inner.Conversation.{TakesOctets}
use Rattle.ev_console.proofs.Conversing.{takes_both, takes_broken}
use Rattle.ev_console.proofs.conversation.take_piece.Goals as goal

pub loop-octet-preserved : goal.loop-octet-preserved
loop-octet-preserved g c =
    let count = g.O.Operated.count c.args.operated.now in
    let piece = c.args.piece.now in
    let place = c.loop-octet.octet-index in
    let one = get_or piece place 0 in
    let h0 = c.args.line.now.items in
    let h1 = c.loop-octet.line.items in
    let h2 = c.take_octet.new.line.items in
    let k0 = g.O.Operated.asked c.args.operated.now in
    let k1 = g.O.Operated.asked c.loop-octet.operated in
    let k2 = g.O.Operated.asked c.take_octet.new.operated in
    let e0 = g.W.Out.end c.args.out.now in
    let e1 = g.W.Out.end c.loop-octet.out in
    let e2 = g.W.Out.end c.take_octet.new.out in
    record {
      takes = subst (λ (t : List ℕ). TakesOctets count t h0 h2 k0 k2 e0 e2 (Ok tt))
          (sym (take_more piece place 0 c.loop-octet-test.true))
          (takes_both count (take place piece) (one ∷ []) h0 h1 h2 k0 k1 k2 e0 e1 e2 tt (Ok tt)
          c.loop-octet.invariant.takes
          (subst (λ (n : ℕ). TakesOctets n (one ∷ []) h1 h2 k1 k2 e1 e2 (Ok tt)) c.loop-octet.invariant.count
          c.in-Ok.ensures.takes));
      count = c.in-Ok.ensures.count ∙ c.loop-octet.invariant.count;
      flushed = λ none. c.in-Ok.ensures.flushed (c.loop-octet.invariant.flushed none);
      failures = c.in-Ok.ensures.failures ∙ c.loop-octet.invariant.failures;
    }

pub returns-in-Err-clause-takes : goal.returns-in-Err-clause-takes
returns-in-Err-clause-takes g c =
    let count = g.O.Operated.count c.args.operated.now in
    let piece = c.args.piece.now in
    let place = c.loop-octet.octet-index in
    let one = get_or piece place 0 in
    let before = take place piece in
    let h0 = c.args.line.now.items in
    let h1 = c.loop-octet.line.items in
    let h2 = c.take_octet.new.line.items in
    let k0 = g.O.Operated.asked c.args.operated.now in
    let k1 = g.O.Operated.asked c.loop-octet.operated in
    let k2 = g.O.Operated.asked c.take_octet.new.operated in
    let e0 = g.W.Out.end c.args.out.now in
    let e1 = g.W.Out.end c.loop-octet.out in
    let e2 = g.W.Out.end c.take_octet.new.out in
    let device = c.in-Err.device in
    let all : (before ++ one ∷ []) ++ drop (place + 1) piece ≡ piece =
    ap (λ (t : List ℕ). t ++ drop (place + 1) piece) (sym (take_more piece place 0 c.loop-octet-test.true))
    ∙ take-append-drop (place + 1) piece in
    subst (λ (t : List ℕ). TakesOctets count t h0 h2 k0 k2 e0 e2 (Err device)) all
    (takes_broken count (before ++ one ∷ []) (drop (place + 1) piece) h0 h1 h2 k0 k1 k2 e0 e1 e2 device
    (takes_both count before (one ∷ []) h0 h1 h2 k0 k1 k2 e0 e1 e2 tt (Err device) c.loop-octet.invariant.takes
    (subst (λ (n : ℕ). TakesOctets n (one ∷ []) h1 h2 k1 k2 e1 e2 (Err device)) c.loop-octet.invariant.count
    c.in-Err.ensures.takes)))
