use Rattle.std.proofs.Common.{ℕ, List, [], ◌∷◌, ◌++◌, Ok, subst, ap, sym, ◌∙◌}
use Rattle.route_wire.specs.Record.{Reads}
use Rattle.ev_exchange.specs.Sending.{Sending}
use Rattle.ev_exchange.proofs.Sending.{sent_put, sent_none}
use Rattle.ev_exchange.proofs.sender.Sender.put.Goals as goal

pub returns-then-self-clause-said : goal.returns-then-self-clause-said
returns-then-self-clause-said g c =
    sent_put c.args.self.now (g.W.Out.end c.self.inside.out) (g.W.Out.end c.put.new.self) c.self.inside.is_open
    c.is_ok-self-inside.result (g.W.Flushing.held c.self.inside.out) (g.W.Flushing.held c.put.new.self)
    c.args.update.now c.as_slice.result.now c.put.result c.self.view_is c.if-self.true
    (c.as_slice.ensures.value ∙ c.write-record.ensures.octets) c.put.ensures c.is_ok-self-inside.ensures.value
    (λ rest. subst (λ (b : List ℕ). Reads (b ++ rest) (Ok c.args.update.now ∷ []) rest) c.write-record.ensures.octets
    (c.write-record.ensures.again rest))

pub returns-else-self-clause-said : goal.returns-else-self-clause-said
returns-else-self-clause-said g c = λ start sent.
    sent_none c.args.self.now start sent c.args.update.now
    (sym (ap (λ (x : Sending). x.is_open) c.self.view_is) ∙ c.if-self.false)
    (λ rest. subst (λ (b : List ℕ). Reads (b ++ rest) (Ok c.args.update.now ∷ []) rest) c.write-record.ensures.octets
    (c.write-record.ensures.again rest))
