use Rattle.std.proofs.Common.{ap, ◌∙◌}
use Rattle.ether_wire.specs.Parse.{addr_of_text}
use Rattle.ether_wire.proofs.SpellingLemmas.{addr_of_text-addr_text, addr_of_text-spelt, IfSome-from}
use Rattle.ether_wire.proofs.addr.Addr.read_text.Goals as goal

pub returns-clause-spelt : goal.returns-clause-spelt
returns-clause-spelt c = IfSome-from _ _ _ c.addr_of_text.ensures (λ n is. addr_of_text-spelt c.args.text.now n is)

pub returns-clause-again : goal.returns-clause-again
returns-clause-again c = λ n small is. c.addr_of_text.ensures ∙ ap addr_of_text is ∙ addr_of_text-addr_text n small
