use Rattle.std.proofs.Common.{ap, ◌∙◌, arith}
use Rattle.ether_wire.specs.Parse.{decimal_of_text}
use Rattle.ether_wire.proofs.SpellingLemmas.{decimal_of_text-decimal, decimal_of_text-spelt, IfSome-from}
use Rattle.ether_wire.proofs.parse.read_decimal.Goals as goal

pub returns-clause-spelt : goal.returns-clause-spelt
returns-clause-spelt c = IfSome-from _ _ _ c.decimal_of_text.ensures
    (λ n is. decimal_of_text-spelt c.args.max c.args.text.now n (omega arith) is)

pub returns-clause-again : goal.returns-clause-again
returns-clause-again c = λ n small is. c.decimal_of_text.ensures ∙ ap (decimal_of_text c.args.max) is
    ∙ decimal_of_text-decimal c.args.max n (omega arith) small
