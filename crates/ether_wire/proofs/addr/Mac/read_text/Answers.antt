use Rattle.std.proofs.Common.{ap, ◌∙◌}
use Rattle.ether_wire.specs.Parse.{mac_of_text}
use Rattle.ether_wire.proofs.SpellingLemmas.{mac_of_text-mac_text, mac_of_text-spelt, IfSome-from}
use Rattle.ether_wire.proofs.addr.Mac.read_text.Goals as goal

pub returns-clause-spelt : goal.returns-clause-spelt
returns-clause-spelt c = IfSome-from _ _ _ c.mac_of_text.ensures (λ m is. mac_of_text-spelt c.args.text.now m is)

pub returns-clause-again : goal.returns-clause-again
returns-clause-again c = λ m small is. c.mac_of_text.ensures ∙ ap mac_of_text is ∙ mac_of_text-mac_text m small
