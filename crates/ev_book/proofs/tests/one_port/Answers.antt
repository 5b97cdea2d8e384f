use Rattle.std.proofs.Common.{ap, ap₂, ◌∙◌}
use Rattle.std.specs.List.{push}
use Rattle.std.proofs.lemmas.List.{map_push}
use Rattle.ev_edge.specs.declared.config.PortConfig.{PortConfig}
use Rattle.ev_edge.specs.Config.{vnis_of}
use Rattle.ev_book.proofs.tests.one_port.Goals as goal

pub returns : goal.returns
returns c = ap vnis_of c.push.ensures.items ∙ map_push (λ (q : PortConfig). q.vni) _ _
    ∙ ap₂ push (ap vnis_of c.new-ports.ensures) c.port.ensures
