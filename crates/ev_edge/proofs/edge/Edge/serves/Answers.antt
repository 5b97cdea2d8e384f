use Rattle.std.proofs.Common.{ap, ◌∙◌}
use Rattle.ev_edge.specs.Edge.{Edge}
use Rattle.ev_edge.specs.Arrival.{serves}
use Rattle.ev_edge.proofs.Places.{any_is}
use Rattle.ev_edge.proofs.edge.Edge.serves.Goals as goal

pub returns : goal.returns
returns c = any_is c.has_vni.result c.self.inside.routes.vnis c.args.vni c.has_vni.ensures
    ∙ ap (λ (e : Edge). serves e c.args.vni) c.self.view_is
