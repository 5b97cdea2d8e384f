use Rattle.std.proofs.Common.{◌++◌, ◌∷◌, ◌∙◌, ap, reverse}
use Rattle.ev_peers.proofs.Plans.{port_1_first}
use Rattle.ev_peers.specs.Inner.Plan.{port_tasks, outputs_back}
use Rattle.ev_peers.proofs.plan.plan_links.Goals as goal

pub returns-clause-tasks : goal.returns-clause-tasks
returns-clause-tasks g c =
    let links = c.args.links.ports.items in
    c.plan_ports-tasks.ensures.tasks
    ∙ ap (λ l. l ++ port_tasks c.args.config.now.ports.items (reverse links)) c.in_ok-tasks.ensures.items

pub returns-clause-outputs : goal.returns-clause-outputs
returns-clause-outputs g c =
    let links = c.args.links.ports.items in
    let tunnel = c.args.links.tunnel.output in
    c.with_tunnel.ensures.items
    ∙ (ap (λ l. tunnel ∷ reverse l) (c.plan_ports-tasks.ensures.outputs
    ∙ ap (λ l. l ++ outputs_back links) c.in_ok-outputs.ensures.items) ∙ port_1_first tunnel links)
