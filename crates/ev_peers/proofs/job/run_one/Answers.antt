use Rattle.std.proofs.Common.{rules, ◌≡◌, ℕ, List, length, map, vec_len, ap, sym, subst, ◌∙◌}
use Rattle.std.proofs.lemmas.List.{length-map}
use Rattle.ev_peers.specs.declared.edge_links.Link.{Link}
use Rattle.ev_peers.specs.EdgeThreads.{IsRanOf}
use Rattle.ev_peers.specs.History.{outcome_in}
use Rattle.ev_peers.specs.Inner.History.{SeatedAs}
use Rattle.ev_peers.specs.Inner.Handles.{Numbered}
use Rattle.ev_peers.proofs.Threads.{seated_as}
use Rattle.ev_peers.proofs.job.run_one.Goals as goal

pub returns-clause-ran : goal.returns-clause-ran
returns-clause-ran g c =
    let j = c.job.inside in
    let edge = j.setup in
    let ran = outcome_in c.edge_worker-ran.result in
    let links = c.setup.inside.links.ports in
    let output : Link g.row.I.Denot g.row.O.Denot → g.row.O.Denot = λ link. link.output in
    let address : c.setup.inside.config.address ≡ edge.config.address = search rules in
    let outputs : edge.outputs ≡ map output links.items = search rules in
    let ports : vec_len links ≡ length edge.outputs =
    links.ok.0 ∙ sym (length-map links.items output) ∙ ap length (sym outputs) in
    subst (λ (n : Numbered g.row.O.Denot). IsRanOf n.number n.setup.config.address (length n.setup.outputs) ran)
    c.job.view_is
    (subst (λ (n : ℕ). IsRanOf j.host.number edge.config.address n ran) ports
    (subst (λ (n : ℕ). IsRanOf j.host.number n (vec_len links) ran) address c.edge_worker-ran.ensures.ran))

pub returns-clause-seated : goal.returns-clause-seated
returns-clause-seated g c =
    let j = c.job.inside in
    subst (λ (n : Numbered g.row.O.Denot). SeatedAs n.number c.edge_worker-ran.result) c.job.view_is
    (seated_as j.host.number j.seat c.edge_worker-ran.result c.job.invariant.1 c.edge_worker-ran.ensures.stands)
