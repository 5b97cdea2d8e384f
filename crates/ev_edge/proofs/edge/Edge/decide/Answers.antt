use Rattle.std.proofs.Common.{rules, ◌≡◌, sym, ap, subst, ◌∙◌}
use Rattle.ev_tunnel.specs.Decision.{local_up, remote_up}
use Rattle.ev_edge.specs.Edge.{Edge, edge_of}
use Rattle.ev_edge.specs.Sending.{IsDecision, port_of}
use Rattle.ev_edge.proofs.edge.Edge.decide.Goals as goal

pub returns : goal.returns
returns c =
    let f = c.self.inside in
    let e = edge_of f.routes f.clock f.ageing f.bridge f.moves f.away.items f.quotas.items f.storms.items in
    let learnt : c.port_of.result ≡ port_of e c.args.vni c.args.destination = c.port_of.ensures.value
    ∙ ap (λ (x : Edge). port_of x c.args.vni c.args.destination) (sym c.self.view_is) in
    subst (λ (x : Edge). IsDecision x c.args.vni c.args.destination c.args.from c.decide_into.new.decision)
    c.self.view_is (record {
      members = c.members.result;
      members_fit = c.members.type_inv;
      are_members = c.members.ensures;
      passing = f.passing;
      passing_fit = search rules;
      are_passing = c.self.invariant.exact;
      local = c.decide_into.ensures.local
          ∙ (λ i. local_up f.away.items (c.table.ensures i) c.args.vni c.args.destination (learnt i)
          (c.address.ensures i) c.args.from c.members.result f.passing);
      remote = c.decide_into.ensures.remote
          ∙ (λ i. remote_up f.away.items (c.table.ensures i) c.args.vni c.args.destination (learnt i)
          (c.address.ensures i) c.args.from);
    })
