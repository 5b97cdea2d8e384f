use Rattle.std.proofs.Common.{◌≤◌, ◌^◌, sym, ap, subst, ◌∙◌}
use Rattle.ev_claims.specs.LocalRoutes.{LocalRoutes}
use Rattle.ev_claims.specs.Leaving.{after_flush, flushed_in}
use Rattle.ev_edge.specs.declared.reply.Reply.{Reply}
use Rattle.ev_edge.specs.Edge.{Edge, edge_of}
use Rattle.ev_edge.specs.Bridging.{aged}
use Rattle.ev_edge.specs.Steps.{SecondSteps}
use Rattle.ev_edge.proofs.Keeping.{bridged, holds_of, flush_holds, later_holds, aged_holds, aged_ports, removals_ports}
use Rattle.ev_edge.proofs.Keeping.{second_early, aged_list, removals_list}
use Rattle.ev_edge.proofs.edge.Edge.second.Goals as goal

pub invariant_of-self : goal.invariant_of-self
invariant_of-self c =
    let f = c.self.inside in
    let e = edge_of f.routes f.clock f.ageing f.bridge f.moves f.away.items f.quotas.items f.storms.items in
    let set = c.go_on-flush.result in
    let now = c.next_second-self-inside.result in
    let times = second_early f.clock c.self.invariant.keeps.early in
    let later : f.clock ≤ now = subst (λ n. f.clock ≤ n) (sym c.next_second-self-inside.ensures) times.0 in
    let early : now ≤ 2 ^ 63 = subst (λ n. n ≤ 2 ^ 63) (sym c.next_second-self-inside.ensures) times.1 in
    bridged e f.passing c.passing_ports-self-inside.result now c.go_on-flush.new.bridge
    (aged (after_flush f.routes set) f.ageing now) c.age.new.routes c.self.invariant c.go_on-flush.ensures.ports
    c.passing_ports-self-inside.ensures
    later early (c.age.ensures ∙ ap (λ (x : LocalRoutes). aged x f.ageing now) c.flush.ensures)
    (aged_holds (after_flush f.routes set) f.ageing now
    (later_holds (after_flush f.routes set) f.clock now later
    (flush_holds f.routes set f.clock (holds_of c.self.invariant))))
    (aged_ports (after_flush f.routes set) f.ageing now ∙ removals_ports f.routes (flushed_in f.routes.learned set))
    (aged_list (after_flush f.routes set) f.ageing now ∙ removals_list f.routes (flushed_in f.routes.learned set))

pub returns : goal.returns
returns c =
    let f = c.self.inside in
    subst (λ (x : Edge). SecondSteps x (record c.clear.new.self { bpdus = c.go_on-flush.new.sent })
    (edge_of c.age.new.routes c.next_second-self-inside.result f.ageing c.go_on-flush.new.bridge f.moves
    f.away.items f.quotas.items f.storms.items))
    c.self.view_is (record {
      flush = c.go_on-flush.result;
      goes = c.go_on-flush.ensures.goes;
      after = λ i. record {
        routes = (c.age.ensures ∙ (λ j. aged (c.flush.ensures j) f.ageing (c.next_second-self-inside.ensures j))) i;
        clock = c.next_second-self-inside.ensures i;
        ageing = f.ageing;
        tree = c.go_on-flush.new.bridge;
        windows = f.moves.windows;
        away = f.away.items;
        quotas = f.quotas.items;
        storms = f.storms.items;
      };
      reply_is = ap (λ (r : Reply). record r { bpdus = c.go_on-flush.new.sent }) c.clear.ensures;
    })
