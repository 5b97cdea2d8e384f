use Rattle.std.proofs.Common.{◌≡◌, ◌≤◌, ◌∷◌, [], List, ap, sym, subst, ◌∙◌, length, Contains, eqb, lit<, lit≤}
use Rattle.std.proofs.lemmas.List.{length-map}
use Rattle.std.specs.List.{IsDistinct}
use Rattle.route_join.specs.Table.{AreOriginators}
use Rattle.ev_edge.specs.declared.config.PortConfig.{PortConfig}
use Rattle.ev_edge.specs.Config.{vnis_of}
use Rattle.ev_fabric.proofs.Example.{all_differ, one_network, served}
use Rattle.ev_fabric.proofs.tests.config.Goals as goal

-- there are as many ports as VNIs of ports
counted : (ps : List PortConfig) → vnis_of ps ≡ 5001 ∷ 5001 ∷ [] → 1 ≤ length ps
counted ps h = subst (λ n. 1 ≤ n) (sym (ap length h) ∙ length-map ps (λ (p : PortConfig). p.vni)) (lit≤ tt)

pub returns-clause-fits : goal.returns-clause-fits
returns-clause-fits c = record {
  originators = subst AreOriginators (sym c.originators.ensures)
      (record { some = lit< tt; few = lit≤ tt; distinct = all_differ });
  listed = subst (λ xs. Contains xs c.args.address) (sym c.originators.ensures) c.requires;
  distinct = subst (IsDistinct eqb) (sym c.one_network.ensures) one_network;
  some_port = counted c.two_ports.result.items c.two_ports.ensures;
  served = λ v h. subst (λ vs. Contains vs v) (sym c.one_network.ensures)
      (served v (subst (λ vs. Contains vs v) c.two_ports.ensures h));
  some_place = lit≤ tt;
  places = lit≤ tt;
  some_bucket = lit≤ tt;
  buckets = lit≤ tt;
  hello = subst (λ n. 1 ≤ n) (sym c.tree.ensures) (lit≤ tt);
}
