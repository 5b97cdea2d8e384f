use Rattle.std.proofs.Common.{◌≡◌, ◌≤◌, ◌∷◌, [], ℕ, zero, suc, List, refl, ap, sym, subst, ◌∙◌, length, Contains, eqb}
use Rattle.std.proofs.Common.{arith, lit<, lit≤}
use Rattle.std.proofs.lemmas.List.{length-map}
use Rattle.std.specs.List.{IsDistinct}
use Rattle.route_join.specs.Table.{AreOriginators}
use Rattle.ev_edge.specs.declared.config.PortConfig.{PortConfig}
use Rattle.ev_edge.specs.Config.{vnis_of}
use Rattle.ev_edge.proofs.tests.limited_config.Goals as goal

abbrev listed : List ℕ
listed = 0x0a00_0001 ∷ 0x0a00_0002 ∷ 0x0a00_0003 ∷ 0x0a00_0004 ∷ []

are_originators : AreOriginators listed
unfolding IsDistinct
are_originators = record {
  some = lit< tt;
  few = lit≤ tt;
  distinct = ((refl, (refl, (refl, tt))), ((refl, (refl, tt)), ((refl, tt), (tt, tt))));
}

abbrev networks : List ℕ
networks = 5001 ∷ []

abbrev ports : List ℕ
ports = 5001 ∷ 5001 ∷ 5001 ∷ []

differ : IsDistinct eqb networks
unfolding IsDistinct
differ = (tt, tt)

served : (v : ℕ) → Contains ports v → Contains networks v
served v (zero, l, e) = (0, lit< tt, e)
served v (suc zero, l, e) = (0, lit< tt, e)
served v (suc (suc zero), l, e) = (0, lit< tt, e)
served v (suc (suc (suc k)), l, e) = absurd (omega arith)

-- there are as many ports as networks of ports
counted : (ps : List PortConfig) → vnis_of ps ≡ ports → 1 ≤ length ps
counted ps h = subst (λ n. 1 ≤ n) (sym (ap length h) ∙ length-map ps (λ (p : PortConfig). p.vni)) (lit≤ tt)

pub returns : goal.returns
returns c = record {
  originators = subst AreOriginators (sym c.originators.ensures) are_originators;
  listed = subst (λ xs. Contains xs c.new.result) (sym c.originators.ensures) (1, lit< tt, sym c.new.ensures);
  distinct = subst (IsDistinct eqb) (sym c.one_network.ensures) differ;
  some_port = counted c.three_ports.result.items c.three_ports.ensures;
  served = λ v h. subst (λ vs. Contains vs v) (sym c.one_network.ensures)
      (served v (subst (λ vs. Contains vs v) c.three_ports.ensures h));
  some_place = c.requires.some;
  places = c.requires.few;
  some_bucket = c.requires.some;
  buckets = c.requires.few;
  hello = subst (λ n. 1 ≤ n) (sym c.tree.ensures) (lit≤ tt);
}
