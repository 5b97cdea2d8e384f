use Rattle.std.proofs.Common.{◌≡◌, drop}
use Rattle.std.specs.Prelude.{eqb}
use Rattle.std.specs.List.{list_any}
use Rattle.ev_config.specs.Summary.{all_vnis}
use Rattle.ev_config.proofs.summary.is_served.Given as goal

abbrev pub invariant-loop-edge : goal.invariant-loop-edge
invariant-loop-edge l = list_any (λ x. eqb x l.vni) (all_vnis (drop l.edge-index l.edges))
    ≡ list_any (λ x. eqb x l.vni) (all_vnis l.edges)
