use Rattle.std.proofs.Common.{arith, ◌∙◌, ◌-◌, ◌/◌}
use Rattle.route_join.proofs.WinnerTrees.{half}
use Rattle.route_join.proofs.winner_tree.settle.Goals as goal

pub returns-then-renew-clause-settled : goal.returns-then-renew-clause-settled
returns-then-renew-clause-settled c = c.renew.ensures.all c.if-renew.true

pub up-preserved : goal.up-preserved
up-preserved c = record {
  within = omega (arith, c.up.invariant.within, c.renew.ensures.len, c.up.nodes.ok.0, c.renew.new.nodes.ok.0);
  others = c.renew.ensures.above ((c.up.at - 1) / 2) (half c.up.at c.if-at-eq0.false);
  owns = c.renew.ensures.owns ∙ c.up.invariant.owns;
}
