use Rattle.std.proofs.Common.{set, ◌∙◌, arith}
use Rattle.route_join.proofs.WinnerTrees.{IsRenewed, renewed, first_settled, above_next, all_settled}
use Rattle.route_join.proofs.winner_tree.renew.Goals as goal

renews : (c : goal.After-is_as_before) → IsRenewed c.args.nodes.now.items (set c.args.nodes.now.items c.args.at
    (record { own = c.index_mut.result.now.own; best = c.best_at-best.result })) c.args.at c.best_at-best.result
renews c = let v = c.args.nodes.now in
    renewed v.items c.args.at c.index_mut.result.now c.best_at-best.result (omega (arith, c.requires.within, v.ok.0))
    c.index_mut.ensures.value (rw c.deref.ensures.value at c.best_at-best.ensures)

pub returns-clause-owns : goal.returns-clause-owns
returns-clause-owns c = (renews c).own

pub returns-clause-above : goal.returns-clause-above
returns-clause-above c = above_next c.requires.others (renews c)

pub returns-clause-first : goal.returns-clause-first
returns-clause-first c = first_settled c.requires.others (renews c)

pub returns-clause-all : goal.returns-clause-all
returns-clause-all c = λ done. all_settled c.requires.others (renews c) (c.is_as_before.ensures.same done
    ∙ rw c.deref-2.ensures.value at c.best_below-was.ensures) (c.is_as_before.ensures.other done)
