use Rattle.std.proofs.Common.{◌∙◌, arith}
use Rattle.std.proofs.lemmas.List.{map-set}
use Rattle.route_join.specs.declared.winner_tree.WinnerNode.{WinnerNode}
use Rattle.route_join.proofs.WinnerTrees.{replaced}
use Rattle.route_join.proofs.winner_tree.replace.Goals as goal

pub settle-requires-clause-others : goal.settle-requires-clause-others
settle-requires-clause-others c =
    let v = c.args.nodes.now in
    replaced v.items c.args.place c.index_mut.result.now c.args.update.now (omega (arith, c.requires.within, v.ok.0))
    c.index_mut.ensures.value c.requires.settled

pub returns-clause-owns : goal.returns-clause-owns
returns-clause-owns c =
    c.settle.ensures.owns ∙ map-set (λ (b : WinnerNode). b.own) c.args.nodes.now.items c.args.place
    (record { own = c.args.update.now; best = c.index_mut.result.now.best })
