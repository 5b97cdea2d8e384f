use Rattle.std.proofs.Common.{ℕ, List, [], ◌∷◌, ◌++◌, sym, ap, subst, ◌∙◌}
use Rattle.route_join.specs.Table.{AreOriginators}
use Rattle.ev_exchange.proofs.life.Life.new.Goals as goal
use Rattle.route_join.proofs.Basics.{one_originator}

pub new-requires : goal.new-requires
new-requires c = subst AreOriginators (sym (c.push.ensures.items
    ∙ ap (λ (xs : List ℕ). xs ++ c.args.originator ∷ []) c.new-originators.ensures))
    (one_originator c.args.originator)
