use Rattle.std.proofs.Common.{refl}
use Rattle.route_wire.specs.Order.{register_cmp}
use Rattle.route_join.specs.Owner.{advert_in}
use Rattle.route_join.proofs.Within.{both_say}
use Rattle.route_join.proofs.winner_tree.wins_against.Goals as goal

pub returns-then-are_level : goal.returns-then-are_level
returns-then-are_level c =
    let u = c.args.one.now in
    let w = c.args.other.now in
    rw (
      c.wins.ensures,
      c.advert_in-said.ensures,
      c.value.ensures,
      c.advert_in-best.ensures,
      c.value-2.ensures,
      c.cmp.ensures,
      c.register.ensures,
      c.register-then-are_level.ensures,
    ) (both_say u.register w.register (advert_in u.value.content) (advert_in w.value.content)
    (register_cmp u.register w.register) refl)
