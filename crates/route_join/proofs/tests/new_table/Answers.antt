use Rattle.std.proofs.Common.{◌∷◌, [], lit<, lit≤}
use Rattle.std.specs.List.{IsDistinct}
use Rattle.route_join.specs.Table.{AreOriginators}
use Rattle.route_join.proofs.tests.new_table.Goals as goal

five_listed : AreOriginators (0x0a00_0001 ∷ 0x0a00_0002 ∷ 0x0a00_0003 ∷ 0x0a00_0004 ∷ 0x0a00_0009 ∷ [])
unfolding IsDistinct
five_listed = record { some = lit< tt; few = lit≤ tt; distinct = assumption }

pub new-requires-6 : goal.new-requires-6
new-requires-6 c = rw (
  c.push-5.ensures.items,
  c.push-4.ensures.items,
  c.push-3.ensures.items,
  c.push-2.ensures.items,
  c.push.ensures.items,
  c.new-originators.ensures,
  c.new.ensures,
  c.new-2.ensures,
  c.new-3.ensures,
  c.new-4.ensures,
  c.new-5.ensures,
) five_listed
