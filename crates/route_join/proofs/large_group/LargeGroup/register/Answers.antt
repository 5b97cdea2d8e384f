use Rattle.std.proofs.Common.{sym}
use Rattle.route_join.specs.Inner.WinnerTree.{owns}
use Rattle.route_join.proofs.Trees.{among}
use Rattle.route_join.proofs.large_group.LargeGroup.register.Goals as goal

pub returns-in-None : goal.returns-in-None
returns-in-None c = rw (c.in-None.ensures, c.deref.ensures.value, ← c.self.view_is)
    (among (owns c.self.inside.nodes.items) c.self.inside.tree.entries c.self.invariant.placed c.args.register.now
    c.place_at.result (sym c.place_at.ensures))

pub returns-in-Some : goal.returns-in-Some
returns-in-Some c = rw (c.in-Some.ensures, c.deref.ensures.value, ← c.self.view_is)
    (among (owns c.self.inside.nodes.items) c.self.inside.tree.entries c.self.invariant.placed c.args.register.now
    c.place_at.result (sym c.place_at.ensures))
