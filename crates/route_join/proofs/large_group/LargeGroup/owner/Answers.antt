use Rattle.route_join.proofs.Trees.{silent, leads}
use Rattle.route_join.proofs.large_group.LargeGroup.owner.Goals as goal

pub returns-in-None : goal.returns-in-None
returns-in-None c = rw (← c.self.view_is) (silent c.self.inside.tree.entries c.self.inside.nodes.items
    c.self.invariant (rw c.deref.ensures.value at c.in-None.ensures))

pub returns-in-Some : goal.returns-in-Some
returns-in-Some c = rw (← c.self.view_is, c.register.ensures) (leads c.self.inside.tree.entries
    c.self.inside.nodes.items c.self.invariant c.in-Some.best.now (rw c.deref.ensures.value at c.in-Some.ensures))

pub best-requires : goal.best-requires
best-requires c = rw c.deref.ensures.value c.self.invariant.settled
