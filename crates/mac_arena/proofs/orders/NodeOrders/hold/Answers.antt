use Rattle.idx_links.specs.Links.{list_at}
use Rattle.idx_links.specs.Families.{lists_of}
use Rattle.idx_links.proofs.Paths.{without-absent}
use Rattle.mac_arena.proofs.OrderSteps.{shape}
use Rattle.mac_arena.proofs.orders.NodeOrders.hold.Goals as goal

pub returns : goal.returns
returns c = rw (
  ← c.self.view_is,
  c.unlink.ensures.nodes,
  c.unlink.ensures.families,
  shape c.self.inside.links c.self.invariant,
  without-absent (list_at (lists_of c.self.inside.links 2) 1) c.args.node (rw (← c.self.view_is) at c.requires.used),
)
