use Rattle.std.proofs.Common.{refl, subst}
use Rattle.ev_fabric.specs.Fabric.{fabric_of}
use Rattle.ev_fabric.specs.Opening.{AreOpened}
use Rattle.ev_fabric.proofs.Opened.{start_sound}
use Rattle.ev_fabric.proofs.fabric.Fabric.new.Goals as goal

pub invariant_of-result : goal.invariant_of-result
invariant_of-result c = start_sound c.args.configs.items
    (fabric_of c.in_ok-edges.edges.items c.args.configs.items c.new.result.items) c.requires
    (record {
      configs = refl;
      opened = subst (λ l. AreOpened l c.in_ok-edges.edges.items) c.as_slice.ensures.value
          c.in_ok-edges.ensures;
      quiet = c.new.ensures.items;
    })
