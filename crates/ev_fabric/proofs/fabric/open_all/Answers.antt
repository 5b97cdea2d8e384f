use Rattle.std.proofs.Common.{take, ◌+◌, length, refl, sym, subst}
use Rattle.std.proofs.lemmas.Option.{slice_get_read}
use Rattle.ev_edge.specs.Config.{IsConfig}
use Rattle.ev_edge.specs.Opening.{IsOpening}
use Rattle.ev_fabric.specs.Opening.{AreOpened}
use Rattle.ev_fabric.proofs.Places.{contains_at}
use Rattle.ev_fabric.proofs.Opened.{opened_more}
use Rattle.ev_fabric.proofs.fabric.open_all.Goals as goal

pub open-requires : goal.open-requires
open-requires c = subst IsConfig (sym c.in_incarnation.ensures)
    (c.requires.configs c.config-item.result (contains_at c.args.configs.now c.loop-config.config-index
    (slice_get_read c.args.configs.now (length c.args.configs.now) c.loop-config.config-index
    c.config-item.result refl c.loop-config-test.true c.config-item.is)))

pub loop-config-preserved : goal.loop-config-preserved
loop-config-preserved c = subst (λ l. AreOpened (take (c.loop-config.config-index + 1) c.args.configs.now) l)
    (sym c.in_ok-push.ensures.items)
    (opened_more c.args.configs.now c.loop-config.config-index
    c.loop-config-test.true
    (slice_get_read c.args.configs.now (length c.args.configs.now) c.loop-config.config-index c.config-item.result refl
    c.loop-config-test.true c.config-item.is) c.loop-config.invariant
    (subst (λ d. IsOpening d c.in_ok-edge.edge) c.in_incarnation.ensures c.in_ok-edge.ensures) c.always_good.ensures)
