use Rattle.std.proofs.Common.{◌≡◌, length, take, sym, ap, subst, ◌∙◌, arith}
use Rattle.std.specs.Prelude.{Contains}
use Rattle.std.proofs.lemmas.List.{length-map}
use Rattle.ev_edge.specs.declared.config.PortConfig.{PortConfig}
use Rattle.ev_edge.proofs.Opened.{opened}
use Rattle.ev_edge.proofs.Quotas.{opened_kept}
use Rattle.ev_edge.proofs.edge.Edge.open.Goals as goal

pub invariant_of-result : goal.invariant_of-result
invariant_of-result c =
    let ports = c.args.config.ports.items in
    let set = c.set_settings.new.settings in
    let size : length c.vnis_of.result.items ≡ length (take c.len.result set) =
    ap length c.vnis_of.ensures ∙ length-map ports (λ (p : PortConfig). p.vni)
    ∙ sym (length-map ports (λ (p : PortConfig). p.settings))
    ∙ sym (ap length c.set_settings.ensures) ∙ ap (λ n. length (take n set)) (sym c.len.ensures.value) in
    let quotas = c.quotas_of-quotas.result.items in
    rw c.new-2.ensures (opened _ c.in_ok-routes.routes c.args.config.tree (take c.len.result set) c.args.config.ageing
    c.new-bridge.result
    c.new.result quotas c.storms_of-storms.result.items c.in_ok-routes.ensures c.new-bridge.ensures.value size
    (λ v in'. c.requires.served v (subst (λ l. Contains l v) c.vnis_of.ensures in')) (let some =
    c.requires.some_bucket in omega (arith, some))
    (rw c.quotas_of-quotas.ensures (opened_kept ports)))
