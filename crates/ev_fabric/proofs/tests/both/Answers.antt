use Rattle.std.proofs.Common.{◌≡◌, ◌∷◌, [], sym, subst, Contains, eqb, lit<, lit≤}
use Rattle.std.specs.List.{IsDistinct}
use Rattle.ev_edge.specs.declared.config.EdgeConfig.{EdgeConfig}
use Rattle.ev_edge.specs.Config.{IsConfig}
use Rattle.ev_fabric.specs.Fabric.{addresses_of}
use Rattle.ev_fabric.specs.Opening.{AreConfigs}
use Rattle.ev_fabric.proofs.Example.{listeners, addresses, differ, two_listen, pushed, each}
use Rattle.ev_fabric.proofs.tests.both.Goals as goal

-- two edges of these addresses that accept updates from both, and from a third one
are_configs : (x y : EdgeConfig) → x.address ≡ 0x0a00_0001 → y.address ≡ 0x0a00_0002 → x.originators.items ≡ listeners
    → y.originators.items ≡ listeners → IsConfig x → IsConfig y → AreConfigs (x ∷ y ∷ [])
are_configs x y p q os ps h k = record {
  some = lit< tt;
  few = lit≤ tt;
  apart = subst (IsDistinct eqb) (sym same) differ;
  configs = each IsConfig x y h k;
  listed = λ c in' o at. subst (λ xs. Contains xs o) (sym (each (λ d. d.originators.items ≡ listeners) x y os ps c in'))
      (two_listen o (subst (λ xs. Contains xs o) same at));
}
  where
    same : addresses_of (x ∷ y ∷ []) ≡ addresses
    same = λ i. p i ∷ q i ∷ []

pub returns : goal.returns
returns c =
    let one = pushed _ [] _ _ c.in_ok-push.ensures.items c.new-configs.ensures.items in
    let two = pushed _ _ _ _ c.in_ok-push-2.ensures.items one in
    subst AreConfigs (sym two)
    (are_configs c.first.result c.second.result c.first.ensures.address c.second.ensures.address
    c.first.ensures.originators c.second.ensures.originators c.first.ensures.fits c.second.ensures.fits)
