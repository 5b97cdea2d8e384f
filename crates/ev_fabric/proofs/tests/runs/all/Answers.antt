use Rattle.std.proofs.Common.{◌≡◌, ◌∷◌, [], sym, subst, ◌∙◌, Contains, eqb, lit<, lit≤}
use Rattle.std.specs.List.{IsDistinct}
use Rattle.ev_edge.specs.declared.config.EdgeConfig.{EdgeConfig}
use Rattle.ev_edge.specs.Config.{IsConfig}
use Rattle.ev_fabric.specs.Fabric.{addresses_of}
use Rattle.ev_fabric.specs.Opening.{AreConfigs}
use Rattle.ev_fabric.proofs.Example.{listeners, all_differ, pushed, each_of_three}
use Rattle.ev_fabric.proofs.tests.runs.all.Goals as goal

-- three edges of these addresses that accept updates from all
are_configs : (x y z : EdgeConfig) → x.address ≡ 0x0a00_0001 → y.address ≡ 0x0a00_0002 → z.address ≡ 0x0a00_0003
    → x.originators.items ≡ listeners → y.originators.items ≡ listeners → z.originators.items ≡ listeners → IsConfig x
    → IsConfig y → IsConfig z → AreConfigs (x ∷ y ∷ z ∷ [])
are_configs x y z p q r os ps qs h k m = record {
  some = lit< tt;
  few = lit≤ tt;
  apart = subst (IsDistinct eqb) (sym same) all_differ;
  configs = each_of_three IsConfig x y z h k m;
  listed = λ c in' o at. subst (λ xs. Contains xs o) (same
      ∙ sym (each_of_three (λ d. d.originators.items ≡ listeners) x y z os ps qs c in')) at;
}
  where
    same : addresses_of (x ∷ y ∷ z ∷ []) ≡ listeners
    same = λ i. p i ∷ q i ∷ r i ∷ []

pub returns : goal.returns
returns c =
    let one = pushed _ [] _ _ c.in_ok-push.ensures.items c.new-configs.ensures.items in
    let two = pushed _ _ _ _ c.in_ok-push-2.ensures.items one in
    let three = pushed _ _ _ _ c.in_ok-push-3.ensures.items two in
    subst AreConfigs (sym three)
    (are_configs c.first.result c.second.result c.third.result c.first.ensures.address c.second.ensures.address
    c.third.ensures.address
    c.first.ensures.originators c.second.ensures.originators c.third.ensures.originators c.first.ensures.fits
    c.second.ensures.fits c.third.ensures.fits)
