use Rattle.std.proofs.Common.{◌≤◌, List, ℕ, length, refl, sym, ap, subst, ◌∙◌, arith}
use Rattle.std.specs.List.{refill}
use Rattle.mac_arena.specs.Learning.{nothing_learnt}
use Rattle.ev_claims.specs.Opening.{after_floods}
use Rattle.ev_claims.specs.LocalRoutes.{KeepsRoutes, routes_of}
use Rattle.ev_claims.proofs.Opened.{refilled, opened_routes}
use Rattle.ev_claims.proofs.local_routes.LocalRoutes.open.Goals as goal

pub invariant_of-result : goal.invariant_of-result
invariant_of-result c =
    let s = c.args.start in
    let vs = refill (length s.vnis.items) s.vnis.items c.sort_unstable.new.self in
    let size = c.sort_unstable.ensures.len
    ∙ ap length c.as_mut_slice.ensures.value in
    subst KeepsRoutes (λ i. routes_of (sym (c.in_ok-open.ensures ∙ (λ i. after_floods (c.in_ok-speaker.ensures i)
    (c.as_slice.ensures.value i))) i) (sym (c.in_ok-learned.ensures
    ∙ ap (λ n. nothing_learnt s.capacity n s.buckets s.salt) c.len-ports.ensures.value) i) s.ports.items vs)
    (opened_routes s.address s.incarnation s.originators.items vs s.ports.items s.capacity s.buckets s.salt
    c.requires.capacity (subst (λ n. n ≤ 64) c.len-ports.ensures.value c.len-ports.ensures.fits) (omega (
      arith,
      ap length (refilled s.vnis.items c.sort_unstable.new.self size),
      size,
      (subst (λ
          (xs : List ℕ). length xs ≤ 64) c.as_mut_slice.ensures.value c.as_mut_slice.ensures.fits),
    )))

pub returns : goal.returns
returns c =
    let s = c.args.start in
    let vs = refill (length s.vnis.items) s.vnis.items c.sort_unstable.new.self in
    let is = refilled s.vnis.items c.sort_unstable.new.self (c.sort_unstable.ensures.len
    ∙ rw c.as_mut_slice.ensures.value) in
    record {
      vnis = rw is (rw c.as_mut_slice.ensures.value at c.sort_unstable.ensures.permutation);
      ascending = rw is c.sort_unstable.ensures.sorted;
      speaker = c.in_ok-open.ensures ∙ (λ i. after_floods (c.in_ok-speaker.ensures i) (c.as_slice.ensures.value i));
      learned = c.in_ok-learned.ensures ∙ rw c.len-ports.ensures.value;
      ports = refl;
    }
