-- The segments of a ring of three bridges, and the ways of frames in it.
use Rattle.std.proofs.Common.{◌≡◌, ℕ, zero, suc, ◌+◌, ◌-◌, Bool, true, false, ◌&&◌, [], ◌∷◌}
use Rattle.std.proofs.Common.{refl, sym, ap, ◌∙◌, arith}
use Rattle.rstp_state.specs.declared.port.PortState.{PortState}
use Rattle.rstp_state.specs.Port.{test_at}
use Rattle.rstp_run.specs.Rules.{Tree}
use Rattle.rstp_run.specs.Runs.{IsSettled}
use Rattle.ev_sites.specs.Network.{Spot, Network, IsBridgeAt, PassesAt, Crosses, IsBlockedRing}

abbrev pub spot : ℕ → ℕ → Spot
spot b p = record { bridge = b; place = p }

-- the segment of a port, by the place of its bridge and its own place
abbrev pub segment_of : ℕ → ℕ → ℕ
segment_of zero zero = 0
segment_of zero (suc p) = 1
segment_of (suc zero) zero = 0
segment_of (suc zero) (suc p) = 2
segment_of (suc (suc b)) zero = 1
segment_of (suc (suc b)) (suc p) = 2

abbrev pub ring_of : Tree → Tree → Tree → Network
ring_of a b c = record { bridges = a ∷ b ∷ c ∷ []; segment = λ x. segment_of x.bridge x.place }

abbrev pub passes_frames : PortState → Bool
passes_frames port = port.enabled && port.forwarding

pub passes_at : (net : Network) (n p : ℕ) (s : Tree) → IsBridgeAt net n s → IsSettled s
    → test_at (p + 1 - 1) passes_frames s.ports ≡ true → PassesAt net (spot n p)
passes_at net n p s at settled h = (s, at, (settled, h))

pub closed_at : (net : Network) (n p : ℕ) {s : Tree} → IsBridgeAt net n s
    → test_at (p + 1 - 1) passes_frames s.ports ≡ false → PassesAt net (spot n p) → ⊥
closed_at net n p {s} at off (t, there, passes) =
    let same : s ≡ t = cc in
    let e = sym off ∙ ap (λ (u : Tree). test_at (p + 1 - 1) passes_frames u.ports) same ∙ passes.1 in
    let no : ⊥ = cc in no

-- each port of the ring passes frames, except the second one of the third bridge
pub record IsOpen (a b c : Tree) : Type 0 where
  pub a0 : PassesAt (ring_of a b c) (spot 0 0)
  pub a1 : PassesAt (ring_of a b c) (spot 0 1)
  pub b0 : PassesAt (ring_of a b c) (spot 1 0)
  pub b1 : PassesAt (ring_of a b c) (spot 1 1)
  pub c0 : PassesAt (ring_of a b c) (spot 2 0)
  pub c1 : PassesAt (ring_of a b c) (spot 2 1) → ⊥

other_bridge : {m n p q : ℕ} → (m ≡ n → ⊥) → spot m p ≡ spot n q → ⊥
other_bridge differ same = differ (ap (λ (x : Spot). x.bridge) same)

other_place : {m n p q : ℕ} → (p ≡ q → ⊥) → spot m p ≡ spot n q → ⊥
other_place differ same = differ (ap (λ (x : Spot). x.place) same)

module _ (a b c : Tree) where
  -- by the first bridge
  pub over_first : PassesAt (ring_of a b c) (spot 0 0) → PassesAt (ring_of a b c) (spot 0 1)
      → PassesAt (ring_of a b c) (spot 2 0) → Crosses (ring_of a b c) (spot 0 0) (spot 2 0)
  over_first enters leaves arrives = record {
    out = spot 0 1;
    bridge = refl;
    other = other_place (λ e. omega arith);
    segment = refl;
    apart = other_bridge (λ e. omega arith);
    enters = enters;
    leaves = leaves;
    arrives = arrives;
  }

  -- by the second bridge
  pub over_second : IsOpen a b c → Crosses (ring_of a b c) (spot 1 1) (spot 0 0)
  over_second opened = record {
    out = spot 1 0;
    bridge = refl;
    other = other_place (λ e. omega arith);
    segment = refl;
    apart = other_bridge (λ e. omega arith);
    enters = opened.b1;
    leaves = opened.b0;
    arrives = opened.a0;
  }

  pub round : IsOpen a b c → IsBlockedRing (ring_of a b c)
  round opened = record {
    x = spot 1 1;
    y = spot 0 0;
    z = spot 2 0;
    out = spot 2 1;
    three = refl;
    goes = (over_second opened, (over_first opened.a0 opened.a1 opened.c0, refl));
    bridge = refl;
    other = other_place (λ e. omega arith);
    segment = refl;
    apart = other_bridge (λ e. omega arith);
    blocked = opened.c1;
  }
