-- Along the way of a frame through a network at rest the message age rises, or it falls and then rises.
use Rattle.std.proofs.Common.{◌≡◌, ◌≢◌, ℕ, ◌+◌, ◌-◌, ◌%◌, ◌^◌, ◌*◌, ◌/◌, ◌<◌, ◌≤◌, Bool, true, false, ◌⊎◌, inl}
use Rattle.std.proofs.Common.{inr, cond, nat_lt, List, [], ◌∷◌, length, Option, Some, None, slice_get, refl, sym}
use Rattle.std.proofs.Common.{ap}
use Rattle.std.proofs.Common.{◌∙◌, arith}
use Rattle.std.specs.Option.{option_map_or}
use Rattle.std.proofs.lemmas.Option.{slice_get_cases, same_Some}
use Rattle.std.proofs.lemmas.Bool.{false≢true, or_cases}
use Rattle.rstp_state.specs.declared.port.PortState.{PortState}
use Rattle.rstp_state.specs.declared.vector.Times.{Times}
use Rattle.rstp_state.specs.declared.vector.Vector.{Vector}
use Rattle.rstp_state.specs.Port.{is_designated, is_root}
use Rattle.rstp_state.specs.Selection.{times_beyond}
use Rattle.bpdu_wire.specs.Id.{port_number}
use Rattle.rstp_state.specs.Vector.{is_less, seconds_of, times_of}
use Rattle.rstp_run.specs.RootPort.{IsAtPlace}
use Rattle.rstp_run.specs.Settled.{IsReached}
use Rattle.rstp_run.specs.Laws.{IsInTree}
use Rattle.ev_sites.specs.Inner.Bridges.{BridgeLaws}
use Rattle.rstp_run.specs.Rules.{Tree}
use Rattle.rstp_run.specs.Runs.{IsSettled}
use Rattle.rstp_run.specs.Transmit.{field_of, message_with}
use Rattle.rstp_run.specs.TopologyChange.{is_in_tree}
use Rattle.ev_sites.specs.Network.{Spot, Network, IsBridgeAt, IsPortAt, IsNetwork, IsQuiet, IsAtRest, PassesAt}
use Rattle.ev_sites.specs.Network.{Travels, TravelsQuietly, age_at}

-- ---- times

whole : (a : ℕ) → (a * 256 + 255) / 256 ≡ a
whole a = omega arith

most : (m : ℕ) → seconds_of (field_of m) ≤ 256
most m = from (nat_lt m 256) refl
  where
    from : (b : Bool) → nat_lt m 256 ≡ b → seconds_of (cond b (m * 256) 65535) ≤ 256
    from true e = let small : m < 256 = grind (arith) in omega (arith, whole m)
    from false e = omega arith

-- a received message age below the received max age is equal to the sent one
carried : (a m : ℕ) → seconds_of (field_of a) < seconds_of (field_of m) → (seconds_of (field_of a) ≡ a) × (a < 256)
carried a m h = from (nat_lt a 256) refl h
  where
    from : (b : Bool) → nat_lt a 256 ≡ b → seconds_of (cond b (a * 256) 65535) < seconds_of (field_of m)
        → (seconds_of (cond b (a * 256) 65535) ≡ a) × (a < 256)
    from true e k = (whole a, grind (arith))
    from false e k = absurd (omega (arith, most m))

-- a bridge whose root port has the times that port d sends has a greater message age than d's bridge
age_beyond : (d : PortState) {u v : Times} (w : Times) → v ≡ times_beyond u → u ≡ times_of (message_with 0 d)
    → u.message_age < u.max_age
    → d.designated_times.message_age ≡ w.message_age → w.message_age < v.message_age
age_beyond d w beyond has young is =
    let age = ap (λ (t : Times). t.message_age) has in
    let come = carried d.designated_times.message_age d.designated_times.max_age (rw (
      sym age,
      sym (ap (λ
          (t : Times). t.max_age) has),
    ) young) in
    omega (arith, come.1, ap (λ (t : Times). t.message_age) beyond, age ∙ come.0)

-- ---- ports of a network

pub spot_same : {x y : Spot} → x.bridge ≡ y.bridge → x.place ≡ y.place → x ≡ y
spot_same b p = λ i. record { bridge = b i; place = p i }

within_of : (ports : List PortState) {p : ℕ} {port : PortState} → slice_get ports p ≡ Some port → p < length ports
within_of ports {p} at =
    elim (slice_get_cases ports p).1 [
      | inl (x, within, found, same) ↦ within
      | inr (past, none) ↦ absurd (cc)
    ]

small_number : {p n : ℕ} → p < n → n < 2 ^ 12 → (p + 1) % 2 ^ 12 ≡ p + 1
small_number within few = omega arith

next_same : {p q : ℕ} → p + 1 ≡ q + 1 → p ≡ q
next_same h = omega arith

age_of : (net : Network) (b : ℕ) {s : Tree} → IsBridgeAt net b s → age_at net b ≡ s.root.times.message_age
age_of net b at = ap (λ o. option_map_or (λ (t : Tree). t.root.times.message_age) o 0) at

-- the root port, or the designated port, of a settled bridge
abbrev pub IsRootAt : Network → Spot → Type 0
IsRootAt net x = (s : Tree) × (a : PortState) × IsPortAt net x s a × IsSettled s × (is_root a.role ≡ true)

abbrev pub IsDesignatedAt : Network → Spot → Type 0
IsDesignatedAt net x = (s : Tree) × (a : PortState) × IsPortAt net x s a × IsSettled s × (is_designated a.role ≡ true)

-- from x another port of its bridge, and then y on that port's segment: each is a root port or a designated port
pub record Joins (net : Network) (x y : Spot) : Type 0 where
  pub out : Spot
  pub bridge : out.bridge ≡ x.bridge
  pub other : out ≢ x
  pub segment : net.segment out ≡ net.segment y
  pub apart : out ≢ y
  pub enters : IsRootAt net x ⊎ IsDesignatedAt net x
  pub leaves : IsRootAt net out ⊎ IsDesignatedAt net out
  pub arrives : IsRootAt net y ⊎ IsDesignatedAt net y

-- a way over quiet segments, by ports in the tree
abbrev pub Leads : Network → List Spot → Spot → Spot → Type 0
Leads net [] x y = x ≡ y
Leads net (z ∷ later) x y = Joins net x z × IsQuiet net (net.segment z) × Leads net later z y

module _ (laws : BridgeLaws) (net : Network) (is : IsNetwork net) where
  came : (b : ℕ) (s : Tree) → IsBridgeAt net b s → IsReached s
  came b s at = is.reached b s at

  pub one_designated : (x y : Spot) (s t : Tree) (a b : PortState) → IsPortAt net x s a → IsPortAt net y t b
      → net.segment x ≡ net.segment y
      → IsQuiet net (net.segment y) → IsSettled s → IsSettled t → is_designated a.role ≡ true
      → is_designated b.role ≡ true → x ≡ y
  one_designated x y s t a b at_x at_y joined quiet settled_s settled_t da db =
      let reached_s = came x.bridge s at_x.in_net in
      let reached_t = came y.bridge t at_y.in_net in
      let send_a = (laws.sends s reached_s settled_s x.place a at_x.in_bridge).vector in
      let send_b = (laws.sends t reached_t settled_t y.place b at_y.in_bridge).vector in
      let same = laws.good a.designated_priority b.designated_priority (sym (ap
      (λ v. is_less a.designated_priority v) (laws.has t reached_t settled_t y.place b at_y.in_bridge db))
      ∙ quiet.heard y x t s b a at_y at_x refl joined settled_t settled_s db da) (sym (ap
      (λ v. is_less b.designated_priority v) (laws.has s reached_s settled_s x.place a at_x.in_bridge da))
      ∙ quiet.heard x y s t a b at_x at_y joined refl settled_s settled_t da db) in
      spot_same (is.distinct x.bridge y.bridge s t at_x.in_net at_y.in_net (sym (ap (λ
      (v : Vector). v.bridge) send_a) ∙ ap (λ (v : Vector). v.bridge) same ∙ ap (λ (v : Vector). v.bridge) send_b))
      (next_same (sym (small_number
      (within_of s.ports at_x.in_bridge) (is.few x.bridge s at_x.in_net))
      ∙ sym (laws.numbered s reached_s x.place a at_x.in_bridge)
      ∙ ap port_number (sym (ap (λ (v : Vector). v.port) send_a) ∙ ap (λ (v : Vector). v.port) same
      ∙ ap (λ (v : Vector). v.port) send_b) ∙ (laws.numbered t reached_t y.place b at_y.in_bridge)
      ∙ (small_number (within_of t.ports at_y.in_bridge)
      (is.few y.bridge t at_y.in_net))))

  designated_once : (x y : Spot) → IsDesignatedAt net x → IsDesignatedAt net y → net.segment x ≡ net.segment y
      → IsQuiet net (net.segment y) → x ≡ y
  designated_once x y (s, a, at_x, ss, da) (t, b, at_y, st, db) joined quiet =
      one_designated x y s t a b at_x at_y joined quiet ss st da db

  root_once_in : (x y : Spot) (s t : Tree) (a b : PortState) → IsPortAt net x s a → IsPortAt net y t b
      → x.bridge ≡ y.bridge → t ≡ s → IsSettled s
      → is_root a.role ≡ true → is_root b.role ≡ true → x ≡ y
  root_once_in x y s t a b at_x at_y same one settled_s ra rb =
      let came_s = came x.bridge s at_x.in_net in
      let P : Tree → Type 0 = λ v. IsAtPlace v y.place b in
      spot_same same (laws.one_root came_s.0 came_s.1 s came_s.2 settled_s x.place y.place a b at_x.in_bridge
      (rw one at at_y.in_bridge)
      ra rb)

  root_once : (x y : Spot) → IsRootAt net x → IsRootAt net y → x.bridge ≡ y.bridge → x ≡ y
  root_once x y (s, a, at_x, ss, ra) (t, b, at_y, st, rb) same =
      root_once_in x y s t a b at_x at_y same (same_Some t s (sym at_y.in_net ∙ (rw same) ∙ at_x.in_net)) ss ra rb

  -- a port in the tree of a settled bridge is a root port or a designated port
  pub tree_at : (x : Spot) (s : Tree) → IsBridgeAt net x.bridge s → IsSettled s → IsInTree s (x.place + 1)
      → IsRootAt net x ⊎ IsDesignatedAt net x
  tree_at x s at settled tree =
      let zeroth : x.place + 1 - 1 ≡ x.place = omega arith in
      from (slice_get s.ports x.place) refl ((rw zeroth) ∙ tree)
    where
      from : (o : Option PortState) → slice_get s.ports x.place ≡ o → option_map_or is_in_tree o false ≡ true
          → IsRootAt net x ⊎ IsDesignatedAt net x
      from None e h = absurd (false≢true h)
      from (Some a) e h =
          elim (or_cases (is_root a.role) (is_designated a.role) h) [
            | inl root ↦ inl (s, a, record { in_net = at; in_bridge = e }, settled, root)
            | inr designated ↦ inr (s, a, record { in_net = at; in_bridge = e }, settled, designated)
          ]

  -- a port that passes frames is a root port or a designated port
  passing_at : (x : Spot) → PassesAt net x → IsRootAt net x ⊎ IsDesignatedAt net x
  passing_at x (s, at, passes) = tree_at x s at passes.0
      (laws.in_tree s (came x.bridge s at) (x.place + 1) passes)

  -- on a segment the message age rises from the designated port's bridge to the root port's
  rises : (x y : Spot) → IsDesignatedAt net x → IsRootAt net y → net.segment x ≡ net.segment y
      → IsQuiet net (net.segment y)
      → age_at net x.bridge < age_at net y.bridge
  rises x y dx (t, b, at_y, st, rb) joined quiet =
      let told = quiet.told y t b at_y refl st rb in
      let root = laws.followed t (came y.bridge t at_y.in_net) st y.place b at_y.in_bridge rb in
      omega (
        arith,
        age_of net y.bridge at_y.in_net,
        ap (λ (z : Spot). age_at net z.bridge) (sym
            (designated_once told.by x (told.bridge, told.port, told.at, told.settled, told.designated) dx
            (told.segment ∙ sym joined) (rw joined quiet))) ∙ age_of net told.by.bridge told.at.in_net,
        age_beyond told.port told.bridge.root.times root.further told.times
            root.young (ap (λ (v : Times). v.message_age) (laws.sends told.bridge
            (came told.by.bridge told.bridge told.at.in_net) told.settled told.by.place told.port
            told.at.in_bridge).times),
      )

  -- ---- one crossing

  -- if a frame enters a bridge at its root port, it leaves by a designated port and enters the next bridge at its root
  -- port
  up : (x y : Spot) → Joins net x y → IsQuiet net (net.segment y) → IsRootAt net x
      → IsRootAt net y × (age_at net x.bridge < age_at net y.bridge)
  up x y c quiet rx =
      let out : IsDesignatedAt net c.out = elim (c.leaves) [
        | inl root ↦ absurd (c.other (root_once c.out x root rx c.bridge))
        | inr designated ↦ designated
      ] in
      let ry : IsRootAt net y = elim (c.arrives) [
        | inl root ↦ root
        | inr designated ↦ absurd (c.apart (designated_once c.out y out designated c.segment quiet))
      ] in
      (ry, omega (arith, ap (age_at net) c.bridge, rises c.out y out ry c.segment quiet))

  -- if a frame enters a bridge at a designated port, it left the previous bridge by its root port
  down : (x y : Spot) → Joins net x y → IsQuiet net (net.segment y) → IsDesignatedAt net y
      → IsDesignatedAt net x × (age_at net y.bridge < age_at net x.bridge)
  down x y c quiet dy =
      let out : IsRootAt net c.out = elim (c.leaves) [
        | inl root ↦ root
        | inr designated ↦ absurd (c.apart (designated_once c.out y designated dy c.segment quiet))
      ] in
      let dx : IsDesignatedAt net x = elim (c.enters) [
        | inl root ↦ absurd (c.other (root_once c.out x out root c.bridge))
        | inr designated ↦ designated
      ] in
      (dx, omega (arith, ap (age_at net) c.bridge, rises y c.out dy out (sym c.segment) (rw c.segment quiet)))

  -- ---- ways

  ups : (ports : List Spot) (x y : Spot) → Leads net ports x y → IsRootAt net x
      → age_at net x.bridge + length ports ≤ age_at net y.bridge
  ups [] x y way rx = omega (arith, ap (λ (z : Spot). age_at net z.bridge) way)
  ups (z ∷ later) x y way rx =
      let step = up x z way.0 way.1 rx in
      omega (arith, ups later z y way.2 step.0, step.1)

  downs : (ports : List Spot) (x y : Spot) → Leads net ports x y → IsDesignatedAt net y
      → IsDesignatedAt net x × (age_at net y.bridge + length ports ≤ age_at net x.bridge)
  downs [] x y way dy =
      let P : Spot → Type 0 = λ z. IsDesignatedAt net z in
      (rw way dy, omega (arith, ap (λ (z : Spot). age_at net z.bridge) way))
  downs (z ∷ later) x y way dy =
      let below = downs later z y way.2 dy in
      let step = down x z way.0 way.1 below.0 in
      (step.0, omega (arith, below.1, step.1))

  pub comes_back_by_none : (x : Spot) (ports : List Spot) → Leads net ports x x → ports ≡ []
  comes_back_by_none x [] way = refl
  comes_back_by_none x (z ∷ later) way =
      elim (way.0.enters) [
        | inl root ↦ absurd (omega (arith, ups (z ∷ later) x x way root))
        | inr designated ↦ let more = (downs (z ∷ later) x x way designated).1 in absurd (omega arith)
      ]

  -- the way goes down to a bridge that it enters at its root port, and up from there
  pub short : (ports : List Spot) (x y : Spot) → Leads net ports x y
      → length ports ≤ age_at net x.bridge + age_at net y.bridge + 1
  short [] x y way = omega arith
  short (z ∷ later) x y way =
      elim (way.0.arrives) [
        | inl root ↦ omega (arith, ups later z y way.2 root)
        | inr designated ↦
            let step = (down x z way.0 way.1 designated).1 in
            omega (arith, short later z y way.2)
      ]

  -- a frame goes by ports in the tree
  pub leads : (ports : List Spot) (x y : Spot) → TravelsQuietly net ports x y → Leads net ports x y
  leads [] x y way = way
  leads (z ∷ later) x y way =
      let c = way.0 in (
        record {
          out = c.out;
          bridge = c.bridge;
          other = c.other;
          segment = c.segment;
          apart = c.apart;
          enters = passing_at x c.enters;
          leaves = passing_at c.out c.leaves;
          arrives = passing_at z c.arrives;
        },
        way.1,
        leads later z y way.2,
      )

  -- at rest each way is quiet
  pub quietly : IsAtRest net → (ports : List Spot) (x y : Spot) → Travels net ports x y → TravelsQuietly net ports x y
  quietly rest [] x y way = way
  quietly rest (z ∷ later) x y way = (way.0, rest.quiet (net.segment z), quietly rest later z y way.1)
