-- The firings that each port may still have, before a pass and after it.
use Rattle.rstp_run.proofs.Basics.{Claim, Number, Off, On}
use Rattle.rstp_run.proofs.Costs.{Bill, many, one, pass-within, sum, Within}
use Rattle.rstp_run.proofs.Each.{AtAll, at_selected, chosen}
use Rattle.rstp_run.proofs.Kept.{OneRoot}
use Rattle.rstp_run.proofs.Names.{[], arith, asks, Bool, cases_Bool, cases_lt, Going, inl, inr, is_root, List, length}
use Rattle.rstp_run.proofs.Names.{main_order, option_map_or, PortState, pass, refl, Settings, slice_get}
use Rattle.rstp_run.proofs.Names.{slice_get_within, suc, test_at, timing_in, tries, tries_all, zero, ℕ, ◌*◌, ◌+◌, ◌<◌}
use Rattle.rstp_run.proofs.Names.{◌∙◌, ◌∷◌, ◌≡◌, ◌≤◌, ◌⊎◌}
use Rattle.rstp_run.proofs.Places.{main_rest}
use Rattle.rstp_run.proofs.Steps.{IsFull, length-ports_after, tries-off}
use Rattle.rstp_run.proofs.Totals.{if_so, if_so-le, if_so-off, total}
use Rattle.rstp_run.proofs.Whole.{tries-cases}
use Rattle.rstp_run.proofs.Names.rules

-- at most b firings, with those that each port may still cost
abbrev pub Held : Number → ℕ → ℕ → ℕ → Claim
Held V n limit b g =
    (length g.firings ≤ b)
    × ((limit ≤ length g.firings)
    ⊎ ((f : ℕ → ℕ) × AtAll (λ q x. V x ≤ f q) g.tree.ports × (length g.firings + sum n f ≤ b)))

-- the same by another number, that isn't greater
pub held-as : (V W : Number) (n limit : ℕ) {b : ℕ} (c : ℕ) (g : Going) → Held V n limit b g
    → ((x : PortState) → W x ≤ V x) → b ≤ c → Held W n limit c g
held-as V W n limit c g h less more = (
  omega (arith, h.0),
  elim h.1 [
    | inl full ↦ inl full
    | inr s ↦ inr (s.0, λ q x at. omega (arith, less x, s.1 q x at), omega (arith, s.2))
  ],
)

-- a number of each port, by its place
abbrev at_place : Number → List PortState → ℕ → ℕ
at_place f ports q = option_map_or f (slice_get ports q) 0

sum_first : (n : ℕ) (f : ℕ → ℕ) → sum (suc n) f ≡ f 0 + sum n (λ q. f (suc q))
sum_first zero f = omega arith
sum_first (suc n) f = omega (arith, sum_first n f)

sum_total : (f : Number) (ports : List PortState) → sum (length ports) (at_place f ports) ≡ total f ports
sum_total f [] = refl
sum_total f (x ∷ xs) = omega (arith, sum_total f xs, sum_first (length xs) (at_place f (x ∷ xs)))

sum_both : (n : ℕ) (f h : ℕ → ℕ) → sum n (λ q. f q + h q) ≡ sum n f + sum n h
sum_both zero f h = omega arith
sum_both (suc n) f h = omega (arith, sum_both n f h)

-- the numbers of all ports, if each is at most its share
pub total-shares : (L : Number) (n : ℕ) (f : ℕ → ℕ) (ports : List PortState) → length ports ≡ n
    → AtAll (λ q x. L x ≤ f q) ports → total L ports ≤ sum n f
total-shares L n f ports many all = rw (← many) (go ports f all)
  where
    go : (list : List PortState) (f : ℕ → ℕ) → AtAll (λ q x. L x ≤ f q) list → total L list ≤ sum (length list) f
    go [] f all = omega arith
    go (x ∷ xs) f all =
        omega (arith, all zero x refl, go xs (λ q. f (suc q)) (λ q. all (suc q)), sum_first (length xs) f)

-- ---- one root port

total_none : (w : ℕ) (mark : PortState → Bool) (ports : List PortState) → AtAll (λ q x. Off (mark x)) ports
    → total (λ x. if_so w (mark x)) ports ≡ 0
total_none w mark [] all = refl
total_none w mark (x ∷ xs) all =
    omega (arith, if_so-off w (mark x) (all zero x refl), total_none w mark xs (λ q. all (suc q)))

total-root : (w : ℕ) (ports : List PortState) → OneRoot ports
    → total (λ x. if_so w (is_root x.selected_role)) ports ≤ w
total-root w [] one = omega arith
total-root w (x ∷ xs) one = elim (cases_Bool (is_root x.selected_role)) [
  | inl is ↦
      omega (arith, if_so-le w (is_root x.selected_role), total_none w (λ y. is_root y.selected_role) xs (other is))
  | inr is ↦ omega (arith, if_so-off w (is_root x.selected_role) is, total-root w xs later)
]
  where
    other : On (is_root x.selected_role) → AtAll (λ q y. Off (is_root y.selected_role)) xs
    other is q y at = elim (cases_Bool (is_root y.selected_role)) [
      | inl r ↦ absurd (omega (arith, one zero (suc q) x y refl at is r))
      | inr r ↦ r
    ]

    later : OneRoot xs
    later p q a b at_p at_q ra rb = omega (arith, one (suc p) (suc q) a b at_p at_q ra rb)

-- the same number at each port, and more at the root port
pub total-spare : (c w : ℕ) (ports : List PortState) → OneRoot ports
    → total (λ x. c + if_so w (is_root x.selected_role)) ports ≤ length ports * c + w
total-spare c w ports one = omega (arith, total-root w ports one, go ports)
  where
    go : (list : List PortState) → total (λ x. c + if_so w (is_root x.selected_role)) list
        ≡ length list * c + total (λ x. if_so w (is_root x.selected_role)) list
    go [] = omega arith
    go (x ∷ xs) = omega (arith, go xs)

-- Select is reached: it doesn't change the cost of a port
pub selecting : (V : Number) (n limit b : ℕ) (g : Going)
    → ((s : Settings) (ports : List PortState) (q : ℕ) (x : PortState) → V (chosen s ports q x) ≤ V x)
    → Held V n limit b g → Held V n limit (b + 1) (tries rules.Select 0 limit g)
selecting V n limit b g same h =
    tries-cases (Held V n limit (b + 1)) rules.Select 0 limit g
    (λ below on. (
      omega (arith, h.0),
      elim h.1 [
        | inl full ↦ absurd (omega arith)
        | inr s ↦ inr (
          s.0,
          at_selected (λ q x. V x ≤ s.0 q) (λ q x. V x ≤ s.0 q) g.tree.settings g.tree.ports
              (λ q x at k. omega (arith, same g.tree.settings g.tree.ports q x)) s.1,
          omega (arith, s.2),
        )
      ],
    ))
    (held-as V V n limit (b + 1) g h (λ x. omega arith) (omega arith))

-- A pass whose visits each cost no more than `more`, and m altogether. Before it a port may cost V.
module _ (bill : Bill) (V more : Number) (m b : ℕ) (g : Going) (ports : length g.tree.ports ≡ bill.n)
    (counts : (x : PortState) → bill.U x ≡ V x + more x)
    (times : timing_in (tries rules.Select 0 bill.limit g).tree ≡ bill.timing) (sum_is : bill.bound ≡ b + 1 + m)
    (reach : Held V bill.n bill.limit b g
    → Held V bill.n bill.limit (b + 1) (tries rules.Select 0 bill.limit g))
    (facts : IsFull bill.limit (tries rules.Select 0 bill.limit g)
    ⊎ AtAll (λ q. bill.R) (tries rules.Select 0 bill.limit g).tree.ports)
    (most : total more (tries rules.Select 0 bill.limit g).tree.ports ≤ m) where
  open bill use {R, U, V as W, timing, n, limit, bound}

  abbrev first : Going
  first = tries rules.Select 0 limit g

  counted : length first.tree.ports ≡ n
  counted = tries-cases (λ x. length x.tree.ports ≡ n) rules.Select 0 limit g
      (λ below on. length-ports_after rules.Select g.tree 0 ∙ ports) ports

  begin : Held V n limit (b + 1) first → Within bill 0 first
  begin h = (
    omega (arith, h.0),
    counted,
    elim facts [
      | inl full ↦ inl full
      | inr all ↦ elim h.1 [
        | inl full ↦ inl full
        | inr s ↦ (let spare = at_place more first.tree.ports in
            let whole = rw counted at (sum_total more first.tree.ports) in
            inr (
              λ q. s.0 q + spare q,
              λ q y at. (
                all q y at,
                (
                  λ less. absurd (omega arith),
                  λ from. (let e : spare q ≡ more y = rw at in omega (arith, s.1 q y at, counts y)),
                ),
              ),
              omega (arith, sum_both n s.0 spare, s.2),
              times,
            ))
      ]
    ],
  )

  -- at the end the values of the bridge are the same, unless the limit is reached
  abbrev IsDone : Claim
  IsDone x = Held W n limit bound x × (IsFull limit x ⊎ (timing_in x.tree ≡ timing))

  -- no port: nothing fires
  by_none : n ≤ 0 → Held V n limit b g → IsDone (pass main_order limit g)
  by_none none h = rw is (
    (
      omega (arith, h.0),
      elim h.1 [
        | inl full ↦ inl full
        | inr s ↦ inr (
          s.0,
          λ q y at. absurd (omega (arith, slice_get_within g.tree.ports q y at)),
          omega (arith, s.2),
        )
      ],
    ),
    inr (rw (tries-off rules.Select 0 limit g (nobody g.tree.ports is)) at times),
  )
    where
      is : length g.tree.ports ≡ 0
      is = omega arith

      nobody : (list : List PortState) → length list ≡ 0 → Off (test_at 0 (asks rules.Select g.tree 0) list)
      nobody [] e = refl
      nobody (x ∷ xs) e = absurd (omega arith)

  ends : (x : Going) → Within bill n x → IsDone x
  ends x h = elim h.2 [
    | inl full ↦ ((h.0, inl full), inl full)
    | inr s ↦ (
      (
        h.0,
        inr (
          s.0,
          λ q y at. (s.1 q y at).1.0 (omega (arith, slice_get_within x.tree.ports q y at, h.1)),
          s.2,
        ),
      ),
      inr s.3,
    )
  ]

  pub by-visits : ((p : ℕ) (x : Going) → p < n → Within bill p x → Within bill (suc p) (tries_all main_rest p limit x))
      → Held V n limit b g
      → Held W n limit bound (pass main_order limit g)
      × (IsFull limit (pass main_order limit g) ⊎ (timing_in (pass main_order limit g).tree ≡ timing))
  by-visits visits h = elim (cases_lt 0 n) [
    | inl some ↦ ends (pass main_order limit g)
        (pass-within bill main_rest visits g ports (omega arith) (begin (reach h)))
    | inr none ↦ by_none none h
  ]
