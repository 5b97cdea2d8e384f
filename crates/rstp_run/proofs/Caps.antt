-- The parts of a visit of a port: the machines before those of roles, and topology change.
-- The firings of a pass in which roles are taken, and of a pass in which each port has its role.
use Rattle.rstp_run.proofs.Basics.{Claim, Fact, if-is, informed, Number, Off, On}
use Rattle.rstp_run.proofs.Costs.{Bill, many, one, Paid, paid-as, visit}
use Rattle.rstp_run.proofs.Dues.{discard-keeps, late, migration-keeps, role-falls, state-falls}
use Rattle.rstp_run.proofs.Each.{AtAll}
use Rattle.rstp_run.proofs.Fixed.{fits, fixed-fits, fixed-goes, IsFixed, spread-fixed}
use Rattle.rstp_run.proofs.Inputs.{asked, asked-is, change_of, discard-falls, edge-falls, few-turns, informs-fall}
use Rattle.rstp_run.proofs.Inputs.{inputs, migration-falls, not_edge-falls, owed, receive-falls, turned, turned-is}
use Rattle.rstp_run.proofs.Inputs.{turns, unrested}
use Rattle.rstp_run.proofs.Kept.{OneRoot}
use Rattle.rstp_run.proofs.Names.{[], ap, arith, asks, Bool, drop, false, Going, InformationRule, information_asks}
use Rattle.rstp_run.proofs.Names.{information_does, inl, inr, is_root, is_select, List, length, MigrationRule}
use Rattle.rstp_run.proofs.Names.{main_order, migration_asks, migration_does, no, PortState, pass, Rule, refl}
use Rattle.rstp_run.proofs.Names.{StateRule, state_does, subst, suc, sym, Timing, TopologyRule, Tree, take, timing_in}
use Rattle.rstp_run.proofs.Names.{topology_asks, tries, tries_all, true, ℕ, ◌&&◌, ◌*◌, ◌+◌, ◌<◌, ◌∙◌, ◌∷◌, ◌≡◌, ◌≤◌}
use Rattle.rstp_run.proofs.Names.{◌⊎◌}
use Rattle.rstp_run.proofs.Own.{Nothing, own, own_role, own_topology, Spread, Stable, spread_by, spread_of, Tells}
use Rattle.rstp_run.proofs.Own.{topology_unturned, unturned}
use Rattle.rstp_run.proofs.Paces.{Cost, gait_of, role-waits}
use Rattle.rstp_run.proofs.Places.{main_rest}
use Rattle.rstp_run.proofs.Quiet.{is_update, own_stays, Still, spread_still}
use Rattle.rstp_run.proofs.Shares.{by-visits, Held, held-as, selecting, total-spare}
use Rattle.rstp_run.proofs.Spans.{before-few, before_roles, Fits, numbered, role-part}
use Rattle.rstp_run.proofs.Steady.{informs-taken, steady-informs}
use Rattle.rstp_run.proofs.Steps.{IsFull, length-ports_after}
use Rattle.rstp_run.proofs.Totals.{if_so, if_so-off, total}
use Rattle.rstp_run.proofs.Visits.{IsTaken}
use Rattle.rstp_run.proofs.Whole.{tries-cases}
use Rattle.rstp_run.proofs.Names.detection
use Rattle.rstp_run.proofs.Names.detection_rule
use Rattle.rstp_run.proofs.Names.info
use Rattle.rstp_run.proofs.Names.information_rule
use Rattle.rstp_run.proofs.Names.migration_rule
use Rattle.rstp_run.proofs.Names.receive_rule
use Rattle.rstp_run.proofs.Names.receiving
use Rattle.rstp_run.proofs.Names.rules
use Rattle.rstp_run.proofs.Names.state_rule
use Rattle.rstp_run.proofs.Visits as levels

abbrev is_turn : Rule → Bool
is_turn (rules.Topology rule) = true
is_turn _ = false

turned_less : (rule : TopologyRule) (rest : List Rule) (timing : Timing) (x : PortState) → On (topology_asks rule x)
    → suc (turns rest (change_of (own_topology rule timing x))) ≤ turns (rules.Topology rule ∷ rest) (change_of x)
turned_less rule rest timing x on =
    let is = sym (asked-is rule x) ∙ on in
    let e : turns (rules.Topology rule ∷ rest) (change_of x) ≡ suc (turns rest (turned rule (change_of x))) =
    rw is in
    omega (arith, ap (turns rest) (turned-is rule timing x))

unasked : (rule : TopologyRule) (rest : List Rule) (x : PortState) → Off (topology_asks rule x)
    → turns rest (change_of x) ≤ turns (rules.Topology rule ∷ rest) (change_of x)
unasked rule rest x off =
    let is = sym (asked-is rule x) ∙ off in
    let e : turns (rules.Topology rule ∷ rest) (change_of x) ≡ turns rest (change_of x) = rw is in
    omega arith

-- the cost of the rules of information besides: Update costs u
abbrev for_update : ℕ → List Rule → ℕ
for_update u [] = 0
for_update u (rules.Information information_rule.Update ∷ rest) = u + for_update u rest
for_update u (_ ∷ rest) = for_update u rest

for_more : (u : ℕ) (rule : Rule) (rest : List Rule) → for_update u rest ≤ for_update u (rule ∷ rest)
for_more u (rules.Information information_rule.Update) rest = omega arith
for_more u _ rest = omega arith

-- migration doesn't bear on Discard
still_unrested : (rule : MigrationRule) (x : PortState) → unrested (migration_does rule x) ≡ unrested x
still_unrested migration_rule.Recheck x = refl
still_unrested _ x = refl

-- the parts of a visit
abbrev before_edge : List Rule
before_edge = take 6 (drop 1 main_rest)

abbrev after_edge : List Rule
after_edge = take 11 (drop 8 main_rest)

abbrev turn_list : List Rule
turn_list = drop 43 main_rest

abbrev comes_before : Rule → Bool
comes_before (rules.Receive receive_rule.Receive) = true
comes_before (rules.Migration rule) = true
comes_before _ = false

abbrev comes_after : Rule → Bool
comes_after (rules.Detection detection_rule.NotEdge) = true
comes_after (rules.Information rule) = true
comes_after _ = false

abbrev is_role : Rule → Bool
is_role (rules.Role rule) = true
is_role (rules.State rule) = true
is_role _ = false

module _ (bill : Bill) (p : ℕ) (within : p < bill.n) where
  open bill use {R, timing, limit}

  abbrev At : Number → Claim
  At c = Paid bill c p

  -- each rule of this sort lowers the cost of the rules from it on
  abbrev Fire : (List Rule → Number) → (Rule → Bool) → Type 0
  Fire cost sort =
      (rule : Rule) (rest : List Rule) (s : Tree) (x : PortState) → On (sort rule) → timing_in s ≡ timing
      → On (asks rule s p x) → R x → cost rest (own rule (timing_in s) x) < cost (rule ∷ rest) x

  -- the rules of topology change cost no more than the pending changes, and 2
  module _ (left_over : Number) (keeps : (x : PortState) → left_over (unturned x) ≡ left_over x) where
    abbrev during : List Rule → Number
    during list x = turns list (change_of x) + (inputs x + left_over x)

    turn_fires : Fire during is_turn
    turn_fires (rules.Topology rule) rest s x sort same on r =
        let y : PortState = own_topology rule (timing_in s) x in
        omega (
          arith,
          turned_less rule rest (timing_in s) x on,
          ap inputs (topology_unturned rule (timing_in s) x),
          ap left_over (topology_unturned rule (timing_in s) x),
          keeps x,
          keeps y,
        )
    turn_fires _ rest s x sort same on r = no sort

    turn_rests : (rule : Rule) (rest : List Rule) (s : Tree) (x : PortState) → On (is_turn rule) → Off (asks rule s p x)
        → R x → during rest x ≤ during (rule ∷ rest) x
    turn_rests (rules.Topology rule) rest s x sort off r = omega (arith, unasked rule rest x off)
    turn_rests _ rest s x sort off r = no sort

    turn-part : (g : Going) → At (λ x. owed x + left_over x + 2) g
        → At (λ x. owed x + left_over x) (tries_all turn_list p limit g)
    turn-part g h =
        paid-as bill (during []) (λ x. owed x + left_over x) p (tries_all turn_list p limit g) (λ x r. omega arith)
        (many bill p within during is_turn refl turn_fires turn_rests turn_list refl g
        (paid-as bill (λ x. owed x + left_over x + 2) (during turn_list) p g
        (λ x r. omega (arith, few-turns (change_of x))) h))

  -- The machines before those of roles. K is the cost of the port besides, and Update costs u.
  module _ (u : ℕ) (K : Number) (discards : (x : PortState) → K (receiving.discard_effect x) ≤ K x)
      (receives : (x : PortState) → R x → On (receiving.receive_guard x) → K (receiving.receive_effect x) ≤ K x)
      (migrates : (rule : MigrationRule) (x : PortState) → On (migration_asks rule x) → K (migration_does rule x) ≤ K x)
      (detects : (x : PortState) → (K (detection.edge_effect x) ≤ K x) × (K (detection.not_edge_effect x) ≤ K x))
      (informs : (rule : InformationRule) (x : PortState) → R x → Off (is_update rule) → On (information_asks rule x)
      → K (information_does rule x) ≤ K x)
      (update : (x : PortState) → R x → On (info.update_guard x)
      → owed (info.update_effect x) + K (info.update_effect x) < owed x + K x + u) where
    abbrev whole : Number
    whole x = owed x + K x + u

    abbrev restless : Number
    restless x = owed x + K x + u + unrested x

    abbrev cost_before : List Rule → Number
    cost_before list x = restless x

    fires_before : Fire cost_before comes_before
    fires_before (rules.Receive receive_rule.Receive) rest s x sort same on r =
        omega (arith, receive-falls x on, receives x r on)
    fires_before (rules.Migration rule) rest s x sort same on r =
        omega (arith, migration-falls rule x on, migrates rule x on, still_unrested rule x)
    fires_before _ rest s x sort same on r = no sort

    abbrev cost_after : List Rule → Number
    cost_after list x = owed x + K x + for_update u list

    fires_after : Fire cost_after comes_after
    fires_after (rules.Detection detection_rule.NotEdge) rest s x sort same on r =
        omega (arith, not_edge-falls x on, (detects x).1)
    fires_after (rules.Information information_rule.Update) rest s x sort same on r = omega (arith, update x r on)
    fires_after (rules.Information rule) rest s x sort same on r =
        omega (arith, informs-fall rule x refl on, informs rule x r refl on, for_more u (rules.Information rule) rest)
    fires_after _ rest s x sort same on r = no sort

    inputs-part : (g : Going) → At whole g → At (λ x. owed x + K x) (tries_all (take 19 main_rest) p limit g)
    inputs-part g h =
        let g1 : Going = tries (rules.Receive receive_rule.Discard) p limit g in
        let g2 : Going = tries_all before_edge p limit g1 in
        let g3 : Going = tries (rules.Detection detection_rule.Edge) p limit g2 in
        let h1 = one bill p within (rules.Receive receive_rule.Discard) refl whole restless
        (λ s x same on r. omega (arith, discard-falls x on, discards x))
        (λ s x off r. omega (arith, if_so-off 3 (receiving.discard_guard x) off)) g h in
        let h2 = many bill p within cost_before comes_before refl fires_before (λ rule rest s x sort off r. omega arith)
        before_edge refl g1 h1 in
        let h3 = one bill p within (rules.Detection detection_rule.Edge) refl restless whole
        (λ s x same on r. omega (arith, edge-falls x on, (detects x).0)) (λ s x off r. omega arith) g2 h2 in
        paid-as bill (cost_after []) (λ x. owed x + K x) p (tries_all after_edge p limit g3) (λ x r. omega arith)
        (many bill p within cost_after comes_after refl fires_after
        (λ rule rest s x sort off r. omega (arith, for_more u rule rest)) after_edge refl g3
        (paid-as bill whole (cost_after after_edge) p g3 (λ x r. omega arith) h3))

informed-role : (rule : InformationRule) (x : PortState) → (information_does rule x).selected_role ≡ x.selected_role
informed-role information_rule.Superior x =
    informed (λ y. (info.handled (info.with_info_time y)).selected_role ≡ x.selected_role) x.message
    (info.with_superior_flags (info.with_change_flags (info.with_proposal x))) (λ vector times. refl)
informed-role information_rule.Inferior x =
    if-is (λ y. y.selected_role ≡ x.selected_role) (info.rst_has 0x10 x.message) _ _ refl refl
informed-role information_rule.NotDesignated x =
    if-is (λ y. (info.handled (info.with_change_flags y)).selected_role ≡ x.selected_role)
    (x.point_to_point && info.message_has 0x40 x.message) _ _ refl refl
informed-role _ x = refl

-- the rules of roles and states
abbrev role_list : List Rule
role_list = take 24 (drop 20 main_order)

-- every port keeps this number, whatever other ports request
owed_spread : (k : Spread) (x : PortState) → owed (spread_by k x) ≡ owed x
owed_spread Nothing x = refl
owed_spread k x = refl

-- the rules of a visit one after another
by_lists : (P : Claim) (p limit : ℕ) (x : Going)
    → P (tries_all turn_list p limit (tries_all role_list p limit (tries_all (take 19 main_rest) p limit x)))
    → P (tries_all main_rest p limit x)
by_lists P p limit x h = h

module _ (R : Fact) (spreads : (k : Spread) (x : PortState) → R x → R (spread_by k x)) (goes : Stable R) (u : ℕ)
    (update : (x : PortState) → R x → On (info.update_guard x) → owed (info.update_effect x) < owed x + u)
    (end : Cost) (base most : ℕ) (ok : Fits end base most) (left_over : Number)
    (is : (x : PortState) → end (gait_of x) ≡ left_over x)
    (calm : (k : Spread) (x : PortState) → left_over (spread_by k x) ≡ left_over x)
    (keeps : (x : PortState) → left_over (unturned x) ≡ left_over x) where
  abbrev besides : Number
  besides x = most + 5 + if_so 4 (is_root x.selected_role)

  abbrev more : Number
  more x = u + most + 5 + if_so 4 (is_root x.selected_role)

  abbrev before : Number
  before x = owed x + more x

  abbrev after : Number
  after x = owed x + left_over x

  pub fitting : (rule : Rule) (s : Tree) (p : ℕ) (x : PortState) → Off (is_select rule) → On (asks rule s p x) → R x
      → On true × R (own rule (timing_in s) x)
  fitting rule s p x other on r = (refl, goes rule s p x other on r)

  pub spreading : (k : Spread) (x : PortState) → On true → R x
      → R (spread_by k x) × (before (spread_by k x) ≤ before x) × (after (spread_by k x) ≤ after x)
  spreading k x fit r =
      let a = owed_spread k x in
      let e = ap (λ (y : Still). if_so 4 (is_root y.known.selected_role)) (spread_still k x) in
      (spreads k x r, omega (arith, a, e), omega (arith, a, calm k x))

  module _ (n limit b : ℕ) (g : Going) (ports : length g.tree.ports ≡ n)
      (facts : IsFull limit (tries rules.Select 0 limit g) ⊎ AtAll (λ q. R) (tries rules.Select 0 limit g).tree.ports)
      (roots : OneRoot (tries rules.Select 0 limit g).tree.ports) where
    abbrev bill : Bill
    bill = record {
      R = R;
      U = before;
      V = after;
      timing = timing_in (tries rules.Select 0 limit g).tree;
      n = n;
      limit = limit;
      bound = b + 1 + (n * (u + most + 5) + 4);
      fit = λ k. true;
      spreads = spreading;
      goes = fitting;
    }

    altogether : total more (tries rules.Select 0 limit g).tree.ports ≤ n * (u + most + 5) + 4
    altogether =
        let same = tries-cases (λ x. length x.tree.ports ≡ n) rules.Select 0 limit g
        (λ below on. length-ports_after rules.Select g.tree 0 ∙ ports) ports in
        omega (arith, rw same at (total-spare (u + most + 5) 4 (tries rules.Select 0 limit g).tree.ports roots))

    walk : (p : ℕ) → p < n → (x : Going) → Paid bill (λ y. owed y + besides y + u) p x
        → Paid bill after p (tries_all main_rest p limit x)
    walk p within x h =
        let x1 : Going = tries_all (take 19 main_rest) p limit x in
        let x2 : Going = tries_all role_list p limit x1 in
        let h1 = inputs-part bill p within u besides (λ y. omega arith) (λ y r on. omega arith) migrated
        (λ y. (omega arith, omega arith))
        (λ rule y r other on. omega (arith, ap (λ r. if_so 4 (is_root r)) (informed-role rule y)))
        (λ y r on. omega (arith, update y r on)) x h in
        let h2 = role-part bill p within end base most ok x1 (paid-as bill (λ y. owed y + besides y)
        (λ y. (owed y + numbered (before_roles base most) y) + 2) p x1
        (λ y r. omega (arith, before-few end base most ok y.selected_role (gait_of y))) h1) in
        by_lists (Paid bill after p) p limit x (turn-part bill p within left_over keeps x2
        (paid-as bill (λ y. (owed y + end (gait_of y)) + 2) (λ y. owed y + left_over y + 2) p x2
        (λ y r. omega (arith, is y)) h2))
      where
        migrated : (rule : MigrationRule) (y : PortState) → On (migration_asks rule y)
            → besides (migration_does rule y) ≤ besides y
        migrated migration_rule.Recheck y on = omega arith
        migrated rule y on = omega arith

    pub early-pass : Held owed n limit b g → Held after n limit bill.bound (pass main_order limit g)
    early-pass h =
        (by-visits bill owed more (n * (u + most + 5) + 4) b g ports (λ x. refl) refl refl
        (selecting owed n limit b g (λ s ports q x. omega arith)) facts altogether
        (λ p x within. visit bill (λ y. owed y + besides y + u) after main_rest p x (walk p within x)
        (λ y r. omega arith) (λ y r. omega arith)) h).0

-- nothing is to be taken over
abbrev pub IsFresh : Fact
IsFresh x = Off x.update_info

informed_fresh : (rule : InformationRule) (x : PortState) → IsFresh x → IsFresh (information_does rule x)
informed_fresh information_rule.Update x r = refl
informed_fresh information_rule.Superior x r =
    informed (λ y. IsFresh (info.handled (info.with_info_time y))) x.message
    (info.with_superior_flags (info.with_change_flags (info.with_proposal x))) (λ vector times. r)
informed_fresh information_rule.Inferior x r = if-is IsFresh (info.rst_has 0x10 x.message) _ _ r r
informed_fresh information_rule.NotDesignated x r =
    if-is (λ y. IsFresh (info.handled (info.with_change_flags y)))
    (x.point_to_point && info.message_has 0x40 x.message) _ _ r r
informed_fresh rule x r = r

pub fresh-goes : Stable IsFresh
fresh-goes rules.Select s p x other g r = no (sym other)
fresh-goes (rules.Receive receive_rule.Discard) s p x other g r = r
fresh-goes (rules.Receive receive_rule.Receive) s p x other g r = r
fresh-goes (rules.Information rule) s p x other g r = informed_fresh rule x r
fresh-goes rule s p x other g r = own_stays (λ y. Off y.known.update_info) rule (timing_in s) x refl r

pub taken-goes : Stable IsTaken
taken-goes rules.Select s p x other g r = no (sym other)
taken-goes (rules.Receive receive_rule.Discard) s p x other g r = levels.discard-taken x r
taken-goes (rules.Receive receive_rule.Receive) s p x other g r = absurd (levels.receive-off x r g)
taken-goes (rules.Information rule) s p x other g r =
    informs-taken (λ i. IsTaken (information_does i x)) rule x r (λ on. levels.update-taken x on r)
    (λ on. levels.aged-taken x on r) g
taken-goes rule s p x other g r = own_stays levels.IsTakenOf rule (timing_in s) x refl r

-- ---- a pass in which each port has its role

owed_state : (rule : StateRule) (x : PortState) → owed (state_does rule x) ≡ owed x
owed_state state_rule.ToLearning x = refl
owed_state rule x = refl

-- the cost of a port that has taken its role, at most
abbrev pub left_due : Timing → Number
left_due timing x = owed x + late timing x

module _ (n limit b : ℕ) (g : Going) (ports : length g.tree.ports ≡ n) (rests : tries rules.Select 0 limit g ≡ g)
    (facts : IsFull limit (tries rules.Select 0 limit g)
    ⊎ AtAll (λ q. IsFixed) (tries rules.Select 0 limit g).tree.ports) where
  abbrev time : Timing
  time = timing_in (tries rules.Select 0 limit g).tree

  abbrev two : Number
  two x = 2

  abbrev first : Number
  first x = left_due time x + 2

  same_ports : (list : List PortState) → total two list ≡ 2 * length list
  same_ports [] = refl
  same_ports (x ∷ xs) = omega (arith, same_ports xs)

  twos : total two (tries rules.Select 0 limit g).tree.ports ≤ 2 * n
  twos = omega (
    arith,
    same_ports (tries rules.Select 0 limit g).tree.ports,
    ap (λ (z : Going). length z.tree.ports) rests,
    ports,
  )

  reached : Held (left_due time) n limit b g → Held (left_due time) n limit (b + 1) (tries rules.Select 0 limit g)
  reached h =
      subst (Held (left_due time) n limit (b + 1)) (sym rests)
      (held-as (left_due time) (left_due time) n limit (b + 1) g h (λ x. omega arith) (omega arith))

  fixed_goes : (rule : Rule) (s : Tree) (p : ℕ) (x : PortState) → Off (is_select rule) → On (asks rule s p x)
      → IsFixed x → On (fits (spread_of rule)) × IsFixed (own rule (timing_in s) x)
  fixed_goes rule s p x other on r = (fixed-fits rule s p x on r, fixed-goes rule s p x other on r)

  fixed_spreads : (k : Spread) (x : PortState) → On (fits k) → IsFixed x
      → IsFixed (spread_by k x) × (first (spread_by k x) ≤ first x) × (left_due time (spread_by k x) ≤ left_due time x)
  fixed_spreads Nothing x fit r = (r, omega arith, omega arith)
  fixed_spreads Tells x fit r = (spread-fixed Tells x r, omega arith, omega arith)
  fixed_spreads k x fit r = no fit

  abbrev late_bill : Bill
  late_bill = record {
    R = IsFixed;
    U = first;
    V = left_due time;
    timing = time;
    n = n;
    limit = limit;
    bound = b + 1 + 2 * n;
    fit = fits;
    spreads = fixed_spreads;
    goes = fixed_goes;
  }

  abbrev more_late : Number
  more_late x = late time x + 2

  module _ (p : ℕ) (within : p < n) where
    abbrev late_cost : List Rule → Number
    late_cost list x = first x

    late_fires : (rule : Rule) (rest : List Rule) (s : Tree) (x : PortState) → On (is_role rule) → timing_in s ≡ time
        → On (asks rule s p x) → IsFixed x → late_cost rest (own rule (timing_in s) x) < late_cost (rule ∷ rest) x
    late_fires (rules.Role rule) rest s x sort same on r =
        let P : Timing → Type 0 =
        λ t. inputs (own_role rule (timing_in s) x) + late t (own_role rule (timing_in s) x) < inputs x + late t x in
        omega (arith, subst P same (role-falls s p x rule r on), role-waits rule s p x on)
    late_fires (rules.State rule) rest s x sort same on r =
        omega (arith, state-falls time rule x on, owed_state rule x)
    late_fires rule rest s x sort same on r = no sort

    late_walk : (x : Going) → Paid late_bill (λ y. owed y + more_late y + 0) p x
        → Paid late_bill (left_due time) p (tries_all main_rest p limit x)
    late_walk x h =
        let x1 : Going = tries_all (take 19 main_rest) p limit x in
        let x2 : Going = tries_all role_list p limit x1 in
        let h1 = inputs-part late_bill p within 0 more_late (λ y. omega (arith, discard-keeps time y))
        (λ y r on. absurd (levels.receive-off y r.0.0.0.0 on))
        (λ rule y on. omega (arith, migration-keeps time y rule on))
        (λ y. (omega arith, omega arith)) (λ rule y r other on. absurd (steady-informs rule y r.0 on))
        (λ y r on. absurd (steady-informs information_rule.Update y r.0 on)) x h in
        let h2 = many late_bill p within late_cost is_role refl late_fires (λ rule rest s y sort off r. omega arith)
        role_list refl x1
        (paid-as late_bill (λ y. owed y + more_late y) (late_cost role_list) p x1 (λ y r. omega arith) h1) in
        by_lists (Paid late_bill (left_due time) p) p limit x (turn-part late_bill p within (late time) (λ y. refl) x2
        (paid-as late_bill (late_cost []) (λ y. owed y + late time y + 2) p x2 (λ y r. omega arith) h2))

  pub late-pass : Held (left_due (timing_in g.tree)) n limit b g
      → Held (left_due (timing_in (pass main_order limit g).tree)) n limit (b + 1 + 2 * n) (pass main_order limit g)
  late-pass h =
      let is = ap (λ (z : Going). timing_in z.tree) (sym rests) in
      let k = by-visits late_bill (left_due time) two (2 * n) b g ports (λ x. refl) refl refl reached facts twos
      (λ p x within. visit late_bill (λ y. owed y + more_late y + 0) (left_due time) main_rest p x
      (late_walk p within x)
      (λ y r. omega arith) (λ y r. omega arith))
      (subst (λ (t : Timing). Held (left_due t) n limit b g) is h) in
      elim k.1 [
        | inl full ↦ (k.0.0, inl full)
        | inr same ↦
            subst (λ (t : Timing). Held (left_due t) n limit (b + 1 + 2 * n) (pass main_order limit g)) (sym same) k.0
      ]
