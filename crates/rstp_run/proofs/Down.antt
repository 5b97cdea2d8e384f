-- A port of a settled bridge that isn't the root port goes down: each port keeps its role, or has no role any more.
-- A settled bridge is calm, and after a port other than the root port went down its ports in the tree were there.
use Rattle.rstp_run.proofs.Basics.{clash, current_not_out, Facts, Off, On, Relation, Relations}
use Rattle.rstp_run.proofs.Candidates.{best_stays, Remains, root_stays}
use Rattle.rstp_run.proofs.Current.{choice_in, IsCurrent, path_in}
use Rattle.rstp_run.proofs.Each.{AtAll, AtEach, Each, each_as, each_back, each_change, each_map, each_same}
use Rattle.rstp_run.proofs.Each.{each_selected, each_then, Over}
use Rattle.rstp_run.proofs.Names.{[], after, and_off, ap, arith, asks, Bool, best_path, bridge_address, cases_Bool}
use Rattle.rstp_run.proofs.Names.{designated_times, designated_vector, direct, Firing, false, guard, InformationRule}
use Rattle.rstp_run.proofs.Names.{IsInTree, IsSettled, information_asks, information_does, inl, inr, is_better}
use Rattle.rstp_run.proofs.Names.{is_current, is_in_tree, is_less, is_out, is_own, is_received, is_root, is_select}
use Rattle.rstp_run.proofs.Names.{is_through, List, map, no, not, Path, PortState, ports_after, Role, Root, Rule, Run}
use Rattle.rstp_run.proofs.Names.{refl, role_by, root_along, Settings, Some, same_times, same_vector, selected_ports}
use Rattle.rstp_run.proofs.Names.{slice_get, subst, sym, Tree, timing_in, updates_by, with_choice, with_enabled}
use Rattle.rstp_run.proofs.Names.{without_slot, ℕ, ◌&&◌, ◌-◌, ◌==◌, ◌∙◌, ◌∷◌, ◌≡◌, ◌⊎◌}
use Rattle.rstp_run.proofs.Own.{own, own-each, spread_by, spread_of}
use Rattle.rstp_run.proofs.Quiet.{IsStill, Known, own_still, Still, spread_still, still_of}
use Rattle.rstp_run.proofs.Reached.{IsReached}
use Rattle.rstp_run.proofs.Resting.{has_selected, is_informed, is_off, no_message, still_fresh, updated}
use Rattle.rstp_run.proofs.Totals.{tested_at}
use Rattle.rstp_run.specs.Lasting.{LosesPort}
use Rattle.rstp_state.specs.Selection.{selected_root}
use Rattle.rstp_run.proofs.Names.events
use Rattle.rstp_run.proofs.Names.info_is
use Rattle.rstp_run.proofs.Names.information_rule
use Rattle.rstp_run.proofs.Names.receive_rule
use Rattle.rstp_run.proofs.Names.role
use Rattle.rstp_run.proofs.Names.rules

-- ---- truth values

down_receives_not : (b e m : Bool) → Off e → Off (b && e && not m)
down_receives_not b e m h = grind arith

down_is : (e o : Bool) → On (not e && not o) → Off e
down_is e o h = grind arith

through_off : (t e : Bool) → (On t → On e) → Off e → Off t
through_off t e h d = grind arith

-- the port keeps its selected role, or has none any more
abbrev Loses : Relation
Loses x y = (y.selected_role ≡ x.selected_role) ⊎ (y.selected_role ≡ role.Disabled)

loses_then : (x y z : PortState) → Loses x y → Loses y z → Loses x z
loses_then x y z h (inr k) = inr k
loses_then x y z h (inl k) = rw k h

module _ (settings : Settings) (root : Root) (path : Path) where
  abbrev role_in : ℕ → Known → Role
  role_in n k =
      role_by k.info_is (is_through path n) (is_less (designated_vector settings root k.identifier) k.port_priority)
      (bridge_address k.port_priority.bridge == bridge_address settings.identifier)

  abbrev update_in : ℕ → Known → Bool
  update_in n k =
      updates_by k.info_is (is_through path n) (is_less (designated_vector settings root k.identifier) k.port_priority)
      (same_vector k.port_priority (designated_vector settings root k.identifier)
      && same_times k.port_times (designated_times settings root))

  -- No message is pending that a rule would take, no information is too old, and no update is pending or would be. A
  -- port that is out is down, and the root port is up. Selection gives the port its selected role, or none.
  abbrev pub IsCalmOf : ℕ → Still → Type 0
  IsCalmOf n s =
      Off (s.received_bpdu && s.enabled && not s.received_message)
      × (On (is_current s.known.information) → Off s.received_message)
      × (On (is_out s.known.information) → Off s.received_message × Off s.enabled)
      × (On (is_through path n) → On s.enabled)
      × (On (is_received s.known.info_is) → Off (s.known.received_info_while == 0)) × Off s.known.update_info
      × Off (update_in n s.known) × ((role_in n s.known ≡ s.known.selected_role) ⊎ (s.known.info_is ≡ info_is.Disabled))

  abbrev pub IsCalm : Facts
  IsCalm n x = IsCalmOf n (still_of x)

  -- a calm port stays calm, is the candidate that it was or none, and keeps its role or has none
  abbrev Step : Relations
  Step n x y = IsCalm n x → IsCalm n y × Remains settings path n x y × Loses x y

  still_step : (n : ℕ) (x y : PortState) → IsStill x y → Step n x y
  still_step n x y h c = (
    subst (IsCalmOf n) (sym h) c,
    inl (ap (λ (s : Still). path_in settings n (choice_in s.known)) h, ap (λ (s : Still). s.known.port_times) h),
    inl (ap (λ (s : Still). s.known.selected_role) h),
  )

  -- no rule of information but Disabled is enabled at a calm port
  information_step : (rule : InformationRule) (n : ℕ) (x : PortState) → On (information_asks rule x)
      → Step n x (information_does rule x)
  information_step information_rule.Disabled n x g c =
      let down = down_is x.enabled _ g in
      let off = through_off (is_through path n) x.enabled c.3 down in (
        (
          down_receives_not x.received_bpdu x.enabled false down,
          λ i. refl,
          λ o. (refl, down),
          clash off,
          no,
          c.5,
          refl,
          inr refl,
        ),
        inr (refl, off),
        inl refl,
      )
  information_step rule n x g c = let no_rule : ⊥ = grind arith in absurd no_rule

  own_step : (rule : Rule) (s : Tree) (p : ℕ) (x : PortState) → Off (is_select rule) → On (asks rule s p x)
      → Step p x (own rule (timing_in s) x)
  own_step rules.Select s p x n g c = cc
  own_step (rules.Receive receive_rule.Discard) s p x n g c =
      ((refl, λ i. refl, λ o. (refl, (c.2 o).1), c.3, c.4, c.5, c.6, c.7), inl (refl, refl), inl refl)
  own_step (rules.Receive receive_rule.Receive) s p x n g c = clash c.0 g
  own_step (rules.Information rule) s p x n g c = information_step rule p x g c
  own_step rule s p x n g c = still_step p x (own rule (timing_in s) x) (own_still rule (timing_in s) x refl) c

  -- a port that isn't the root port goes down
  down_step : (n : ℕ) (x : PortState) → Off (is_through path n) → Step n x (with_enabled false x)
  down_step n x off c = (
    (
      down_receives_not x.received_bpdu false x.received_message refl,
      c.1,
      λ o. ((c.2 o).0, refl),
      clash off,
      c.4,
      c.5,
      c.6,
      c.7,
    ),
    inl (refl, refl),
    inl refl,
  )

  -- selection
  choice_step : (s : Settings) (r : Root) (through : Path) (n : ℕ) (x : PortState) → s ≡ settings → r ≡ root
      → through ≡ path → Step n x (with_choice s r (is_through through n) x)
  choice_step s r through n x e f g = rw (e, f, g) (λ c. (
    (c.0, c.1, c.2, c.3, c.4, c.6, c.6, inl refl),
    inl (refl, refl),
    elim c.7 [
      | inl same ↦ inl same
      | inr none ↦ inr (ap (λ i. role_by i (is_through path n) (is_better settings root x) (is_own settings x)) none)
    ],
  ))

  -- ---- a calm bridge

  pub record Calm (first : List PortState) (s : Tree) : Type 0 where
    pub set : s.settings ≡ settings
    pub rooted : s.root ≡ root
    pub best : best_path settings s.ports ≡ path
    pub along : root_along settings s.ports path ≡ root
    pub calm : AtAll IsCalm s.ports
    pub loses : Each Loses first s.ports

  module _ (first : List PortState) where
    calm_by : (s : Tree) (ports : List PortState) → AtEach Step s.ports ports → Calm first s
        → Calm first (record s { ports = ports })
    calm_by s ports h k =
        let now = each_as (λ q x y. IsCalm q y × Remains settings path q x y × Loses x y) s.ports ports h
        (λ q x y at _ step. step (k.calm q x at)) in
        let remains = each_as (Remains settings path) s.ports ports now (λ q x y _ _ r. r.1) in
        record {
          set = k.set;
          rooted = k.rooted;
          best = best_stays settings path s.ports ports k.best remains;
          along = root_stays settings path s.ports ports remains ∙ k.along;
          calm = λ q y at. (each_back _ s.ports ports now q y at).2.0;
          loses = each_then Loses Loses Loses loses_then first s.ports ports k.loses
              (each_as (λ q. Loses) s.ports ports now (λ q x y _ _ r. r.2));
        }

    calm_rule : (rule : Rule) (s : Tree) (p : ℕ) → On (guard rule s p) → Calm first s → Calm first (after rule s p)
    unfolding selected_root
    calm_rule rules.Select s p g k =
        let new : selected_root s.settings s.ports ≡ root = rw (k.set, k.best) k.along in
        let path_is : best_path s.settings s.ports ≡ path = rw k.set k.best in
        let there = calm_by s (selected_ports s.settings s.ports) (each_selected Step s.settings s.ports
        (λ q x at. choice_step s.settings (selected_root s.settings s.ports) (best_path s.settings s.ports) q x k.set
        new
        path_is)) k in
        record {
          set = k.set;
          rooted = new;
          best = there.best;
          along = there.along;
          calm = there.calm;
          loses = there.loses;
        }
    calm_rule rule s p g k =
        calm_by s (ports_after rule s p) (own-each Step rule s p refl g
        (λ q x apart. still_step q x (spread_by (spread_of rule) x) (spread_still (spread_of rule) x))
        (λ x at. own_step rule s p x refl)) k

    calm_run : (firings : List Firing) (s t : Tree) → Run firings s t → Calm first s → Calm first t
    calm_run [] s t run k = rw run k
    calm_run (f ∷ earlier) s t run k =
        rw run.2.1 (calm_rule f.rule run.0 f.place run.2.0 (calm_run earlier s run.0 run.1 k))

    -- a port that isn't the root port goes down, and rules fire
    calm_down : (firings : List Firing) (p : ℕ) (s t : Tree) → Off (is_through path (p - 1))
        → Run firings (direct (events.PortDown p) s) t → Calm first s → Calm first t
    calm_down firings p s t off run k =
        let empty = calm_by s (map without_slot s.ports)
        (each_map Step without_slot s.ports (λ q x at. still_step q x (without_slot x) refl)) k in
        calm_run firings (direct (events.PortDown p) s) t run
        (calm_by (record s { ports = map without_slot s.ports }) _
        (each_change Step (p - 1) (with_enabled false) _ _ (each_same (Over Step (p - 1) (with_enabled false))
        (map without_slot s.ports) (λ q x at. (λ apart. still_step q x x refl, λ e. down_step q x (rw e off))))) empty)

up_is : (e o : Bool) → Off (not e && not o) → Off o → On e
up_is e o h k = grind arith

-- ---- a settled bridge is calm

module _ (s : Tree) (reached : IsReached s) (settled : IsSettled s) (current : IsCurrent s) where
  calm_at : AtAll (IsCalm s.settings s.root (best_path s.settings s.ports)) s.ports
  calm_at p x at =
      let off = is_off s reached.kept settled p x at in
      let chosen = current.ports p x at in
      let fresh = (is_informed s reached settled p x at).4 in (
        off (rules.Receive receive_rule.Receive),
        no_message s reached settled p x at,
        λ o. (
          and_off (is_out x.information) x.received_message (off (rules.Information information_rule.Drop)) o,
          and_off (is_out x.information) x.enabled (off (rules.Information information_rule.Enabled)) o,
        ),
        λ t. up_is x.enabled _ (off (rules.Information information_rule.Disabled))
            (current_not_out x.information (fresh (chosen.4 t)).0),
        still_fresh s reached settled p x at,
        updated s reached settled p x at,
        sym chosen.1 ∙ updated s reached settled p x at,
        inl (sym chosen.0),
      )

  calm_now : Calm s.settings s.root (best_path s.settings s.ports) s.ports s
  calm_now = record {
    set = refl;
    rooted = refl;
    best = refl;
    along = sym current.root;
    calm = calm_at;
    loses = each_same (λ q. Loses) s.ports (λ q x at. inl refl);
  }

  -- the best path isn't through a port that isn't the root port
  not_through : (p : ℕ) (x : PortState) → slice_get s.ports p ≡ Some x → Off (is_root x.role)
      → Off (is_through (best_path s.settings s.ports) p)
  not_through p x at not_root = elim (cases_Bool (is_through (best_path s.settings s.ports) p)) [
    | inr off ↦ off
    | inl t ↦ (let has = has_selected s reached.kept settled p x at in
        let other : ⊥ = grind (arith, has, (current.ports p x at).0, (current.ports p x at).4 t, not_root, t) in
        absurd other)
  ]

-- ---- after the event

pub loses_port : (s t : Tree) → IsReached s → IsReached t → IsSettled s → IsSettled t → IsCurrent s → LosesPort s t
    → (q : ℕ) → IsInTree t q → IsInTree s q
loses_port s t reached_s reached_t settled rests current loses q tree =
    let (b, at_b, here) = tested_at is_in_tree t.ports (q - 1) tree in
    let off = not_through s reached_s settled current (loses.0 - 1) loses.4 loses.5.0 loses.5.1 in
    let calm = calm_down s.settings s.root (best_path s.settings s.ports) s.ports loses.6.firings loses.0 s t off
    loses.6.run (calm_now s reached_s settled current) in
    let (a, at_a, lost) = each_back (λ q. Loses) s.ports t.ports calm.loses (q - 1) b at_b in
    let now = has_selected t reached_t.kept rests (q - 1) b at_b in
    let before = has_selected s reached_s.kept settled (q - 1) a at_a in
    let kept : On (is_in_tree a) = elim lost [
      | inl same ↦ rw (before, ← same, ← now) here
      | inr gone ↦ no (rw (now, gone) at here)
    ] in
    rw at_a kept
