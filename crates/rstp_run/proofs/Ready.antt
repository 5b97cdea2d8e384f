-- A port whose information machine is Aged has yet to take over its designated vector. So in a settled bridge the
-- machine of each port that is up is Current, and no message waits. And the facts of each port right after an event.
-- The share of each port right after an event of a settled bridge.
use Rattle.rstp_run.proofs.Basics.{clash, discard_off as none_discarded, down_off as out_of_use, Effect, Fact, if-is}
use Rattle.rstp_run.proofs.Basics.{informed, Off, On, parts, Relation}
use Rattle.rstp_run.proofs.Costs.{put, put-apart, put-there, sum, sum-below, sum-put}
use Rattle.rstp_run.proofs.Each.{AtAll, at_change, at_each, at_map, at_selected}
use Rattle.rstp_run.proofs.Inputs.{inputs-few, inputs-most, mail, owed, turn, wait}
use Rattle.rstp_run.proofs.Kept.{at_start, is_down}
use Rattle.rstp_run.proofs.Measure.{has_to_turn}
use Rattle.rstp_run.proofs.Names.{[], and_off, arith, Bool, Comes, cases_Bool, cases_lt, change_at, direct, Event}
use Rattle.rstp_run.proofs.Names.{eqb-false, eqb-true, false, InfoIs, Information, InformationRule, IsSettled}
use Rattle.rstp_run.proofs.Names.{information_asks, information_does, inl, inr, is_active, is_current, is_designated}
use Rattle.rstp_run.proofs.Names.{is_disabled, is_inactive, is_learning, is_out, is_received, List, map, no, not}
use Rattle.rstp_run.proofs.Names.{PortSettings, PortState, place_of_port, ports_at, refl, role_by, Settings, Some}
use Rattle.rstp_run.proofs.Names.{slice_get, start, subst, suc, sym, Topology, TopologyRule, Tree, topology_asks, true}
use Rattle.rstp_run.proofs.Names.{updates_by, with_enabled, with_message, with_migration_check, with_second}
use Rattle.rstp_run.proofs.Names.{without_slot, zero, ℕ, ◌&&◌, ◌*◌, ◌+◌, ◌==◌, ◌||◌, ◌≡◌, ◌≤◌}
use Rattle.rstp_run.proofs.Quiet.{answer_quiet, IsQuiet, Known, known_of}
use Rattle.rstp_run.proofs.Reached.{IsReached}
use Rattle.rstp_run.proofs.Resting.{is_informed, is_off, is_selected, no_message, unasked, updated}
use Rattle.rstp_run.proofs.Shares.{Held}
use Rattle.rstp_run.proofs.Totals.{if_so, if_so-off}
use Rattle.rstp_run.proofs.Visits.{IsFirst}
use Rattle.rstp_run.proofs.Walk.{comes_holds, Walks}
use Rattle.rstp_run.proofs.Names.change
use Rattle.rstp_run.proofs.Names.events
use Rattle.rstp_run.proofs.Names.info
use Rattle.rstp_run.proofs.Names.info_is
use Rattle.rstp_run.proofs.Names.information
use Rattle.rstp_run.proofs.Names.information_rule
use Rattle.rstp_run.proofs.Names.receive_rule
use Rattle.rstp_run.proofs.Names.rules
use Rattle.rstp_run.proofs.Names.topology_rule

-- ---- the invariant

abbrev is_old : Information → Bool
is_old information.Aged = true
is_old _ = false

abbrev is_aged : InfoIs → Bool
is_aged info_is.Aged = true
is_aged _ = false

-- if the machine is Aged, so is the information, and unless the role isn't selected, there is something to take over
abbrev IsDueOf : Known → Type 0
IsDueOf known = On (is_old known.information) → On (is_aged known.info_is) × (On known.selected → On known.update_info)

-- a port with received information has the selected role Root, Alternate or Backup, or has something to take over
abbrev IsToldOf : Known → Type 0
IsToldOf known =
    On known.selected → Off known.update_info → On (is_received known.info_is)
    → Off (is_designated known.selected_role || is_disabled known.selected_role)

-- a port that has no information has the selected role Disabled
abbrev IsOffOf : Known → Type 0
IsOffOf known = On (is_down known.info_is) → On known.selected → On (is_disabled known.selected_role)

abbrev pub IsReadyOf : Known → Type 0
IsReadyOf known = IsDueOf known × IsToldOf known × IsOffOf known

abbrev IsReady : Fact
IsReady port = IsReadyOf (known_of port)

abbrev pub Readies : Relation
Readies port next = IsReady port → IsReady next

quiet_readies : (x y : PortState) → IsQuiet x y → Readies x y
quiet_readies x y h = subst IsReadyOf (sym h)

current_not_old : (i : Information) → On (is_current i) → On (is_old i) → ⊥
current_not_old i h k = grind arith

informed_readies : (rule : InformationRule) (x : PortState) → On (information_asks rule x)
    → Readies x (information_does rule x)
informed_readies information_rule.Disabled x g h = (no, no, λ d. no)
informed_readies information_rule.Drop x g h = h
informed_readies information_rule.Update x g h = (no, λ s u. no, no)
informed_readies information_rule.Superior x g h =
    let current = (parts (parts (parts g).0).0).0 in
    informed (λ y. IsReady (info.handled (info.with_info_time y))) x.message
    (info.with_superior_flags (info.with_change_flags (info.with_proposal x)))
    (λ vector times. (λ o. absurd (current_not_old x.information current o), no, λ d. no))
informed_readies information_rule.Repeated x g h = h
informed_readies information_rule.Inferior x g h =
    quiet_readies x (information_does information_rule.Inferior x) (answer_quiet information_rule.Inferior x refl) h
informed_readies information_rule.NotDesignated x g h =
    quiet_readies x (information_does information_rule.NotDesignated x)
    (answer_quiet information_rule.NotDesignated x refl) h
informed_readies information_rule.Other x g h = h
informed_readies _ x g h = (λ o. (refl, no), no, no)

aged_updates : (i : InfoIs) (r b s : Bool) → On (is_aged i) → On (updates_by i r b s)
aged_updates i r b s h = grind arith

module _ (i : InfoIs) (t b o : Bool) where
  told_role : (s : Bool) → Off (updates_by i t b s) → On (is_received i)
      → Off (is_designated (role_by i t b o) || is_disabled (role_by i t b o))
  told_role s u r = grind arith

  down_role : On (is_down i) → On (is_disabled (role_by i t b o))
  down_role d = grind arith

abbrev pub AreReady : Tree → Type 0
AreReady s = AtAll (λ q. IsReady) s.ports

pub ready_walks : Walks AreReady (λ s. Readies)
ready_walks = record {
  moves = record {
    by = λ s. at_each (λ q. IsReady) (λ q. IsReady) s.ports;
    quiet = λ s. quiet_readies;
    informed = λ s. informed_readies;
    second = λ s x h. h;
  };
  chosen = λ s p. at_selected (λ q. IsReady) (λ q. IsReady) s.settings s.ports (λ q x at h. (
    λ o. let aged = (h.0 o).0 in (aged, λ k. aged_updates x.info_is _ _ _ aged),
    λ k. told_role x.info_is _ _ _ _,
    λ d k. down_role x.info_is _ _ _ d,
  ));
}

pub comes-ready : (history : List Event) (settings : Settings) (ports : List PortSettings) (s : Tree)
    → Comes history (start settings ports) s → AreReady s
comes-ready history settings ports s comes =
    comes_holds AreReady (λ s. Readies) ready_walks history (start settings ports) s comes
    (at_start (λ q. IsReady) 1 settings ports (λ q x m. (no, λ s u. no, λ d s. refl)))

-- a port of a settled bridge
abbrev IsAtRest : Fact
IsAtRest x =
    On x.selected × Off x.reselect × Off x.received_message × Off x.update_info
    × (On (is_received x.info_is) → On (is_current x.information)) × Off x.received_bpdu
    × (On x.enabled → On (is_current x.information))

in_use : (i : Information) (e : Bool) → (On (is_old i) → ⊥) → Off (is_out i && e) → On e → On (is_current i)
in_use i e old off h = grind arith

none_received : (b e m : Bool) → Off (b && e && not m) → On e → Off m → Off b
none_received b e m off h k = grind arith

module _ (s : Tree) (reached : IsReached s) (ready : AreReady s) (settled : IsSettled s) (p : ℕ) (x : PortState)
    (at : slice_get s.ports p ≡ Some x) where
  selected : On x.selected
  selected = is_selected s reached.kept settled p x at

  off : (rule : InformationRule) → Off (information_asks rule x)
  off rule = is_off s reached.kept settled p x at (rules.Information rule)

  old : On (is_old x.information) → ⊥
  old o = clash (updated s reached settled p x at) (((ready p x at).0 o).1 selected)

  up : On x.enabled → On (is_current x.information)
  up e = in_use x.information x.enabled old (off information_rule.Enabled) e

  message_by : (b : Bool) → x.enabled ≡ b → Off x.received_message
  message_by true e = no_message s reached settled p x at (up e)
  message_by false e =
      and_off (is_out x.information) x.received_message (off information_rule.Drop)
      (out_of_use x.enabled (is_out x.information) (off information_rule.Disabled) e)

  bpdu_by : (b : Bool) → x.enabled ≡ b → Off x.received_bpdu
  bpdu_by true e =
      none_received x.received_bpdu x.enabled x.received_message
      (is_off s reached.kept settled p x at (rules.Receive receive_rule.Receive)) e (message_by x.enabled refl)
  bpdu_by false e =
      none_discarded x.received_bpdu (not (x.edge_delay_while == 3)) x.enabled
      (is_off s reached.kept settled p x at (rules.Receive receive_rule.Discard)) e

  at-rest : IsAtRest x
  at-rest = (
    selected,
    unasked s reached.kept settled p x at,
    message_by x.enabled refl,
    updated s reached settled p x at,
    λ r. ((is_informed s reached settled p x at).4 r).0,
    bpdu_by x.enabled refl,
    up,
  )

-- ---- right after an event

first : (x : PortState) → IsAtRest x → IsFirst x
first x h = (h.0, h.1, h.2, h.3, h.4, λ b e. clash h.5 b)

-- a change at one port, after which it has its first facts
changed : (does : Effect) (ports : List PortState) (p : ℕ) → ((x : PortState) → IsAtRest x → IsFirst (does x))
    → AtAll (λ q. IsAtRest) ports → AtAll (λ q. IsFirst) (change_at p does ports)
changed does ports p = at_change (λ q. IsAtRest) (λ q. IsFirst) does ports p (λ q x apart. first x)

happened : (event : Event) (ports : List PortState) → AtAll (λ q. IsAtRest) ports
    → AtAll (λ q. IsFirst) (ports_at event ports)
happened (events.Bpdu p message) ports =
    changed (with_message message) ports (place_of_port p)
    (λ x h. if-is IsFirst (x.received_bpdu || x.received_message) x _ (first x h)
    (h.0, h.1, h.2, h.3, h.4, λ b. h.6))
happened events.Second ports = at_map (λ q. IsAtRest) (λ q. IsFirst) with_second (λ q. first) ports
happened (events.PortUp p) ports = changed (with_enabled true) ports (place_of_port p)
    (λ x h. (h.0, h.1, h.2, h.3, h.4, λ b e. clash h.5 b))
happened (events.PortDown p) ports = changed (with_enabled false) ports (place_of_port p)
    (λ x h. (h.0, h.1, h.2, h.3, h.4, λ b e. clash h.5 b))
happened (events.Mcheck p) ports = changed with_migration_check ports (place_of_port p)
    (λ x h. (h.0, h.1, h.2, h.3, h.4, λ b e. clash h.5 b))

pub direct-first : (event : Event) (s : Tree) → IsReached s → AreReady s → IsSettled s
    → AtAll (λ q. IsFirst) (direct event s).ports
direct-first event s reached ready settled =
    happened event (map without_slot s.ports)
    (at_map (λ q. IsAtRest) (λ q. IsAtRest) without_slot (λ q x h. h) s.ports
    (λ q x at. at-rest s reached ready settled q x at))

-- ---- a port of a settled bridge

abbrev Rests : Fact
Rests x = (wait x ≤ 1) × (turn x ≡ 0) × (mail x ≡ 0)

-- no change is pending, but that the port may have to be detected
few_pending : (t : Topology) (inside f e tc tcn ack tell flush : Bool) → Off flush
    → Off (is_learning t && inside && f && not e)
    → Off (is_learning t && (((tc || tcn) || ack) || tell) && not (is_learning t && inside && f && not e))
    → Off (is_active t && tcn) → Off (is_active t && tc) → Off (is_active t && ack)
    → if_so 1 (is_learning t) + if_so 1 flush + if_so 1 (not (is_inactive t) && (tc || tcn))
    + if_so 1 (not (is_inactive t) && ack) ≤ 1
few_pending t inside f e tc tcn ack tell flush none d c n1 n2 n3 = grind arith

in_turn : (e o : Bool) → Off (not e && not o) → Off (o && e) → if_so 4 (has_to_turn e o) ≡ 0
in_turn e o h k = grind arith

module _ (s : Tree) (reached : IsReached s) (ready : AreReady s) (settled : IsSettled s) (p : ℕ) (x : PortState)
    (at : slice_get s.ports p ≡ Some x) where
  settled_off : (rule : TopologyRule) → Off (topology_asks rule x)
  settled_off rule = is_off s reached.kept settled p x at (rules.Topology rule)

  rests : Rests x
  rests =
      let known = at-rest s reached ready settled p x at in (
        few_pending x.topology _ x.forward x.oper_edge x.received_topology_change
            x.received_notification x.received_acknowledgement x.propagate_topology_change x.flush
            (settled_off topology_rule.Flush) (settled_off topology_rule.Detected) (settled_off topology_rule.TcClear)
            (settled_off topology_rule.NotifiedTcn) (settled_off topology_rule.NotifiedTc)
            (settled_off topology_rule.Acknowledged),
        in_turn x.enabled _
            (is_off s reached.kept settled p x at (rules.Information information_rule.Disabled))
            (is_off s reached.kept settled p x at (rules.Information information_rule.Enabled)),
        omega (arith, if_so-off 10 x.received_message known.2, if_so-off 20 x.received_bpdu known.5),
      )

-- the place of the event's port, if it has one
abbrev place : Event → ℕ
place (events.Bpdu p message) = place_of_port p
place events.Second = 0
place (events.PortUp p) = place_of_port p
place (events.PortDown p) = place_of_port p
place (events.Mcheck p) = place_of_port p

abbrev Left : ℕ → ℕ → Fact
Left p q x = (wait x ≤ 1) × ((q ≡ p → ⊥) → (turn x ≡ 0) × (mail x ≡ 0))

still : (p q : ℕ) (x : PortState) → Rests x → Left p q x
still p q x h = (h.0, λ apart. (h.1, h.2))

-- a change at one port, which may have work after it
at_port : (does : Effect) (ports : List PortState) (p : ℕ)
    → ((x : PortState) → Rests x → wait (does x) ≤ 1) → AtAll (λ q. Rests) ports
    → AtAll (Left p) (change_at p does ports)
at_port does ports p few =
    at_change (λ q. Rests) (Left p) does ports p (λ q x apart. still p q x)
    (λ x h. (few x h, λ apart. absurd (apart refl)))

left_by : (event : Event) (ports : List PortState) → AtAll (λ q. Rests) ports
    → AtAll (Left (place event)) (ports_at event ports)
left_by (events.Bpdu p message) ports =
    at_port (with_message message) ports (place_of_port p)
    (λ x h. if-is (λ y. wait y ≤ 1) (x.received_bpdu || x.received_message) x _ h.0 h.0)
left_by events.Second ports =
    at_map (λ q. Rests) (Left 0) with_second (λ q x h. (h.0, λ apart. (h.1, h.2))) ports
left_by (events.PortUp p) ports = at_port (with_enabled true) ports (place_of_port p) (λ x h. h.0)
left_by (events.PortDown p) ports = at_port (with_enabled false) ports (place_of_port p) (λ x h. h.0)
left_by (events.Mcheck p) ports = at_port with_migration_check ports (place_of_port p) (λ x h. h.0)

-- ---- the shares of the ports

sum_same : (c n : ℕ) → sum n (λ q. c) ≡ n * c
sum_same c zero = omega arith
sum_same c (suc n) = omega (arith, sum_same c n)

sum_shares : (p n : ℕ) → sum n (put p 47 (λ q. 11)) ≤ 11 * n + 36
sum_shares p n = elim (cases_lt p n) [
  | inl less ↦ (let a = sum-put p 47 (λ q. 11) n less in omega (arith, sum_same 11 n))
  | inr from ↦ (let a = sum-below p 47 (λ q. 11) n from in omega (arith, sum_same 11 n))
]

share : (p q : ℕ) (x : PortState) → Left p q x → owed x ≤ put p 47 (λ k. 11) q
share p q x h = elim (cases_Bool (q == p)) [
  | inl is ↦ omega (arith, put-there p 47 (λ k. 11) q (eqb-true q p is), inputs-most x, h.0)
  | inr is ↦ (let apart = eqb-false q p is in
      let none = h.1 apart in
      omega (arith, put-apart p 47 (λ k. 11) q apart, inputs-few x none.0 none.1, h.0))
]

-- before any firing
pub starts : (event : Event) (s : Tree) (n limit : ℕ) → IsReached s → AreReady s → IsSettled s
    → Held owed n limit (11 * n + 36) (record { tree = direct event s; firings = [] })
starts event s n limit reached ready settled =
    let all = left_by event (map without_slot s.ports)
    (at_map (λ q. Rests) (λ q. Rests) without_slot (λ q x h. h) s.ports
    (λ q x at. rests s reached ready settled q x at)) in
    let few = sum_shares (place event) n in (
      omega arith,
      inr (
        put (place event) 47 (λ k. 11),
        λ q x at. share (place event) q x (all q x at),
        omega arith,
      ),
    )
