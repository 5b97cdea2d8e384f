-- The condition for a sound port; the rules of information keep it.
-- The invariant of every event: each port is sound and has its number, and at most one port has the selected role Root.
-- At its start a bridge is settled if its Hello time isn't 0.
use Rattle.rstp_run.proofs.Basics.{current_not_out, Fact, Facts, informed, not_zero, Off, On, parts, Relation}
use Rattle.rstp_run.proofs.Each.{AtAll, at_each, at_selected, Each, each_as, each_back, each_selected}
use Rattle.rstp_run.proofs.Names.{[], AreNumberedFrom, ap, arith, asks, Bool, best_path, Comes, Event, eq-eqb, false}
use Rattle.rstp_run.proofs.Names.{Happens, handled, InfoIs, InformationRule, IsSettled, information_asks}
use Rattle.rstp_run.proofs.Names.{information_does, inl, inr, is_out, is_root, is_through, List, list_any, nat_tests}
use Rattle.rstp_run.proofs.Names.{no, not, Option, option_map_or, PortSettings, PortState, port_number, ports_from}
use Rattle.rstp_run.proofs.Names.{Rule, refl, role_by, Settings, Some, selected_ports, slice_get, slice_get_cases}
use Rattle.rstp_run.proofs.Names.{some_is, start, start_port, subst, suc, sym, Tree, timing_in, true, updates_by}
use Rattle.rstp_run.proofs.Names.{wants_selection, with_change_flags, with_info_time, with_proposal}
use Rattle.rstp_run.proofs.Names.{with_superior_flags, zero, ℕ, ◌&&◌, ◌+◌, ◌==◌, ◌||◌, ◌∙◌, ◌∷◌, ◌≡◌, ◌≤◌}
use Rattle.rstp_run.proofs.Quiet.{answer_quiet, IsQuiet, Known, known_of}
use Rattle.rstp_run.proofs.Walk.{comes_holds, happens_holds, Walks}
use Rattle.rstp_run.specs.Laws.{AreNumbered}
use Rattle.rstp_run.specs.Transmit.{may_send}
use Rattle.rstp_run.proofs.Names.detection_rule
use Rattle.rstp_run.proofs.Names.info_is
use Rattle.rstp_run.proofs.Names.information_rule
use Rattle.rstp_run.proofs.Names.migration_rule
use Rattle.rstp_run.proofs.Names.receive_rule
use Rattle.rstp_run.proofs.Names.role_rule
use Rattle.rstp_run.proofs.Names.rules
use Rattle.rstp_run.proofs.Names.state_rule
use Rattle.rstp_run.proofs.Names.topology_rule
use Rattle.rstp_run.proofs.Names.transmit_rule

-- the port has no information, because it is not enabled
abbrev pub is_down : InfoIs → Bool
is_down info_is.Disabled = true
is_down _ = false

-- A port whose role isn't selected requests selection. The information machine is out only if the port has no
-- information, and then no update is pending while the role is selected.
abbrev pub IsSoundOf : Known → Type 0
IsSoundOf known =
    On (known.selected || known.reselect) × On (not (is_out known.information) || is_down known.info_is)
    × On (not known.update_info || (not known.selected || not (is_out known.information)))

abbrev IsSound : Fact
IsSound port = IsSoundOf (known_of port)

-- the port stays sound, and keeps its selected role and its identifier
abbrev pub Keeps : Relation
Keeps x y = (IsSound x → IsSound y) × (y.selected_role ≡ x.selected_role) × (y.identifier ≡ x.identifier)

pub keeps_quiet : (x y : PortState) → IsQuiet x y → Keeps x y
keeps_quiet x y h = (subst IsSoundOf (sym h), ap (λ k. k.selected_role) h, ap (λ k. k.identifier) h)

pub or_true : (b : Bool) → On (b || true)
or_true b = grind arith

pub information_keeps : (rule : InformationRule) (x : PortState) → On (information_asks rule x)
    → Keeps x (information_does rule x)
information_keeps information_rule.Disabled x g = (λ h. (refl, refl, or_true (not x.update_info)), refl, refl)
information_keeps information_rule.Enabled x g = (λ h. (refl, refl, or_true (not x.update_info)), refl, refl)
information_keeps information_rule.Update x g = (λ h. (h.0, refl, refl), refl, refl)
information_keeps information_rule.Aged x g = (λ h. (refl, refl, or_true (not x.update_info)), refl, refl)
information_keeps information_rule.Superior x g =
    let current = (parts (parts (parts g).0).0).0 in
    informed (λ y. Keeps x (handled (with_info_time y))) x.message
    (with_superior_flags (with_change_flags (with_proposal x)))
    (λ vector times. (
      λ h. (refl, rw (current_not_out x.information current), or_true (not x.update_info)),
      refl,
      refl,
    ))
information_keeps information_rule.Inferior x g =
    keeps_quiet x (information_does information_rule.Inferior x) (answer_quiet information_rule.Inferior x refl)
information_keeps information_rule.NotDesignated x g =
    keeps_quiet x (information_does information_rule.NotDesignated x)
    (answer_quiet information_rule.NotDesignated x refl)
information_keeps _ x g = (λ h. h, refl, refl)

-- at most one port has the selected role Root
abbrev pub OneRoot : List PortState → Type 0
OneRoot ports =
    (p q : ℕ) (a b : PortState) → slice_get ports p ≡ Some a → slice_get ports q ≡ Some b → On (is_root a.selected_role)
    → On (is_root b.selected_role) → p ≡ q

pub record IsKept (ports : List PortState) : Type 0 where
  pub sound : AtAll (λ q. IsSound) ports
  pub roots : OneRoot ports
  pub numbered : AreNumberedFrom 1 ports

-- ---- if each port keeps the invariant

each_number : (n : ℕ) (a b : List PortState) → Each (λ x y. y.identifier ≡ x.identifier) a b → AreNumberedFrom n a
    → AreNumberedFrom n b
each_number n [] [] h s = tt
each_number n (x ∷ xs) (y ∷ ys) h s = (ap port_number h.0 ∙ s.0, each_number (n + 1) xs ys h.1 s.1)
each_number n a b h s = absurd h

numbered_by : (a b : List PortState) → Each Keeps a b → AreNumberedFrom 1 a → AreNumberedFrom 1 b
numbered_by a b h = each_number 1 a b (each_as _ a b h (λ q x y _ _ k. k.2))

kept_by : (a b : List PortState) → Each Keeps a b → IsKept a → IsKept b
kept_by a b h k = record {
  sound = at_each (λ q. IsSound) (λ q. IsSound) a b (each_as _ a b h (λ q x y _ _ k. k.0)) k.sound;
  roots = λ p q y z at_p at_q root_y root_z.
      let (u, at_u, old_u) = each_back (λ q. Keeps) a b h p y at_p in
      let (v, at_v, old_v) = each_back (λ q. Keeps) a b h q z at_q in
      k.roots p q u v at_u at_v (rw old_u.1 at root_y) (rw old_v.1 at root_z);
  numbered = numbered_by a b h k.numbered;
}

-- ---- selection

update_at : (i : InfoIs) (out r b s : Bool) → On (not out || is_down i)
    → On (not (updates_by i r b s) || (false || not out))
update_at i out r b s h = grind arith

root_by : (i : InfoIs) (r b o : Bool) → On (is_root (role_by i r b o)) → On r
root_by i r b o h = grind arith

same_place : (o : Option ℕ) (p q : ℕ) → On (option_map_or (λ at. at == p) o false)
    → On (option_map_or (λ at. at == q) o false) → p ≡ q
same_place o p q h k = grind (arith, nat_tests)

selection_numbered : (s : Settings) (ports : List PortState) → AreNumberedFrom 1 ports
    → AreNumberedFrom 1 (selected_ports s ports)
selection_numbered s ports =
    each_number 1 ports (selected_ports s ports)
    (each_selected (λ q x y. y.identifier ≡ x.identifier) s ports (λ q x at. refl))

selection_kept : (s : Settings) (ports : List PortState) → IsKept ports → IsKept (selected_ports s ports)
selection_kept s ports k = record {
  sound = at_selected (λ q. IsSound) (λ q. IsSound) s ports (λ q x at h. (
    refl,
    h.1,
    update_at x.info_is _ _ _ _ h.1,
  )) k.sound;
  roots = λ p q a b at_p at_q ra rb.
      same_place (best_path s ports).place p q (through p a at_p ra) (through q b at_q rb);
  numbered = selection_numbered s ports k.numbered;
}
  where
    -- the port whose selected role is Root is the one at the path's place
    through : AtAll (λ q x. On (is_root x.selected_role) → On (is_through (best_path s ports) q))
        (selected_ports s ports)
    through = at_selected (λ q x. Unit {0}) (λ q x. On (is_root x.selected_role)
        → On (is_through (best_path s ports) q))
        s ports (λ q x at any. root_by x.info_is _ _ _) (λ q x at. tt)

-- ---- the walk

pub kept_walks : Walks (λ s. IsKept s.ports) (λ s. Keeps)
kept_walks = record {
  moves = record {
    by = λ s. kept_by s.ports;
    quiet = λ s. keeps_quiet;
    informed = λ s. information_keeps;
    second = λ s x. (λ h. h, refl, refl);
  };
  chosen = λ s p. selection_kept s.settings s.ports;
}

numbered_walks : Walks AreNumbered (λ s. Keeps)
numbered_walks = record {
  moves = record {
    by = λ s. numbered_by s.ports;
    quiet = λ s. keeps_quiet;
    informed = λ s. information_keeps;
    second = λ s x. (λ h. h, refl, refl);
  };
  chosen = λ s p. selection_numbered s.settings s.ports;
}

-- a fact of each port at the start
pub at_start : (P : Facts) (n : ℕ) (settings : Settings) (ports : List PortSettings)
    → ((q : ℕ) (x : PortSettings) (m : ℕ) → P q (start_port settings x m)) → AtAll P (ports_from n settings ports)
at_start P n settings [] h q x at = cc
at_start P n settings (y ∷ ys) h zero x at = rw (← some_is (start_port settings y n) x at) (h zero y n)
at_start P n settings (y ∷ ys) h (suc q) x at =
    at_start (λ k. P (suc k)) (n + 1) settings ys (λ k. h (suc k)) q x at

start_numbered : (n : ℕ) (settings : Settings) (ports : List PortSettings)
    → AreNumberedFrom n (ports_from n settings ports)
start_numbered n settings [] = tt
start_numbered n settings (x ∷ xs) = (omega arith, start_numbered (n + 1) settings xs)

pub start_kept : (settings : Settings) (ports : List PortSettings) → IsKept (start settings ports).ports
start_kept settings ports = record {
  sound = at_start (λ q. IsSound) 1 settings ports (λ q x m. (refl, refl, refl));
  roots = λ p q a b at_p at_q ra rb. no (at_start (λ q x. On (is_root x.selected_role) → On false) 1 settings ports
      (λ q x m r. r) p a at_p ra);
  numbered = start_numbered 1 settings ports;
}

pub comes_kept : (history : List Event) (settings : Settings) (ports : List PortSettings) (s : Tree)
    → Comes history (start settings ports) s → IsKept s.ports
comes_kept history settings ports s comes =
    comes_holds (λ s. IsKept s.ports) (λ s. Keeps) kept_walks history (start settings ports) s comes
    (start_kept settings ports)

-- the ports keep their numbers
pub happens_numbered : {event : Event} {limit : ℕ} {s t : Tree} {settled : Bool} {mask : ℕ}
    → Happens event limit s t settled mask → AreNumbered s → AreNumbered t
happens_numbered happens = happens_holds AreNumbered (λ s. Keeps) numbered_walks happens

and_off : (a b : Bool) → Off b → Off (a && b)
and_off a b e = grind arith

edge_off : (a b : Bool) → Off (not a && ((not false && a) || ((((3 == 0) && b) && true) && false)))
edge_off a b = grind arith

not_edge_off : (a : Bool) → Off ((a && not false) && not a)
not_edge_off a = grind arith

send_off : (x b : Bool) → Off ((((x && true) && false) && false) && b)
send_off x b = grind arith

none_wants : (n : ℕ) (settings : Settings) (ports : List PortSettings)
    → Off (list_any wants_selection (ports_from n settings ports))
none_wants n settings [] = refl
none_wants n settings (port ∷ ports) = none_wants (n + 1) settings ports

-- no rule is enabled at a port in its start state
module _ (settings : Settings) (ports : List PortSettings) (p : ℕ) (h : 1 ≤ settings.hello) (port : PortSettings)
    (m : ℕ) where
  asks_off : (rule : Rule) → Off (asks rule (start settings ports) p (start_port settings port m))
  asks_off rules.Select = and_off (p == 0) _ (none_wants 1 settings ports)
  asks_off (rules.Receive receive_rule.Discard) = refl
  asks_off (rules.Migration migration_rule.Recheck) = refl
  asks_off (rules.Detection detection_rule.Edge) = edge_off port.admin_edge port.auto_edge
  asks_off (rules.Detection detection_rule.NotEdge) = not_edge_off port.admin_edge
  asks_off (rules.Information information_rule.Disabled) = refl
  asks_off (rules.Role role_rule.DisabledPort) = rw (eq-eqb settings.max_age settings.max_age refl)
  asks_off (rules.State state_rule.ToLearning) = refl
  asks_off (rules.Topology topology_rule.TcLearning) = refl
  asks_off (rules.Transmit transmit_rule.Periodic) = not_zero settings.hello h
  asks_off (rules.Transmit transmit_rule.SendRst) =
      send_off (may_send (timing_in (start settings ports)) (start_port settings port m)) true
  asks_off (rules.Transmit _) = and_off _ false refl
  asks_off _ = refl

pub settled-start : (settings : Settings) (ports : List PortSettings) → 1 ≤ settings.hello
    → IsSettled (start settings ports)
settled-start settings ports h rule p = elim (slice_get_cases (start settings ports).ports p).1 [
  | inl (x, within, at, same) ↦ rw at (at_start (λ q y. Off (asks rule (start settings ports) p y)) 1 settings ports
      (λ q port m. asks_off settings ports p h port m rule) p x at)
  | inr (past, none) ↦ rw none
]
