-- One induction over all rules and events: a fact about a bridge stays if each port changes by a relation.
use Rattle.rstp_run.proofs.Basics.{Effect, Off, On, Relation}
use Rattle.rstp_run.proofs.Each.{Each, each_change, each_map, each_same, Over}
use Rattle.rstp_run.proofs.Names.{[], after, asks, Bool, Comes, change_at, direct, Event, Firing, false, guard, Happens}
use Rattle.rstp_run.proofs.Names.{InformationRule, information_asks, information_does, is_select, List, map, or_parts}
use Rattle.rstp_run.proofs.Names.{PortState, ports_after, ports_at, Rule, Run, refl, Tree, timing_in, true}
use Rattle.rstp_run.proofs.Names.{with_enabled, with_message, with_migration_check, with_second, without_slot, ℕ, ◌-◌}
use Rattle.rstp_run.proofs.Names.{◌∷◌}
use Rattle.rstp_run.proofs.Own.{own, own-each, spread_by, spread_of}
use Rattle.rstp_run.proofs.Quiet.{IsQuiet, message_quiet, own_still, receive_quiet, spread_still, still_quiet}
use Rattle.rstp_run.specs.Lasting.{selects}
use Rattle.rstp_run.proofs.Names.events
use Rattle.rstp_run.proofs.Names.rules

-- P stays if each port changes by R. R allows changes that keep a port's tree information, the rules of information,
-- and a second.
pub record Moves (P : Tree → Type 0) (R : Tree → Relation) : Type 0 where
  pub by : (s : Tree) (ports : List PortState) → Each (R s) s.ports ports → P s → P (record s { ports = ports })
  pub quiet : (s : Tree) (x y : PortState) → IsQuiet x y → R s x y
  pub informed : (s : Tree) (rule : InformationRule) (x : PortState) → On (information_asks rule x)
      → R s x (information_does rule x)
  pub second : (s : Tree) (x : PortState) → R s x (with_second x)

-- and P stays after selection
pub record Walks (P : Tree → Type 0) (R : Tree → Relation) : Type 0 where
  pub moves : Moves P R
  pub chosen : (s : Tree) (p : ℕ) → P s → P (after rules.Select s p)

module _ (P : Tree → Type 0) (R : Tree → Relation) (moves : Moves P R) where
  own_moves : (rule : Rule) (s : Tree) (p : ℕ) (x : PortState) → Off (is_select rule) → On (asks rule s p x)
      → R s x (own rule (timing_in s) x)
  own_moves rules.Select s p x n g = cc
  own_moves (rules.Receive rule) s p x n g = moves.quiet s x _ (receive_quiet rule x)
  own_moves (rules.Information rule) s p x n g = moves.informed s rule x g
  own_moves rule s p x n g =
      moves.quiet s x _ (still_quiet x (own rule (timing_in s) x) (own_still rule (timing_in s) x refl))

  other_holds : (rule : Rule) (s : Tree) (p : ℕ) → Off (is_select rule) → On (guard rule s p) → P s → P (after rule s p)
  other_holds rules.Select s p n g k = cc
  other_holds rule s p n g k =
      moves.by s (ports_after rule s p) (own-each (λ q. R s) rule s p refl g
      (λ q x apart. moves.quiet s x _ (still_quiet x (spread_by (spread_of rule) x) (spread_still (spread_of rule) x)))
      (λ x at. own_moves rule s p x refl)) k

  pub lasting_holds : (firings : List Firing) (s t : Tree) → Run firings s t → Off (selects firings) → P s → P t
  lasting_holds [] s t run n k = rw run k
  lasting_holds (f ∷ earlier) s t run n k =
      let none = or_parts (is_select f.rule) (selects earlier) n in
      rw run.2.1
      (other_holds f.rule run.0 f.place none.0 run.2.0 (lasting_holds earlier s run.0 run.1 none.1 k))

  changed : (does : Effect) (s : Tree) (p : ℕ) → ((x : PortState) → IsQuiet x (does x)) → P s
      → P (record s { ports = change_at p does s.ports })
  changed does s p h k =
      moves.by s _ (each_change (λ q. R s) p does s.ports s.ports (each_same (Over (λ q. R s) p does) s.ports
      (λ q x at. (λ apart. moves.quiet s x x refl, λ e. moves.quiet s x (does x) (h x))))) k

  event_holds : (event : Event) (s : Tree) → P s → P (record s { ports = ports_at event s.ports })
  event_holds (events.Bpdu p message) s k = changed (with_message message) s (p - 1) (message_quiet message) k
  event_holds events.Second s k = moves.by s _ (each_map (λ q. R s) with_second s.ports (λ q x at. moves.second s x)) k
  event_holds (events.PortUp p) s k = changed (with_enabled true) s (p - 1) (λ x. refl) k
  event_holds (events.PortDown p) s k = changed (with_enabled false) s (p - 1) (λ x. refl) k
  event_holds (events.Mcheck p) s k = changed with_migration_check s (p - 1) (λ x. refl) k

  pub direct_holds : (event : Event) (s : Tree) → P s → P (direct event s)
  direct_holds event s k =
      event_holds event (record s { ports = map without_slot s.ports })
      (moves.by s _ (each_map (λ q. R s) without_slot s.ports (λ q x at. moves.quiet s x (without_slot x) refl)) k)

module _ (P : Tree → Type 0) (R : Tree → Relation) (walks : Walks P R) where
  pub rule_holds : (rule : Rule) (s : Tree) (p : ℕ) → On (guard rule s p) → P s → P (after rule s p)
  rule_holds rules.Select s p g k = walks.chosen s p k
  rule_holds rule s p g k = other_holds P R walks.moves rule s p refl g k

  run_holds : (firings : List Firing) (s t : Tree) → Run firings s t → P s → P t
  run_holds [] s t run k = rw run k
  run_holds (f ∷ earlier) s t run k =
      rw run.2.1 (rule_holds f.rule run.0 f.place run.2.0 (run_holds earlier s run.0 run.1 k))

  pub happens_holds : {event : Event} {limit : ℕ} {s t : Tree} {settled : Bool} {mask : ℕ}
      → Happens event limit s t settled mask → P s → P t
  happens_holds {event} {s = s} {t = t} happens k =
      run_holds happens.firings (direct event s) t happens.run (direct_holds P R walks.moves event s k)

  -- if it holds of a bridge, it holds of every bridge that is reachable from there by events
  pub comes_holds : (history : List Event) (s t : Tree) → Comes history s t → P s → P t
  comes_holds [] s t comes k = rw comes k
  comes_holds (event ∷ earlier) s t comes k =
      happens_holds comes.5 (comes_holds earlier s comes.0 comes.4 k)
