-- Every rule, and every event, keeps all ports orderly.
-- Facts about a port that passes frames.
use Rattle.rstp_roles.specs.RoleTransitions.{acts_as_designated, acts_as_root}
use Rattle.rstp_roles.specs.StateTransitions.{to_discarding_guard}
use Rattle.rstp_run.proofs.Basics.{Effect, Fact, if-is, informed, Off, On, parts, timed}
use Rattle.rstp_run.proofs.Each.{AtAll, at_change, at_map, at_selected}
use Rattle.rstp_run.proofs.Kept.{at_start, or_true}
use Rattle.rstp_run.proofs.Names.{[], All-cons, All-nil, AreOrderly, arith, asks, Bool, change_at, direct, Event}
use Rattle.rstp_run.proofs.Names.{Firing, false, guard, handled, IsInTree, IsOrderly, is_designated, is_in_tree}
use Rattle.rstp_run.proofs.Names.{is_root, List, map, message_has, not, or_left, or_right, PortSettings, PortState}
use Rattle.rstp_run.proofs.Names.{ports_after, ports_at, ports_from, RoleRule, Rule, Run, refl, rst_has, Settings}
use Rattle.rstp_run.proofs.Names.{slice_get_within, suc, Tree, timing_in, true, with_change_flags, with_enabled}
use Rattle.rstp_run.proofs.Names.{with_info_time, with_message, with_migration_check, with_proposal, with_second}
use Rattle.rstp_run.proofs.Names.{with_superior_flags, without_slot, zero, ℕ, ◌&&◌, ◌-◌, ◌||◌, ◌∷◌}
use Rattle.rstp_run.proofs.Own.{after-at, Nothing, own_role, Spread, Stable, spread_by, spread_of}
use Rattle.rstp_run.proofs.Totals.{tested_at}
use Rattle.rstp_run.specs.Events.{Learns, Passes}
use Rattle.std.proofs.lemmas.List.Elements.{All-get_or}
use Rattle.std.proofs.lemmas.Option.{get_or_from_slice_get}
use Rattle.std.specs.Prelude.{All}
use Rattle.rstp_run.proofs.Names.detection_rule
use Rattle.rstp_run.proofs.Names.events
use Rattle.rstp_run.proofs.Names.information_rule
use Rattle.rstp_run.proofs.Names.migration_rule
use Rattle.rstp_run.proofs.Names.receive_rule
use Rattle.rstp_run.proofs.Names.role_rule
use Rattle.rstp_run.proofs.Names.rules
use Rattle.rstp_run.proofs.Names.state_rule
use Rattle.rstp_run.proofs.Names.topology
use Rattle.rstp_run.proofs.Names.topology_rule
use Rattle.rstp_run.proofs.Names.transmit_rule

-- the port at a place
pub at_place : (P : Fact) (ports : List PortState) → All P ports → AtAll (λ q. P) ports
at_place P ports all p port is =
    let within = slice_get_within ports p port is in
    rw (get_or_from_slice_get ports p port port is) at (All-get_or P ports p port within all)

all_at : (P : Fact) (ports : List PortState) → AtAll (λ q. P) ports → All P ports
all_at P [] all = All-nil P
all_at P (x ∷ xs) all = All-cons P x xs (all zero x refl) (all_at P xs (λ q. all (suc q)))

-- ---- the rules of one port

module _ (x : PortState) (h : IsOrderly x) where
  even : On (not x.forwarding || x.learning)
  even = (parts h).0

  root_tree : On (acts_as_root x) → On (is_in_tree x)
  root_tree acts = or_left (is_root x.role) (is_designated x.role) (parts (parts acts).0).1

  designated_tree : On (acts_as_designated x) → On (is_in_tree x)
  designated_tree acts = or_right (is_root x.role) (is_designated x.role) (parts (parts acts).0).1

  role_keeps : (rule : RoleRule) (s : Tree) (p : ℕ) → On (asks (rules.Role rule) s p x)
      → IsOrderly (own_role rule (timing_in s) x)
  role_keeps role_rule.Disable s p g = rw even
  role_keeps role_rule.Root s p g = rw even
  role_keeps role_rule.Designated s p g = rw even
  role_keeps role_rule.RootLearn s p g = rw (even, root_tree (parts (parts g).0).0)
  role_keeps role_rule.RootForward s p g = rw (even, root_tree (parts (parts (parts g).0).0).0)
  role_keeps role_rule.DesignatedDiscard s p g = rw (even, or_true (is_in_tree x))
  role_keeps role_rule.DesignatedLearn s p g = rw (even, designated_tree (parts (parts g).0).0)
  role_keeps role_rule.DesignatedForward s p g = rw (even, designated_tree (parts (parts (parts g).0).0).0)
  role_keeps role_rule.Block s p g = rw (even, or_true (is_in_tree (record x { role = x.selected_role })))
  role_keeps _ s p g = h

own_keeps : Stable IsOrderly
own_keeps (rules.Receive receive_rule.Discard) s p x other g h = h
own_keeps (rules.Migration migration_rule.Recheck) s p x other g h = h
own_keeps (rules.Detection detection_rule.Edge) s p x other g h = h
own_keeps (rules.Information information_rule.Superior) s p x other g h =
    informed (λ y. IsOrderly (handled (with_info_time y))) x.message
    (with_superior_flags (with_change_flags (with_proposal x))) (λ vector times. h)
own_keeps (rules.Information information_rule.Inferior) s p x other g h =
    if-is IsOrderly (rst_has 0x10 x.message) _ _ h h
own_keeps (rules.Information information_rule.NotDesignated) s p x other g h =
    if-is (λ y. IsOrderly (handled (with_change_flags y))) (x.point_to_point && message_has 0x40 x.message) _ _ h h
own_keeps (rules.Role rule) s p x other g h = role_keeps x h rule s p g
own_keeps (rules.State state_rule.ToLearning) s p x other g h = rw (or_true (not x.forwarding)) (parts h).1
own_keeps (rules.State state_rule.ToForwarding) s p x other g h =
    let learns : On x.learning = (parts (parts g).0).0 in rw learns (parts h).1
own_keeps (rules.State state_rule.ToDiscarding) s p x other g h = (parts h).1
own_keeps (rules.Topology topology_rule.Detected) s p x other g h =
    timed IsOrderly (timing_in s) (record x { topology = topology.Active }) (λ time new. h)
own_keeps (rules.Topology topology_rule.NotifiedTcn) s p x other g h =
    timed IsOrderly (timing_in s) x (λ time new. h)
own_keeps (rules.Topology topology_rule.Propagating) s p x other g h =
    timed IsOrderly (timing_in s) x (λ time new. h)
own_keeps (rules.Transmit transmit_rule.Periodic) s p x other g h = h
own_keeps _ s p x other g h = h

spread_keeps : (k : Spread) (x : PortState) → IsOrderly x → IsOrderly (spread_by k x)
spread_keeps Nothing x h = h
spread_keeps _ x h = h

-- ---- runs and events

abbrev AllOrderly : List PortState → Type 0
AllOrderly = AtAll (λ q. IsOrderly)

pub orderly-after : (rule : Rule) (s : Tree) (p : ℕ) → On (guard rule s p) → AllOrderly s.ports
    → AllOrderly (ports_after rule s p)
orderly-after rules.Select s p g = at_selected (λ q. IsOrderly) (λ q. IsOrderly) s.settings s.ports (λ q x at h. h)
orderly-after rule s p g =
    after-at (λ q. IsOrderly) (λ q. IsOrderly) rule s p refl g (λ q x apart. spread_keeps (spread_of rule) x)
    (λ x. own_keeps rule s p x refl)

pub orderly-run : (firings : List Firing) (s t : Tree) → Run firings s t → AreOrderly s → AreOrderly t
orderly-run [] s t same all = rw same all
orderly-run (f ∷ earlier) s t (mid, run, fires) all =
    rw fires.1 (all_at IsOrderly (ports_after f.rule mid f.place) (orderly-after f.rule mid f.place fires.0
    (at_place IsOrderly mid.ports (orderly-run earlier s mid run all))))

changed : (does : Effect) (ports : List PortState) (p : ℕ) → ((x : PortState) → IsOrderly x → IsOrderly (does x))
    → AllOrderly ports → AllOrderly (change_at p does ports)
changed does ports p = at_change (λ q. IsOrderly) (λ q. IsOrderly) does ports p (λ q x apart h. h)

happened : (event : Event) (ports : List PortState) → AllOrderly ports → AllOrderly (ports_at event ports)
happened (events.Bpdu p message) ports =
    changed (with_message message) ports (p - 1)
    (λ x h. if-is IsOrderly (x.received_bpdu || x.received_message) x _ h h)
happened events.Second ports = at_map (λ q. IsOrderly) (λ q. IsOrderly) with_second (λ q x h. h) ports
happened (events.PortUp p) ports = changed (with_enabled true) ports (p - 1) (λ x h. h)
happened (events.PortDown p) ports = changed (with_enabled false) ports (p - 1) (λ x h. h)
happened (events.Mcheck p) ports = changed with_migration_check ports (p - 1) (λ x h. h)

pub orderly-direct : (event : Event) (s : Tree) → AreOrderly s → AreOrderly (direct event s)
orderly-direct event s all =
    all_at IsOrderly (direct event s).ports (happened event (map without_slot s.ports)
    (at_map (λ q. IsOrderly) (λ q. IsOrderly) without_slot (λ q x h. h) s.ports (at_place IsOrderly s.ports all)))

pub orderly-ports_from : (n : ℕ) (settings : Settings) (ports : List PortSettings)
    → All IsOrderly (ports_from n settings ports)
orderly-ports_from n settings ports =
    all_at IsOrderly (ports_from n settings ports) (at_start (λ q. IsOrderly) n settings ports (λ q x m. refl))

learning_from : (e f l x : Bool) → On (e && f) → On ((not f || l) && x) → On (e && l)
learning_from e f l x test order = grind arith

tree_from : (f a l learn w t : Bool) → On f → Off ((l && not learn) || (f && not w))
    → On (a && (t || (not learn && not w)))
    → On t
tree_from f a l learn w t passes quiet order = grind arith

module _ (s : Tree) (p : ℕ) (all : AreOrderly s) (passes : Passes s p) where
  pub passing-learns : Learns s p
  passing-learns =
      let (x, at, test) = tested_at (λ y. y.enabled && y.forwarding) s.ports (p - 1) passes.1 in (
        passes.0,
        rw at (learning_from x.enabled x.forwarding x.learning _ test
            (at_place IsOrderly s.ports all (p - 1) x at)),
      )

  pub passing-in_tree : IsInTree s p
  passing-in_tree =
      let (x, at, test) = tested_at (λ y. y.enabled && y.forwarding) s.ports (p - 1) passes.1 in
      let settled : Off (to_discarding_guard x) = rw at at (passes.0 (rules.State state_rule.ToDiscarding) (p - 1)) in
      rw at (tree_from x.forwarding _ x.learning x.learn x.forward _ (parts test).1 settled
      (at_place IsOrderly s.ports all (p - 1) x at))
