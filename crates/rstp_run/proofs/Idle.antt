-- If a machine isn't busy at a port, none of its rules is enabled there.
use Rattle.rstp_run.proofs.Basics.{Fact, neither, Off, On, parts}
use Rattle.rstp_run.proofs.Names.{[], AreOffAt, arith, asks, Bool, false, guard, InformationRule, information_asks}
use Rattle.rstp_run.proofs.Names.{List, list_all, list_any, MAIN, MigrationRule, migration_asks, None, not, not-true}
use Rattle.rstp_run.proofs.Names.{Option, option_map_or, PortState, ReceiveRule, RoleRule, Rule, receive_asks, refl}
use Rattle.rstp_run.proofs.Names.{role_asks, SENDS, Some, StateRule, slice_get, state_asks, Timing, TopologyRule}
use Rattle.rstp_run.proofs.Names.{TransmitRule, Tree, timing_in, topology_asks, transmit_asks, true, wants_selection, ℕ}
use Rattle.rstp_run.proofs.Names.{◌&&◌, ◌==◌, ◌||◌, ◌∷◌, ◌≡◌}
use Rattle.rstp_run.specs.Inner.Rest.{detection_is_busy, information_is_busy, is_busy, migration_is_busy, port_is_busy}
use Rattle.rstp_run.specs.Inner.Rest.{port_sends, receive_is_busy, role_is_busy, state_is_busy, topology_is_busy}
use Rattle.rstp_run.specs.Inner.Runs.{rules_of}
use Rattle.rstp_run.specs.Machines.{detection_asks}
use Rattle.rstp_run.specs.Transmit.{is_ready}
use Rattle.rstp_run.specs.declared.rule.DetectionRule.{DetectionRule}
use Rattle.rstp_run.specs.declared.rule.Part.{Part}
use Rattle.rstp_run.proofs.Names.information_rule
use Rattle.rstp_run.proofs.Names.role_rule
use Rattle.rstp_run.proofs.Names.rules
use Rattle.rstp_run.proofs.Names.topology_rule
use Rattle.rstp_run.proofs.Names.transmit_rule
use Rattle.rstp_run.specs.declared.rule.Part.TheVariants as tables
use Rattle.rstp_state.specs.declared.port.Role.TheVariants as roles

-- a conjunction whose first test fails
fails : (x y : Bool) → Off x → Off (x && y)
fails x y h = rw h refl

receive_off : (port : PortState) → Off (receive_is_busy port) → (rule : ReceiveRule) → Off (receive_asks rule port)
receive_off port h rule = grind arith

migration_off : (port : PortState) → Off (migration_is_busy port) → (rule : MigrationRule)
    → Off (migration_asks rule port)
migration_off port h rule = grind arith

detection_off : (port : PortState) → Off (detection_is_busy port) → (rule : DetectionRule)
    → Off (detection_asks rule port)
detection_off port h rule = grind arith

information_off : (port : PortState) → Off (information_is_busy port) → (rule : InformationRule)
    → Off (information_asks rule port)
information_off port h information_rule.Disabled = grind arith
information_off port h rule = grind arith

state_off : (port : PortState) → Off (state_is_busy port) → (rule : StateRule) → Off (state_asks rule port)
state_off port h rule = grind arith

topology_off : (port : PortState) → Off (topology_is_busy port) → (rule : TopologyRule)
    → Off (topology_asks rule port)
topology_off port h topology_rule.TcLearning = grind arith
topology_off port h rule = grind arith

-- the fields of a designated port that keeps forwarding
record Keeps (port : PortState) : Type 0 where
  role : port.role ≡ roles.Designated
  selected_role : port.selected_role ≡ roles.Designated
  learn : On port.learn
  forward : On port.forward
  sync : Off port.sync
  re_root : Off port.re_root
  disputed : Off port.disputed

keeps : (port : PortState) → Off (role_is_busy port) → Keeps port
keeps port h = grind arith

role_off : (port : PortState) → Off (role_is_busy port) → (rule : RoleRule) (timing : Timing) (ports : List PortState)
    (p : ℕ) → Off (role_asks rule timing ports p port)
role_off port h role_rule.Synced timing ports p = (neither h).1
role_off port h rule timing ports p = let k = keeps port h in grind (arith, k)

-- a port with nothing new to send isn't ready
unready : (port : PortState) → Off (port_sends port) → (timing : Timing) → Off (is_ready timing port)
unready port h timing = grind arith

transmit_off : (port : PortState) → Off (port_sends port) → (rule : TransmitRule) (timing : Timing)
    → Off (transmit_asks rule timing port)
transmit_off port h transmit_rule.Periodic timing = grind arith
transmit_off port h transmit_rule.SendRst timing = fails _ _ (unready port h timing)
transmit_off port h rule timing = fails _ _ (fails _ _ (unready port h timing))

-- a rule that doesn't send
abbrev is_main : Rule → Bool
is_main (rules.Transmit rule) = false
is_main _ = true

-- the tests of port_is_busy, machine by machine
abbrev IsIdle : Fact
IsIdle port =
    Off (receive_is_busy port) × Off (migration_is_busy port) × Off (detection_is_busy port)
    × Off (information_is_busy port) × Off (role_is_busy port) × Off (state_is_busy port) × Off (topology_is_busy port)

is_idle : (port : PortState) → Off (port_is_busy port) → IsIdle port
is_idle port h =
    let topology = neither h in
    let state = neither topology.0 in
    let role = neither state.0 in
    let information = neither role.0 in
    let detection = neither information.0 in
    let (receive, migration) = neither detection.0 in
    (receive, migration, detection.1, information.1, role.1, state.1, topology.1)

module _ (s : Tree) (p : ℕ) where
  -- only rules that send can be enabled at this port
  asks_off : (port : PortState) → Off (p == 0 && list_any wants_selection s.ports) → IsIdle port → (rule : Rule)
      → On (is_main rule) → Off (asks rule s p port)
  asks_off port none h rules.Select main = none
  asks_off port none h (rules.Receive rule) main = receive_off port h.0 rule
  asks_off port none h (rules.Migration rule) main = migration_off port h.1 rule
  asks_off port none h (rules.Detection rule) main = detection_off port h.2 rule
  asks_off port none h (rules.Information rule) main = information_off port h.3 rule
  asks_off port none h (rules.Role rule) main = role_off port h.4 rule (timing_in s) s.ports p
  asks_off port none h (rules.State rule) main = state_off port h.5 rule
  asks_off port none h (rules.Topology rule) main = topology_off port h.6 rule
  asks_off port none h (rules.Transmit rule) main = cc

  sends_off : (port : PortState) → Off (port_sends port) → (rule : Rule) → Off (is_main rule)
      → Off (asks rule s p port)
  sends_off port h (rules.Transmit rule) sends = transmit_off port h rule (timing_in s)
  sends_off port h rule sends = cc

  -- the port may or may not exist
  off_there : (test : PortState → Bool) (rule : Rule)
      → ((port : PortState) → Off (test port) → Off (asks rule s p port)) → (o : Option PortState)
      → Off (option_map_or test o false) → Off (option_map_or (asks rule s p) o false)
  off_there test rule off None h = refl
  off_there test rule off (Some port) h = off port h

  all_off : (is : Rule → Bool) (list : List Rule) → On (list_all is list)
      → ((rule : Rule) → On (is rule) → Off (guard rule s p)) → Off (list_any (λ rule. guard rule s p) list)
  all_off is [] all off = refl
  all_off is (rule ∷ list) all off =
      rw (off rule (parts all).0) (all_off is list (parts all).1 off)

  -- if no rule of a part may be enabled at a port, none of its rules is enabled there
  pub busy-off : (part : Part) → Off (is_busy part s.ports p) → AreOffAt (rules_of part) p s
  busy-off tables.Main h = all_off is_main MAIN refl
      (λ rule main. off_there (λ port. (p == 0 && list_any wants_selection s.ports) || port_is_busy port) rule
      (λ port busy. (let (none, rest) = neither busy in asks_off port none (is_idle port rest) rule main))
      (slice_get s.ports p) h)
  busy-off tables.Sends h = all_off (λ rule. not (is_main rule)) SENDS refl
      (λ rule sends. off_there port_sends rule (λ port idle. sends_off port idle rule (not-true _ sends))
      (slice_get s.ports p) h)
