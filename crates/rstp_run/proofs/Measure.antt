-- A measure of a bridge that each firing of the sweep lowers. Its first level counts the messages, information and
-- ports that may still request a selection. Its second level counts the steps that the other rules may still make
-- before the next selection. n is the number of ports.
use Rattle.rstp_run.proofs.Basics.{Number}
use Rattle.rstp_run.proofs.Names.{arith, Bool, false, forward_delay, is_in_tree, is_none, is_out, is_received, is_root}
use Rattle.rstp_run.proofs.Names.{Migration, not, PortState, Role, Rule, same_role, Timing, Topology, true, ℕ, ◌&&◌}
use Rattle.rstp_run.proofs.Names.{◌*◌, ◌+◌, ◌==◌, ◌||◌, ◌≤◌}
use Rattle.rstp_run.proofs.Own.{Nothing, own, Reroots, Spread, Syncs, spread_of, Tells}
use Rattle.rstp_run.proofs.Quiet.{Still, still_of}
use Rattle.rstp_run.proofs.Totals.{if_so}
use Rattle.rstp_run.proofs.Names.migration
use Rattle.rstp_run.proofs.Names.role
use Rattle.rstp_run.proofs.Names.topology

-- an enabled port has still to leave the state Disabled, another port to enter it
abbrev pub has_to_turn : Bool → Bool → Bool
has_to_turn true out = out
has_to_turn false out = not out

abbrev pub selecting_of : Still → ℕ
selecting_of x =
    if_so 4 x.received_bpdu + if_so 4 x.received_message + if_so 2 (is_received x.known.info_is)
    + if_so 2 (has_to_turn x.enabled (is_out x.known.information)) + if_so 1 x.known.reselect

abbrev pub selecting : Number
selecting port = selecting_of (still_of port)

-- 4 for each step that is left in protocol migration, at most; 2 or more if a rule is enabled
abbrev pub migrating : Migration → Bool → Bool → ℕ
migrating migration.Checking true received_stp = 0
migrating migration.Checking false received_stp = 4
migrating migration.Selecting waits received_stp = 4
migrating migration.Sensing waits true = 6
migrating migration.Sensing waits false = 2

-- a port that is up, or an edge by its settings, may become an edge; any other port may cease to be one
abbrev pub may_turn_edge : Bool → Bool → Bool
may_turn_edge true oper = not oper
may_turn_edge false oper = oper

-- steps between discarding, learning and forwarding
abbrev pub stepping : Bool → Bool → Bool → Bool → ℕ
stepping true true true true = 0
stepping true true true false = 1
stepping true true false true = 1
stepping true true false false = 2
stepping true false true true = 2
stepping true false true false = 0
stepping true false false true = 3
stepping true false false false = 1
stepping false true true true = 1
stepping false true true false = 2
stepping false true false forwarding = 0
stepping false false true forwarding = 1
stepping false false false true = 1
stepping false false false false = 0

-- w for each of `learn` and `forward` that the rules of the role still change; a port that is held back gives up both
abbrev pub going_on : ℕ → Role → Bool → Bool → Bool → ℕ
going_on w role.Root held learn forward = if_so w (not learn) + if_so w (not forward)
going_on w role.Designated true learn forward = if_so w learn + if_so w forward
going_on w role.Designated false learn forward = if_so w (not learn) + if_so w (not forward)
going_on w role.Disabled held learn forward = 0
going_on w role.Alternate held learn forward = 0
going_on w role.Backup held learn forward = 0

-- w for each step of the topology change machine
abbrev pub changing : ℕ → Topology → Bool → Bool → ℕ
changing w topology.Active true learn = w + w
changing w topology.Active false learn = 0
changing w topology.Learning outside learn = w
changing w topology.Inactive true false = 0
changing w topology.Inactive true true = w + w
changing w topology.Inactive false learn = w + w

-- a port that has come to rest waits for its role's time
abbrev pub waiting : Role → Bool → Bool → ℕ
waiting role.Disabled at_max_age at_delay = if_so 1 (not at_max_age)
waiting role.Alternate at_max_age at_delay = if_so 1 (not at_delay)
waiting role.Backup at_max_age at_delay = if_so 1 (not at_delay)
waiting role.Root at_max_age at_delay = 0
waiting role.Designated at_max_age at_delay = 0

-- a request to sync, or to leave the old root, holds the port back
abbrev pub is_held : PortState → Bool
is_held port = (port.sync && not port.synced) || (port.re_root && not (port.recent_root_while == 0))

abbrev pub is_outside : PortState → Bool
is_outside port = not (is_in_tree port) || port.oper_edge

abbrev pub of_changes : ℕ → Number
of_changes n port =
    if_so 1 port.flush + if_so 2 port.propagate_topology_change + if_so 1 port.received_acknowledgement
    + if_so (2 * n + 1) port.received_topology_change + if_so (2 * n + 1) port.received_notification
    + changing (2 * n + 2) port.topology (is_outside port) port.learn

abbrev of_states : ℕ → Number
of_states n port =
    stepping port.learn port.forward port.learning port.forwarding
    + going_on (4 * n + 8) port.selected_role (is_held port) port.learn port.forward
    + if_so (8 * n + 20) port.disputed
    + if_so (n * (8 * n + 17) + 1) (is_root port.selected_role && not port.forward && not port.re_root)

abbrev of_requests : ℕ → Number
of_requests n port =
    if_so 1 port.re_root + if_so (8 * n + 17) port.sync + if_so (8 * n + 17) (not port.synced)
    + if_so (n * (16 * n + 33) + 1) port.proposed + if_so 1 (not port.agree) + if_so 2 (not port.proposing)

abbrev of_roles : ℕ → Timing → Number
of_roles n timing port =
    if_so (4 * n + 10) (not (same_role port.role port.selected_role))
    + if_so 2 (is_root port.selected_role && not (port.recent_root_while == timing.forward_delay))
    + if_so 1 (not (is_root port.selected_role) && not (port.recent_root_while == 0))
    + waiting port.selected_role (port.forward_delay_while == timing.max_age)
    (port.forward_delay_while == forward_delay timing port)
    + if_so 1 (not (port.recent_backup_while == 2 * timing.hello))

abbrev of_messages : ℕ → Number
of_messages n port =
    if_so (8 * n + 14) port.received_bpdu + if_so (16 * n + 36) port.update_info
    + if_so 1 (not (port.edge_delay_while == 3) && not port.enabled)
    + if_so (4 * n + 5) (may_turn_edge (port.enabled || port.admin_edge) port.oper_edge)
    + migrating port.migration (port.migration_delay_while == 3) port.received_stp
    + if_so 1 (is_none port.slot) + if_so 1 (port.hello_when == 0)

-- the second level
abbrev pub acting : ℕ → Timing → Number
acting n timing port =
    of_changes n port + of_states n port + of_requests n port + of_roles n timing port + of_messages n port

-- the number that a firing may add to the second level of any other port
abbrev pub raise : ℕ → Spread → ℕ
raise n Nothing = 0
raise n Syncs = 16 * n + 33
raise n Reroots = 8 * n + 17
raise n Tells = 2

-- the rule lowers the second level of the measure, more than it may raise that of all other ports
abbrev pub Lowers : ℕ → Timing → PortState → Rule → Type 0
Lowers n timing x rule =
    acting n timing (own rule timing x) + n * raise n (spread_of rule) + 1
    ≤ acting n timing x + raise n (spread_of rule)

-- ---- bounds of the parts

pub changing-le : (w : ℕ) (state : Topology) (outside learn : Bool) → changing w state outside learn ≤ w + w
changing-le w state outside learn = grind arith

pub stepping-le : (a b c d : Bool) → stepping a b c d ≤ 3
stepping-le a b c d = grind arith

pub going_on-le : (w : ℕ) (r : Role) (held learn forward : Bool) → going_on w r held learn forward ≤ w + w
going_on-le w r held learn forward = grind arith

pub migrating-le : (state : Migration) (waits received_stp : Bool) → migrating state waits received_stp ≤ 6
migrating-le state waits received_stp = grind arith

pub waiting-le : (r : Role) (at_max_age at_delay : Bool) → waiting r at_max_age at_delay ≤ 1
waiting-le r at_max_age at_delay = grind arith
