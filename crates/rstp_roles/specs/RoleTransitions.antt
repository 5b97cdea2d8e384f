-- The role transitions (IEEE 802.1D-2004, 17.29, in this project's own table): the guard and the effect of each rule,
-- in the order in which the bridge tries them.
use Rattle.std.specs.Prelude.{ℕ, Bool, true, false, not, ◌&&◌, ◌||◌, ◌==◌, ◌*◌, List, map}
use Rattle.rstp_state.specs.declared.port.PortState.{PortState}
use Rattle.rstp_state.specs.declared.port.Timing.{Timing}
use Rattle.rstp_state.specs.declared.port.Role.TheVariants as role
use Rattle.rstp_state.specs.Port.{is_disabled, is_root, is_designated, is_backup, is_blocked}
use Rattle.rstp_state.specs.Port.{may_act, has_role, is_discarding, forward_delay, edge_delay, change_at}
use Rattle.rstp_roles.specs.AllPorts.{with_sync, with_re_root}

-- the port may act, and has and keeps this role

abbrev pub acts_as_disabled : PortState → Bool
acts_as_disabled port = may_act port && is_disabled port.role && is_disabled port.selected_role

abbrev pub acts_as_root : PortState → Bool
acts_as_root port = may_act port && is_root port.role && is_root port.selected_role

abbrev pub acts_as_designated : PortState → Bool
acts_as_designated port = may_act port && is_designated port.role && is_designated port.selected_role

abbrev pub acts_as_blocked : PortState → Bool
acts_as_blocked port = may_act port && has_role port && is_blocked port.role

abbrev pub acts_as_backup : PortState → Bool
acts_as_backup port = may_act port && is_backup port.role && is_backup port.selected_role

-- parts of guards

-- a discarding port has something to reset
abbrev pub is_unrested : PortState → ℕ → Bool
is_unrested port delay =
    not (port.forward_delay_while == delay) || port.sync || port.re_root || not port.synced
    || not (port.recent_root_while == 0)

-- all ports are synced and the port has not agreed yet, or it has agreed and received a new proposal
abbrev pub may_agree : PortState → Bool → Bool
may_agree port all_synced = (all_synced && not port.agree) || (port.proposed && port.agree)

-- the root port has waited; or no other port was a root port recently, and this port was not a backup port recently
abbrev pub may_go_on_as_root : PortState → Bool → Bool
may_go_on_as_root port re_rooted =
    port.forward_delay_while == 0 || (re_rooted && port.recent_backup_while == 0)

abbrev pub may_be_synced : PortState → Bool
may_be_synced port = not port.synced && (is_discarding port || port.agreed || port.oper_edge)

abbrev pub must_discard : PortState → Bool
must_discard port =
    (port.sync && not port.synced) || (port.re_root && not (port.recent_root_while == 0)) || port.disputed

-- the designated port has waited or need not wait, and no request to sync or to leave the old root holds it back
abbrev pub may_go_on : PortState → Bool
may_go_on port =
    not port.sync && (port.forward_delay_while == 0 || port.agreed || port.oper_edge)
    && (port.recent_root_while == 0 || not port.re_root)

-- Disable: the port becomes Disabled

abbrev pub disable_guard : PortState → Bool
disable_guard port = may_act port && is_disabled port.selected_role && not (is_disabled port.role)

abbrev pub disable_effect : PortState → PortState
disable_effect port = record port { role = role.Disabled; learn = false; forward = false }

-- DisabledPort: a Disabled port comes to rest

abbrev pub disabled_port_guard : Timing → PortState → Bool
disabled_port_guard timing port =
    acts_as_disabled port && is_discarding port && is_unrested port timing.max_age

abbrev pub disabled_port_effect : Timing → PortState → PortState
disabled_port_effect timing port = record port {
  forward_delay_while = timing.max_age;
  synced = true;
  recent_root_while = 0;
  sync = false;
  re_root = false;
}

-- Root: the port becomes the root port, or is still the root port

abbrev pub root_guard : Timing → PortState → Bool
root_guard timing port =
    may_act port && is_root port.selected_role
    && (not (is_root port.role) || not (port.recent_root_while == timing.forward_delay))

abbrev pub root_effect : Timing → PortState → PortState
root_effect timing port = record port { role = role.Root; recent_root_while = timing.forward_delay }

-- RootProposed: the designated bridge proposes, so every port has to be synced

abbrev pub root_proposed_guard : PortState → Bool
root_proposed_guard port = acts_as_root port && port.proposed && not port.agree

abbrev pub without_proposal : PortState → PortState
without_proposal port = record port { proposed = false }

abbrev pub root_proposed_effect : ℕ → List PortState → List PortState
root_proposed_effect p ports = change_at p without_proposal (map with_sync ports)

-- RootAgreed: the root port agrees

abbrev pub root_agreed_guard : PortState → Bool → Bool
root_agreed_guard port all_synced = acts_as_root port && may_agree port all_synced

abbrev pub root_agreed_effect : PortState → PortState
root_agreed_effect port = record port { proposed = false; sync = false; agree = true; new_info = true }

-- Reroot: every port has to leave the old root

abbrev pub reroot_guard : PortState → Bool
reroot_guard port = acts_as_root port && not port.forward && not port.re_root

abbrev pub reroot_effect : List PortState → List PortState
reroot_effect ports = map with_re_root ports

-- Rerooted: the root port forwards, so it has no old root to leave

abbrev pub rerooted_guard : PortState → Bool
rerooted_guard port = acts_as_root port && port.forward && port.re_root

abbrev pub rerooted_effect : PortState → PortState
rerooted_effect port = record port { re_root = false }

-- RootLearn: the root port begins to learn

abbrev pub root_learn_guard : PortState → Bool → Bool
root_learn_guard port re_rooted = acts_as_root port && not port.learn && may_go_on_as_root port re_rooted

abbrev pub root_learn_effect : Timing → PortState → PortState
root_learn_effect timing port = record port { forward_delay_while = forward_delay timing port; learn = true }

-- RootForward: the root port begins to forward

abbrev pub root_forward_guard : PortState → Bool → Bool
root_forward_guard port re_rooted =
    acts_as_root port && port.learn && not port.forward && may_go_on_as_root port re_rooted

abbrev pub root_forward_effect : PortState → PortState
root_forward_effect port = record port { forward_delay_while = 0; forward = true }

-- Designated: the port becomes Designated

abbrev pub designated_guard : PortState → Bool
designated_guard port = may_act port && is_designated port.selected_role && not (is_designated port.role)

abbrev pub designated_effect : PortState → PortState
designated_effect port = record port { role = role.Designated }

-- Propose: a designated port requests an agreement

abbrev pub propose_guard : PortState → Bool
propose_guard port =
    acts_as_designated port && not port.forward && not port.agreed && not port.proposing && not port.oper_edge

abbrev pub propose_effect : Timing → PortState → PortState
propose_effect timing port = record port {
  proposing = true;
  new_info = true;
  edge_delay_while = edge_delay timing port;
}

-- Synced: a designated port is synced

abbrev pub synced_guard : PortState → Bool
synced_guard port = acts_as_designated port && (may_be_synced port || (port.sync && port.synced))

abbrev pub synced_effect : PortState → PortState
synced_effect port = record port { recent_root_while = 0; synced = true; sync = false }

-- Retired: a designated port is no longer a recent root port

abbrev pub retired_guard : PortState → Bool
retired_guard port = acts_as_designated port && port.recent_root_while == 0 && port.re_root

abbrev pub retired_effect : PortState → PortState
retired_effect port = record port { re_root = false }

-- DesignatedDiscard: a designated port goes back to discarding

abbrev pub designated_discard_guard : PortState → Bool
designated_discard_guard port =
    acts_as_designated port && not port.oper_edge && (port.learn || port.forward) && must_discard port

abbrev pub designated_discard_effect : Timing → PortState → PortState
designated_discard_effect timing port = record port {
  learn = false;
  forward = false;
  disputed = false;
  forward_delay_while = forward_delay timing port;
}

-- DesignatedLearn: a designated port begins to learn

abbrev pub designated_learn_guard : PortState → Bool
designated_learn_guard port = acts_as_designated port && not port.learn && may_go_on port

abbrev pub designated_learn_effect : Timing → PortState → PortState
designated_learn_effect timing port = record port {
  learn = true;
  forward_delay_while = forward_delay timing port;
}

-- DesignatedForward: a designated port begins to forward

abbrev pub designated_forward_guard : PortState → Bool
designated_forward_guard port = acts_as_designated port && port.learn && not port.forward && may_go_on port

abbrev pub designated_forward_effect : PortState → PortState
designated_forward_effect port = record port {
  forward = true;
  forward_delay_while = 0;
  agreed = port.send_rstp;
}

-- Block: the port becomes Alternate or Backup

abbrev pub block_guard : PortState → Bool
block_guard port = may_act port && is_blocked port.selected_role && not (has_role port)

abbrev pub block_effect : PortState → PortState
block_effect port = record port { role = port.selected_role; learn = false; forward = false }

-- Alternate: an Alternate or Backup port comes to rest

abbrev pub alternate_guard : Timing → PortState → Bool
alternate_guard timing port =
    acts_as_blocked port && is_discarding port && is_unrested port (forward_delay timing port)

abbrev pub alternate_effect : Timing → PortState → PortState
alternate_effect timing port = record port {
  forward_delay_while = forward_delay timing port;
  synced = true;
  recent_root_while = 0;
  sync = false;
  re_root = false;
}

-- AlternateProposed: the designated bridge proposes, so every port has to be synced

abbrev pub alternate_proposed_guard : PortState → Bool
alternate_proposed_guard port = acts_as_blocked port && port.proposed && not port.agree

abbrev pub alternate_proposed_effect : ℕ → List PortState → List PortState
alternate_proposed_effect p ports = change_at p without_proposal (map with_sync ports)

-- AlternateAgreed: the blocked port agrees

abbrev pub alternate_agreed_guard : PortState → Bool → Bool
alternate_agreed_guard port all_synced = acts_as_blocked port && may_agree port all_synced

abbrev pub alternate_agreed_effect : PortState → PortState
alternate_agreed_effect port = record port { proposed = false; agree = true; new_info = true }

-- Backup: the port was recently a Backup port

abbrev pub backup_guard : Timing → PortState → Bool
backup_guard timing port = acts_as_backup port && not (port.recent_backup_while == 2 * timing.hello)

abbrev pub backup_effect : Timing → PortState → PortState
backup_effect timing port = record port { recent_backup_while = 2 * timing.hello }
