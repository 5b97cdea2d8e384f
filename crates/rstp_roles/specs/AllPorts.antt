-- The values that a rule of one port reads from, or sets at, all other ports.
use Rattle.std.specs.Prelude.{ℕ, Bool, true, ◌&&◌, ◌||◌, ◌==◌, ◌+◌, List, take, drop}
use Rattle.std.specs.List.{list_all}
use Rattle.rstp_state.specs.declared.port.PortState.{PortState}
use Rattle.rstp_state.specs.Port.{may_act, has_role, is_root}

abbrev pub with_sync : PortState → PortState
with_sync port = record port { sync = true }

abbrev pub with_re_root : PortState → PortState
with_re_root port = record port { re_root = true }

-- the port has taken its role, and is the root port or synced
abbrev pub is_in_step : PortState → Bool
is_in_step port = may_act port && has_role port && (is_root port.role || port.synced)

-- every port has taken its role, and is the root port or synced
abbrev pub all_synced : List PortState → Bool
all_synced ports = list_all is_in_step ports

abbrev pub is_not_recent : PortState → Bool
is_not_recent port = port.recent_root_while == 0

-- no other port was a root port recently
abbrev pub re_rooted : ℕ → List PortState → Bool
re_rooted p ports = list_all is_not_recent (take p ports) && list_all is_not_recent (drop (p + 1) ports)
