-- The selection of a bridge's root and of its ports' roles (IEEE 802.1D-2004, 17.21.25).
use Rattle.std.specs.Prelude.{◌≡◌, ℕ, Bool, true, false, not, ◌&&◌, ◌==◌, ◌+◌, min, if◌then◌else◌, List, ◌∷◌}
use Rattle.std.specs.Prelude.{map, find, Option, Some, None, unwrap_or, option_and_then, slice_get, Contains}
use Rattle.std.specs.Option.{option_map_or, option_cmp}
use Rattle.std.specs.List.{list_all, filter_map, enumerate_from}
use Rattle.std.specs.declared.cmp.Ordering.{Ordering}
use Rattle.std.specs.Ordering.{nat_cmp, ordering_then, is_lt}
use Rattle.bpdu_wire.specs.Id.{bridge_address}
use Rattle.bpdu_wire.specs.Numbers.{MOST_TIME}
use Rattle.rstp_state.specs.declared.port.InfoIs.{InfoIs}
use Rattle.rstp_state.specs.declared.port.InfoIs.TheVariants as info_is
use Rattle.rstp_state.specs.declared.port.PortState.{PortState}
use Rattle.rstp_state.specs.declared.port.Role.{Role}
use Rattle.rstp_state.specs.declared.port.Role.TheVariants as role
use Rattle.rstp_state.specs.declared.selection.Path.{Path}
use Rattle.rstp_state.specs.declared.selection.Root.{Root}
use Rattle.rstp_state.specs.declared.start.Settings.{Settings}
use Rattle.rstp_state.specs.declared.vector.Times.{Times}
use Rattle.rstp_state.specs.declared.vector.Vector.{Vector}
use Rattle.rstp_state.specs.Port.{is_received}
use Rattle.rstp_state.specs.Start.{own_times, own_vector}
use Rattle.rstp_state.specs.Vector.{vector_cmp, is_less, same_vector, same_times}

-- ---- the candidates

-- The vectors decide, and then the identifiers of the receiving ports. The places decide only if both are equal.
abbrev pub path_cmp : Path → Path → Ordering
path_cmp a b = ordering_then (vector_cmp a.vector b.vector)
    (ordering_then (nat_cmp a.port b.port) (option_cmp nat_cmp a.place b.place))

-- the root of a bridge that is its own root
abbrev pub own_root : Settings → Root
own_root s = record { priority = own_vector s 0; times = own_times s }

-- the bridge itself as root
abbrev pub own_path : Settings → Path
own_path s = record { vector = own_vector s 0; port = 0; place = None }

-- the port received a root from another bridge
abbrev pub is_told : Settings → PortState → Bool
is_told s port = is_received port.info_is && not (bridge_address port.port_priority.bridge == bridge_address
    s.identifier)

-- the port's vector plus the port's cost; sums stop at the greatest cost
abbrev pub path_through : ℕ → PortState → Path
path_through place port = record {
  vector = record port.port_priority { cost = min (port.port_priority.cost + port.cost) 4294967295 };
  port = port.identifier;
  place = Some place;
}

abbrev pub path_at : Settings → ℕ × PortState → Option Path
path_at s e = if is_told s e.1 then Some (path_through e.0 e.1) else None

-- the bridge itself, and each port that received a root
abbrev pub candidates : Settings → List PortState → List Path
candidates s ports = own_path s ∷ filter_map (path_at s) (enumerate_from 0 ports)

-- ---- the root

-- no path is less
abbrev pub is_least : List Path → Path → Bool
is_least paths path = list_all (λ other. not (is_lt (path_cmp other path))) paths

-- one of the paths, and no path is less
pub record IsLeastOf (paths : List Path) (path : Path) : Type 0 where
  pub among : Contains paths path
  pub least : is_least paths path ≡ true

-- the candidate such that no candidate is less
unfoldable pub best_path : Settings → List PortState → Path
best_path s ports = unwrap_or (find (is_least (candidates s ports)) (candidates s ports)) (own_path s)

-- one bridge further from the root, the message age is 1 greater
abbrev pub times_beyond : Times → Times
times_beyond t = record t { message_age = min (t.message_age + 1) MOST_TIME }

-- the root's times: those of the root port, one bridge further, or the bridge's own times
abbrev pub root_along : Settings → List PortState → Path → Root
root_along s ports path = record {
  priority = path.vector;
  times = option_map_or (λ port. times_beyond port.port_times) (option_and_then (slice_get ports) path.place)
      (own_times s);
}

-- ---- the ports

-- the vector that the bridge itself sends at the port with this identifier
abbrev pub designated_vector : Settings → Root → ℕ → Vector
designated_vector s root port = record {
  root = root.priority.root;
  cost = root.priority.cost;
  bridge = s.identifier;
  port = port;
}

-- the root's times, with the bridge's own Hello time
abbrev pub designated_times : Settings → Root → Times
designated_times s root = record root.times { hello = s.hello }

-- The role of a port. It depends on the source of the port's information, on whether the port is the root port, on
-- whether the bridge sends a better vector than the port's, and on whether the port's information is from this bridge.
abbrev pub role_by : InfoIs → Bool → Bool → Bool → Role
role_by info_is.Disabled is_root_port is_better is_own = role.Disabled
role_by info_is.Aged is_root_port is_better is_own = role.Designated
role_by info_is.Mine is_root_port is_better is_own = role.Designated
role_by info_is.Received is_root_port is_better is_own =
    if is_root_port then role.Root
    else if is_better then role.Designated
    else if is_own then role.Backup
    else role.Alternate

-- the port has to take over the vector and times that the bridge sends
abbrev pub updates_by : InfoIs → Bool → Bool → Bool → Bool
updates_by info_is.Disabled is_root_port is_better is_same = false
updates_by info_is.Aged is_root_port is_better is_same = true
updates_by info_is.Mine is_root_port is_better is_same = not is_same
updates_by info_is.Received is_root_port is_better is_same = not is_root_port && is_better

-- the vector that the bridge sends at the port is better than the port's vector
abbrev pub is_better : Settings → Root → PortState → Bool
is_better s root port = is_less (designated_vector s root port.identifier) port.port_priority

-- the port's vector is from this bridge
abbrev pub is_own : Settings → PortState → Bool
is_own s port = bridge_address port.port_priority.bridge == bridge_address s.identifier

-- the vector and times that the bridge sends at the port are the port's own
abbrev pub is_same : Settings → Root → PortState → Bool
is_same s root port =
    same_vector port.port_priority (designated_vector s root port.identifier)
    && same_times port.port_times (designated_times s root)

abbrev pub with_choice : Settings → Root → Bool → PortState → PortState
with_choice s root is_root_port port = record port {
  selected_role = role_by port.info_is is_root_port (is_better s root port) (is_own s port);
  update_info = updates_by port.info_is is_root_port (is_better s root port) (is_same s root port);
  designated_priority = designated_vector s root port.identifier;
  designated_times = designated_times s root;
  reselect = false;
  selected = true;
}

-- the path goes through the port at this place
abbrev pub is_through : Path → ℕ → Bool
is_through path place = option_map_or (λ at. at == place) path.place false

-- ---- the rule

-- the root after selection
unfoldable pub selected_root : Settings → List PortState → Root
selected_root s ports = root_along s ports (best_path s ports)

-- the ports after selection
unfoldable pub selected_ports : Settings → List PortState → List PortState
selected_ports s ports =
    map (λ e. with_choice s (selected_root s ports) (is_through (best_path s ports) e.0) e.1) (enumerate_from 0 ports)
