-- The ports of an edge: the values of their tables.
use Rattle.std.specs.Prelude.{ℕ, ◌==◌, Bool, true, false, ◌&&◌, is_some, is_none, Option, Some, None, codes}
use Rattle.std.specs.Prelude.{if◌then◌else◌}
use Rattle.std.specs.Option.{unwrap_or}
use Rattle.toml.specs.Data.{Members}
use Rattle.ev_edge.specs.declared.config.PortConfig.{PortConfig}
use Rattle.ev_config.specs.declared.endpoint.PortEndpoints.{PortEndpoints}
use Rattle.ev_config.specs.Schema.{cost, port_priority, stations, new_stations, storm}
use Rattle.ev_config.specs.Keys.{spelt, vni_in, endpoint_in, device_in, number_at, flag_at}

-- 0 is no limit
abbrev pub storm_limit : ℕ → Option ℕ
storm_limit n = if n == 0 then None else Some n

abbrev pub port_of : Members → PortConfig
port_of t = record {
  vni = unwrap_or (spelt (codes "vni") vni_in t) 0;
  settings = record {
    priority = number_at (codes "priority") port_priority t;
    cost = number_at (codes "cost") cost t;
    admin_edge = flag_at (codes "admin_edge") false t;
    auto_edge = flag_at (codes "auto_edge") true t;
    point_to_point = flag_at (codes "point_to_point") true t;
  };
  limits = record {
    stations = Some (number_at (codes "stations") stations t);
    new_stations = Some (number_at (codes "new_stations") new_stations t);
    storm = storm_limit (number_at (codes "storm") storm t);
  };
}

-- what serves as the port's cable: the ends of a link, or a device
abbrev pub link_of : Members → PortEndpoints
link_of t = record {
  local = spelt (codes "local") endpoint_in t;
  remote = spelt (codes "remote") endpoint_in t;
  device = spelt (codes "device") device_in t;
}

-- a port's cable: in a run a device and no ends, or both ends; otherwise it has no device
abbrev pub has_cable : Bool → PortEndpoints → Bool
has_cable false l = is_none l.device
has_cable true l =
    if is_some l.device then is_none l.local && is_none l.remote else is_some l.local && is_some l.remote
