-- An edge of the configuration: the values of its table.
use Rattle.std.specs.Prelude.{ℕ, ◌+◌, ◌*◌, ◌^◌, List, [], map, codes}
use Rattle.std.specs.Option.{unwrap_or}
use Rattle.toml.specs.Data.{Members}
use Rattle.arrayvec.specs.ArrayVec.{ArrayVec}
use Rattle.rstp_state.specs.declared.start.Settings.{Settings}
use Rattle.ev_edge.specs.declared.config.EdgeConfig.{EdgeConfig}
use Rattle.ev_config.specs.declared.endpoint.PortEndpoints.{PortEndpoints}
use Rattle.ev_config.specs.Schema.{priority, hello, max_age, forward_delay, hold, ageing, capacity, buckets, salt}
use Rattle.ev_config.specs.Schema.{incarnation}
use Rattle.ev_config.specs.Keys.{spelt, addr_in, bridge_in, vnis_in, number_at, number_or, tables_at, tables_of}
use Rattle.ev_config.specs.ConfigPort.{port_of, link_of}

-- the bridge's identifier and times
abbrev pub tree_of : Members → Settings
tree_of t = record {
  identifier = number_at (codes "priority") priority t * 2 ^ 48 + unwrap_or (spelt (codes "bridge") bridge_in t) 0;
  hello = number_at (codes "hello") hello t;
  max_age = number_at (codes "max_age") max_age t;
  forward_delay = number_at (codes "forward_delay") forward_delay t;
  hold = number_at (codes "hold") hold t;
}

-- the edge, which lists these addresses
abbrev pub edge_of : List ℕ → Members → EdgeConfig
edge_of listed t = record {
  address = unwrap_or (spelt (codes "address") addr_in t) 0;
  incarnation = number_at (codes "incarnation") incarnation t;
  originators = record { items = listed };
  vnis = record { items = unwrap_or (spelt (codes "vnis") vnis_in t) [] };
  tree = tree_of t;
  ageing = number_at (codes "ageing") ageing t;
  capacity = number_at (codes "capacity") capacity t;
  buckets = number_or (number_at (codes "capacity") capacity t) (codes "buckets") buckets t;
  salt = number_at (codes "salt") salt t;
  ports = record { items = map port_of (tables_of (tables_at (codes "port") t)) };
}

-- the links of its ports
abbrev pub links_of : Members → ArrayVec PortEndpoints
links_of t = record { items = map link_of (tables_of (tables_at (codes "port") t)) }
