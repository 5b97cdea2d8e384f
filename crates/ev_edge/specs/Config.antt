-- Valid configurations of an edge.
use Rattle.std.specs.Prelude.{ℕ, ◌≤◌, eqb, List, length, map, Contains}
use Rattle.std.specs.List.{IsDistinct}
use Rattle.route_join.specs.Table.{AreOriginators}
use Rattle.rstp_state.specs.declared.start.PortSettings.{PortSettings}
use Rattle.ev_edge.specs.declared.config.PortConfig.{PortConfig}
use Rattle.ev_edge.specs.declared.config.EdgeConfig.{EdgeConfig}

abbrev pub vnis_of : List PortConfig → List ℕ
vnis_of ports = map (λ p. p.vni) ports

abbrev pub settings_of : List PortConfig → List PortSettings
settings_of ports = map (λ p. p.settings) ports

-- 1 to 64 originators that all differ, the edge among them; VNIs that all differ; 1 to 64 ports, each of one of the
-- VNIs; room for 1 to 65,536 stations in as many buckets at most; entries that live a while
pub record IsConfig (c : EdgeConfig) : Type 0 where
  pub originators : AreOriginators c.originators.items
  pub listed : Contains c.originators.items c.address
  pub distinct : IsDistinct eqb c.vnis.items
  pub some_port : 1 ≤ length c.ports.items
  pub served : (v : ℕ) → Contains (vnis_of c.ports.items) v → Contains c.vnis.items v
  pub some_place : 1 ≤ c.capacity
  pub places : c.capacity ≤ 65536
  pub some_bucket : 1 ≤ c.buckets
  pub buckets : c.buckets ≤ 65536
  pub hello : 1 ≤ c.tree.hello
