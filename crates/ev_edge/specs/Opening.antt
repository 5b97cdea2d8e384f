-- An edge when it is opened.
use Rattle.std.specs.Prelude.{◌≡◌, []}
use Rattle.std.specs.FinMap.{empty}
use Rattle.rstp_run.specs.Events.{start}
use Rattle.ev_claims.specs.declared.opening.Start.{Start}
use Rattle.ev_claims.specs.Opening as routes
use Rattle.ev_edge.specs.declared.config.EdgeConfig.{EdgeConfig}
use Rattle.ev_edge.specs.Config.{vnis_of, settings_of}
use Rattle.ev_edge.specs.Limits.{quotas_of}
use Rattle.ev_edge.specs.Storms.{storms_of}
use Rattle.ev_edge.specs.Edge.{Edge}

-- the configuration of the local routes
abbrev pub start_of : EdgeConfig → Start
start_of c = record {
  address = c.address;
  incarnation = c.incarnation;
  originators = c.originators;
  ports = record { items = vnis_of c.ports.items };
  vnis = c.vnis;
  capacity = c.capacity;
  buckets = c.buckets;
  salt = c.salt;
}

-- Nothing is learnt, and it is second 0. The edge advertises the flood list of each VNI, the lowest first, numbered
-- from 1 and pending in this order. No station has moved, the bridge is as it starts, no edge is away, no new
-- station was counted, and no frame was.
pub record IsOpening (c : EdgeConfig) (e : Edge) : Type 0 where
  pub routes : routes.IsOpening (start_of c) e.routes
  pub clock : e.clock ≡ 0
  pub ageing : e.ageing ≡ c.ageing
  pub tree : e.tree ≡ start c.tree (settings_of c.ports.items)
  pub windows : e.windows ≡ empty
  pub away : e.away ≡ []
  pub quotas : e.quotas ≡ quotas_of c.ports.items
  pub storms : e.storms ≡ storms_of c.ports.items
