-- The octets that are written for a BPDU (IEEE 802.1D-2004, 9.3).
use Rattle.std.specs.Prelude.{◌<◌, ◌^◌}
use Rattle.bpdu_wire.specs.declared.bpdu.Message.{Message}

-- each of these fields fits its octets
pub record HasVector (m : Message) : Type 0 where
  pub root : m.root < 2 ^ 64
  pub cost : m.cost < 2 ^ 32
  pub bridge : m.bridge < 2 ^ 64
  pub port : m.port < 2 ^ 16

pub record HasTimes (m : Message) : Type 0 where
  pub message_age : m.message_age < 2 ^ 16
  pub max_age : m.max_age < 2 ^ 16
  pub hello : m.hello < 2 ^ 16
  pub forward_delay : m.forward_delay < 2 ^ 16
