-- The laws of bridges that the laws of networks need, from `rstp_run` and `rstp_state`.
use Rattle.rstp_state.specs.Vector.{NeverEquallyGood}
use Rattle.rstp_run.specs.RootPort.{OneRootPort}
use Rattle.rstp_run.specs.Settled.{OfSettledPorts, Sends, HasWhatItSends, IsFollowedAsRoot, PassingIsInTree}
use Rattle.rstp_run.specs.Settled.{PortsAreNumbered}

pub record BridgeLaws : Type 0 where
  pub sends : OfSettledPorts Sends
  pub has : OfSettledPorts HasWhatItSends
  pub followed : OfSettledPorts IsFollowedAsRoot
  pub one_root : OneRootPort
  pub in_tree : PassingIsInTree
  pub numbered : PortsAreNumbered
  pub good : NeverEquallyGood
