use Rattle.rstp_run.proofs.Within.{port-number}
use Rattle.rstp_run.proofs.bridge.Bridge.port.Goals as goal

pub returns-clause-number : goal.returns-clause-number
returns-clause-number c =
    port-number c.self.inside.engine.ports c.args.p c.port.result.now c.requires.0 c.ranges.p.fits c.port.ensures
    c.self.invariant.2
