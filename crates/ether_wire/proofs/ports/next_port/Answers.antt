use Rattle.ether_wire.proofs.PortLemmas.{all_passed, none_after, next_is}
use Rattle.ether_wire.proofs.ports.next_port.Goals as goal

pub returns-then-after-ge64-clause-none : goal.returns-then-after-ge64-clause-none
returns-then-after-ge64-clause-none c = all_passed c.args.set c.args.after c.if-after-ge64.true

pub returns-then-later-eq0-clause-none : goal.returns-then-later-eq0-clause-none
returns-then-later-eq0-clause-none c = none_after c.args.set c.args.after c.ranges.set.fits c.if-later-eq0.true

pub returns-clause-some : goal.returns-clause-some
returns-clause-some c = next_is c.args.set c.args.after c.ranges.set.fits c.if-after-ge64.false c.if-later-eq0.false
