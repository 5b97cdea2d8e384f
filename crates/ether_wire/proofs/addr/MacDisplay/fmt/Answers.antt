use Rattle.std.proofs.Common.{rules}
use Rattle.ether_wire.proofs.TextLemmas.{mac_text-lower}
use Rattle.ether_wire.proofs.addr.MacDisplay.fmt.Goals as goal

pub returns-clause-writes : goal.returns-clause-writes
returns-clause-writes g c = rw mac_text-lower (search rules)
