use Rattle.std.proofs.Common.{arith, sym, subst}
use Rattle.ether_wire.specs.Ends.{Allows}
use Rattle.ev_exchange.proofs.tests.received.received.Goals as goal

pub receive-incoming-requires : goal.receive-incoming-requires
receive-incoming-requires c = c.reader-reader.ensures.allows _
    (subst (Allows _) (sym c.new.ensures) (record { reads = omega arith; failures = omega arith }))
