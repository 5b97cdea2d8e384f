use Rattle.std.proofs.Common.{sym, subst}
use Rattle.ev_peers.specs.Inner.Handles.{Handle, IsHandle}
use Rattle.ev_peers.proofs.Threads.{kept_of}
use Rattle.ev_peers.proofs.joining.join_edge.Goals as goal

pub returns-in-Some : goal.returns-in-Some
returns-in-Some g c = λ number setup is. kept_of number setup c.in-Some.handle c.join.result c.join.ensures.0
    c.join.ensures.1 (subst (λ (h : Handle). IsHandle number setup h) c.in-Some.is is)
