use Rattle.ev_edge.proofs.Frames.{frame_leaves}
use Rattle.ev_edge.proofs.Remaining.{frame_stays}
use Rattle.ev_edge.proofs.laws.leaves_by_members_that_pass.Goals as goal

pub returns : goal.returns
returns c = λ e e' port octets result good steps. frame_leaves e port result e'
    (frame_stays e port octets result e' good steps).routes.routes octets steps
