use Rattle.std.proofs.Common.{vec_len}
use Rattle.ev_peers.proofs.sending.join_sending.Given as goal

abbrev pub decreases-loop-handle : goal.decreases-loop-handle
decreases-loop-handle g l = vec_len l.running
