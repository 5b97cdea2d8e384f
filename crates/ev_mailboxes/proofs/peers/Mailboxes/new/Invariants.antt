use Rattle.std.proofs.Common.{◌≡◌, ◌+◌, ◌≤◌, vec_len, vec_capacity}
use Rattle.ev_mailboxes.proofs.peers.Mailboxes.new.Given as goal

abbrev pub invariant-loop-inbox : goal.invariant-loop-inbox
invariant-loop-inbox g l = record {
  all : vec_len l.all + vec_len l.inboxes ≡ l.edges;
  room : l.edges ≤ vec_capacity l.all;
}

abbrev pub decreases-loop-inbox : goal.decreases-loop-inbox
decreases-loop-inbox g l = vec_len l.inboxes
