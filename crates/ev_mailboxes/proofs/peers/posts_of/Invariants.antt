use Rattle.std.proofs.Common.{◌≡◌, ◌≤◌, length, vec_len, vec_capacity}
use Rattle.ev_mailboxes.proofs.peers.posts_of.Given as goal

abbrev pub invariant-loop-worker : goal.invariant-loop-worker
invariant-loop-worker g l = record {
  len : vec_len l.posts ≡ l.worker;
  room : l.workers ≤ vec_capacity l.posts;
  inboxes : length l.inboxes ≡ length l.fn.inboxes;
}
