use Rattle.std.proofs.Common.{◌≡◌, ◌≤◌, vec_len, vec_capacity}
use Rattle.ev_mailboxes.proofs.peers.empty_inboxes.Given as goal

abbrev pub invariant-loop-place : goal.invariant-loop-place
invariant-loop-place g l = record {
  len : vec_len l.inboxes ≡ l.place;
  room : l.edges ≤ vec_capacity l.inboxes;
}
