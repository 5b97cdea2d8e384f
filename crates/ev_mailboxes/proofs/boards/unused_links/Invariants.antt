use Rattle.std.proofs.Common.{◌≡◌, ◌≤◌, vec_len, vec_capacity}
use Rattle.ev_mailboxes.proofs.boards.unused_links.Given as goal

abbrev pub invariant-loop-place : goal.invariant-loop-place
invariant-loop-place l = record {
  len : vec_len l.links ≡ l.place;
  room : 65 ≤ vec_capacity l.links;
}
