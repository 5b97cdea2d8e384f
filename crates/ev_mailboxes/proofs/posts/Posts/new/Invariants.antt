use Rattle.std.proofs.Common.{◌≡◌, ◌≤◌, length, map, vec_len, vec_capacity}
use Rattle.ev_mailboxes.specs.Posts.{letters_to}
use Rattle.ev_mailboxes.specs.Inner.Posts.{none_sent}
use Rattle.ev_mailboxes.proofs.posts.Posts.new.Given as goal

abbrev pub invariant-loop-place : goal.invariant-loop-place
invariant-loop-place g l = record {
  sent : map letters_to l.all.items ≡ none_sent l.place;
  len : vec_len l.all ≡ l.place;
  room : length l.fn.inboxes ≤ vec_capacity l.all;
  inboxes : length l.inboxes ≡ length l.fn.inboxes;
}
