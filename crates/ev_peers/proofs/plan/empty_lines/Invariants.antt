use Rattle.std.proofs.Common.{◌≡◌, ◌≤◌, length, vec_len, vec_capacity}
use Rattle.ev_peers.proofs.plan.empty_lines.Given as goal

abbrev pub invariant-loop-link : goal.invariant-loop-link
invariant-loop-link g l = record {
  len : vec_len l.lines ≡ l.link-index;
  room : length l.links ≤ vec_capacity l.lines;
}
