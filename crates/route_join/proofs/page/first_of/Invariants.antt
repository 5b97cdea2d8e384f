use Rattle.std.proofs.Common.{◌≡◌, ◌≤◌, ◌++◌, vec_len, vec_capacity}
use Rattle.route_join.specs.After.{page_len}
use Rattle.route_join.proofs.page.first_of.Given as goal

-- the first updates, followed by those that are left, are all
abbrev pub invariant-loop-update : goal.invariant-loop-update
invariant-loop-update l = record {
  all : l.first.items ++ l.update-iterator ≡ l.fn.updates;
  few : vec_len l.first ≤ page_len;
  room : page_len ≤ vec_capacity l.first;
}
