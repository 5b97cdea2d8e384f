use Rattle.std.proofs.Common.{◌≡◌, ℕ, ◌+◌, ◌<◌, ◌^◌, length, get_or}
use Rattle.idx_links.specs.Families.{start}
use Rattle.idx_links.proofs.family.starts_of.Given as goal

abbrev pub invariant-loop-count : goal.invariant-loop-count
invariant-loop-count l = record {
  counted : length l.starts.items ≡ l.count-index + 1;
  last : l.end ≡ start l.starts.items l.count-index;
  small : l.end < 2 ^ 64;
  ends : (k : ℕ) → k < l.count-index → start l.starts.items (k + 1) ≡ start l.starts.items k + get_or l.count-items k 0;
}
