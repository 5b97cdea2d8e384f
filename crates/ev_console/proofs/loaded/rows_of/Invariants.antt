use Rattle.std.proofs.Common.{◌≡◌, ◌≤◌, length, map, take, vec_len, vec_capacity}
use Rattle.ev_console.specs.Inner.LinksShown.{drops_of}
use Rattle.ev_console.proofs.loaded.rows_of.Given as goal

abbrev pub invariant-loop-place : goal.invariant-loop-place
invariant-loop-place l = record {
  len : vec_len l.rows ≡ l.place;
  room : length l.links ≤ vec_capacity l.rows;
  drops : map (λ row. row.system_drops) l.rows.items ≡ drops_of l.drops (take l.place l.links);
}
