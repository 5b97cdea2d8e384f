use Rattle.std.proofs.Common.{◌≡◌, ◌++◌, ◌-◌, map, replicate, vec_len, vec_capacity}
use Rattle.std.specs.List.{range_with_len}
use Rattle.idx_links.specs.declared.places.PlaceLinks.{PlaceLinks}
use Rattle.idx_links.proofs.places.add_lone.Given as goal

abbrev pub invariant-loop-place : goal.invariant-loop-place
invariant-loop-place l = record {
  next : map (λ (x : PlaceLinks). x.next) l.links.items ≡ map (λ (x : PlaceLinks). x.next) l.fn.links.items
      ++ range_with_len (vec_len l.fn.links) (l.place - vec_len l.fn.links);
  prev : map (λ (x : PlaceLinks). x.prev) l.links.items ≡ map (λ (x : PlaceLinks). x.prev) l.fn.links.items
      ++ range_with_len (vec_len l.fn.links) (l.place - vec_len l.fn.links);
  marks : map (λ (x : PlaceLinks). x.mark) l.links.items ≡ map (λ (x : PlaceLinks). x.mark) l.fn.links.items
      ++ replicate (l.place - vec_len l.fn.links) 0;
  len : vec_len l.links ≡ l.place;
  room : vec_capacity l.links ≡ vec_capacity l.fn.links;
}
