use Rattle.std.proofs.Common.{rules, refl, ◌∙◌, ◌≤◌, map, vec_len}
use Rattle.idx_links.specs.declared.places.PlaceLinks.{PlaceLinks}
use Rattle.idx_links.proofs.Columns.{range_step, same_step}
use Rattle.idx_links.proofs.places.add_lone.Goals as goal

pub loop-place-preserved : goal.loop-place-preserved
loop-place-preserved c =
    let start = vec_len c.args.links.now in
    let old = c.args.links.now.items in
    let at = c.loop-place.place in
    let low : start ≤ at = search rules in
    let kept = c.loop-place.invariant in
    let now = c.loop-place.links.items in
    let more = c.push_reserved.ensures.items in
    record {
      next = range_step (λ (x : PlaceLinks). x.next)
          (map (λ (x : PlaceLinks). x.next) old) now _ start at low kept.next more
          refl;
      prev = range_step (λ (x : PlaceLinks). x.prev)
          (map (λ (x : PlaceLinks). x.prev) old) now _ start at low kept.prev more
          refl;
      marks = same_step (λ (x : PlaceLinks). x.mark)
          (map (λ (x : PlaceLinks). x.mark) old) now _ 0 start at low kept.marks more
          refl;
      len = search rules;
      room = c.push_reserved.ensures.capacity ∙ kept.room;
    }
