use Rattle.std.proofs.Common.{rules, ◌≡◌, ◌≤◌, ◌∙◌, ap, length, map, vec_len}
use Rattle.std.proofs.lemmas.List.{length-map}
use Rattle.idx_links.specs.declared.places.PlaceLinks.{PlaceLinks}
use Rattle.idx_links.specs.Inner.Columns.{owners}
use Rattle.idx_links.proofs.Columns.{owners_more}
use Rattle.idx_links.proofs.places.Places.grow.Goals as goal

pub returns-clause-owner : goal.returns-clause-owner
returns-clause-owner c =
    let at = c.self.inside in
    let marks = map (λ (x : PlaceLinks). x.mark) at.links.items in
    let low : at.lists ≤ length marks = rw length-map c.self.invariant.first in
    let count : vec_len c.reserve.new.self ≡ length marks = search (rules, length-map) in
    let more = rw (c.reserve.ensures.items, count) at c.add_lone.ensures.marks in
    ap (owners at.lists) more ∙ owners_more at.lists marks c.args.places low (ap (λ v. v.owner) c.self.view_is)
