use Rattle.std.proofs.Common.{rules, ◌≡◌, ◌+◌, map, replicate, arith}
use Rattle.std.proofs.lemmas.List.{take-replicate}
use Rattle.idx_links.specs.declared.places.PlaceLinks.{PlaceLinks}
use Rattle.idx_links.proofs.Columns.{owners-none}
use Rattle.idx_links.proofs.places.Places.new.Goals as goal

pub returns-clause-owner : goal.returns-clause-owner
returns-clause-owner c =
    let marks : map (λ (x : PlaceLinks). x.mark) c.add_lone.new.links.items
    ≡ replicate (c.args.lists + c.args.nodes) 0 =
    search rules in
    rw marks (owners-none c.args.lists c.args.nodes)

pub returns-clause-lens : goal.returns-clause-lens
returns-clause-lens c =
    let marks : map (λ (x : PlaceLinks). x.mark) c.add_lone.new.links.items
    ≡ replicate (c.args.lists + c.args.nodes) 0 =
    search rules in
    rw marks (take-replicate c.args.lists (c.args.lists + c.args.nodes) 0 (omega arith))
