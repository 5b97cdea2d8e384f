use Rattle.std.proofs.Common.{rules, ◌≡◌, ◌*◌, ◌^◌, ◌<◌, [], length, map, replicate, ap, ◌∙◌}
use Rattle.idx_links.proofs.FamilyCalls.{new_family, new_families}
use Rattle.idx_links.proofs.family.Family.new.Goals as goal

pub invariant_of-result : goal.invariant_of-result
invariant_of-result g c =
    let len : length c.in_ok-counts.counts.items ≡ g.row.K = search rules in
    let numbers : c.in-Some.numbers ≡ c.args.nodes * g.row.K = search rules in
    let small : c.args.nodes * g.row.K < 2 ^ 64 = search rules in
    new_family c.in_ok-linked.linked len c.in_ok-starts.ensures c.index.ensures c.in_ok-linked.ensures.lists
    c.args.nodes (c.in_ok-linked.ensures.nodes ∙ numbers) small

pub returns-clause-lists : goal.returns-clause-lists
returns-clause-lists g c =
    let len : length c.in_ok-counts.counts.items ≡ g.row.K = search rules in
    new_families c.in_ok-linked.linked len c.in_ok-starts.ensures c.index.ensures c.in_ok-linked.ensures.lists
    ∙ ap (map (λ m. replicate m [])) c.in_ok-counts.ensures.items
