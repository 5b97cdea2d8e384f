use Rattle.std.proofs.Common.{rules, ◌≡◌, ◌∙◌, ap, length, reverse}
use Rattle.ev_peers.proofs.Plans.{take_all}
use Rattle.ev_run.proofs.run.in_reverse.Goals as goal

pub returns-clause-items : goal.returns-clause-items
returns-clause-items g c =
    let len : length c.reverse.new.self ≡ c.args.values.len = search rules in
    let same : c.as_mut_slice.result.now ≡ c.args.values.items = search rules in
    take_all c.args.values.len c.reverse.new.self _ len ∙ (c.reverse.ensures.after ∙ ap reverse same)
