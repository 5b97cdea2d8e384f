use Rattle.std.proofs.Common.{rules, ◌≡◌, [], ◌∷◌, ◌++◌, ◌∙◌, ap, length, reverse}
use Rattle.std.proofs.lemmas.List.{reverse-append}
use Rattle.ev_peers.proofs.Plans.{take_all}
use Rattle.ev_peers.proofs.plan.with_tunnel.Goals as goal

pub returns-clause-items : goal.returns-clause-items
returns-clause-items g c =
    let pushed : c.as_mut_slice.result.now ≡ c.args.outputs.items ++ c.args.tunnel ∷ [] = search rules in
    let len : length c.reverse.new.self ≡ c.push_reserved.new.self.len = search rules in
    take_all c.push_reserved.new.self.len c.reverse.new.self _ len
    ∙ (c.reverse.ensures.after ∙ (ap reverse pushed ∙ reverse-append c.args.outputs.items (c.args.tunnel ∷ [])))
