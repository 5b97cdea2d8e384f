use Rattle.std.proofs.Common.{◌∙◌, ◌++◌, ◌∷◌, []}
use Rattle.std.proofs.lemmas.List.{length-set}
use Rattle.idx_links.specs.Links.{list_at}
use Rattle.idx_links.specs.Families.{lists_of}
use Rattle.idx_links.proofs.FamilyCalls.{lengths_kept}
use Rattle.idx_links.proofs.tests.Lists.push_back.Goals as goal

pub invariant_of-self : goal.invariant_of-self
invariant_of-self c =
    let old = c.args.self.now in
    let lists = lists_of old.links c.args.family in
    record {
      sized = λ k h. lengths_kept old.links c.push_back.new.self c.args.family _ c.push_back.ensures.families
          (length-set lists c.args.list (list_at lists c.args.list ++ c.args.node ∷ [])) k ∙ old.sized k h;
      counted = c.push_back.ensures.nodes ∙ old.counted;
    }
