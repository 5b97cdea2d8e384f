use Rattle.std.proofs.Common.{◌∙◌}
use Rattle.std.proofs.lemmas.List.{length-map}
use Rattle.idx_links.specs.Links.{without}
use Rattle.idx_links.specs.Families.{lists_of}
use Rattle.idx_links.proofs.FamilyCalls.{lengths_kept}
use Rattle.idx_links.proofs.tests.Lists.unlink.Goals as goal

pub invariant_of-self : goal.invariant_of-self
invariant_of-self c =
    let old = c.args.self.now in
    record {
      sized = λ k h. lengths_kept old.links c.unlink.new.self c.args.family _ c.unlink.ensures.families
          (length-map (lists_of old.links c.args.family) (without c.args.node)) k ∙ old.sized k h;
      counted = c.unlink.ensures.nodes ∙ old.counted;
    }
