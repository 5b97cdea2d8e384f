use Rattle.std.proofs.Common.{None, get_or, ap, sym, ◌∙◌}
use Rattle.idx_links.specs.Inner.Columns.{list_named}
use Rattle.idx_links.proofs.Columns.{marked_named, owner_at}
use Rattle.idx_links.proofs.places.Places.owner.Goals as goal

pub returns-then-mark-eq0 : goal.returns-then-mark-eq0
returns-then-mark-eq0 c = ap list_named (sym c.if-mark-eq0.true)
    ∙ owner_at (λ x. x.mark) (λ x. x.next) c.self.inside.lists c.self.inside.links.items c.self.invariant
    (ap (λ v. v.next) c.self.view_is) (ap (λ v. v.lens) c.self.view_is) c.requires.node c.requires.place c.index.ensures
    ∙ ap (λ v. get_or v.owner c.args.place None) c.self.view_is

pub returns : goal.returns
returns c = sym (marked_named c.index.result.now.mark c.if-mark-eq0.false)
    ∙ owner_at (λ x. x.mark) (λ x. x.next) c.self.inside.lists c.self.inside.links.items c.self.invariant
    (ap (λ v. v.next) c.self.view_is) (ap (λ v. v.lens) c.self.view_is) c.requires.node c.requires.place c.index.ensures
    ∙ ap (λ v. get_or v.owner c.args.place None) c.self.view_is
