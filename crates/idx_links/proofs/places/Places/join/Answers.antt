use Rattle.std.proofs.Common.{refl, ap, ◌∙◌, set, take}
use Rattle.idx_links.specs.Inner.Columns.{owners}
use Rattle.idx_links.proofs.Columns.{first_seen, second_seen, none_seen}
use Rattle.idx_links.proofs.places.Places.join.Goals as goal

pub returns-clause-next : goal.returns-clause-next
returns-clause-next c = first_seen (λ x. x.next) c.self.inside.links.items c.args.before c.args.behind _ _
    c.index_mut.ensures.value refl ∙ ap (λ v. set v.next c.args.before c.args.behind) c.self.view_is

pub returns-clause-prev : goal.returns-clause-prev
returns-clause-prev c = second_seen (λ x. x.prev) c.self.inside.links.items c.args.before c.args.behind _ _
    c.index_mut-link.ensures.value refl ∙ ap (λ v. set v.prev c.args.behind c.args.before) c.self.view_is

pub returns-clause-owner : goal.returns-clause-owner
returns-clause-owner c = ap (owners c.self.inside.lists)
    (none_seen (λ x. x.mark) c.self.inside.links.items c.args.before c.args.behind _ _ c.index_mut-link.ensures.value
    refl c.index_mut.ensures.value refl) ∙ ap (λ v. v.owner) c.self.view_is

pub returns-clause-lens : goal.returns-clause-lens
returns-clause-lens c = ap (take c.self.inside.lists)
    (none_seen (λ x. x.mark) c.self.inside.links.items c.args.before c.args.behind _ _ c.index_mut-link.ensures.value
    refl c.index_mut.ensures.value refl) ∙ ap (λ v. v.lens) c.self.view_is
