use Rattle.std.proofs.Common.{refl, ap, ◌∙◌, ◌-◌, None, set, get_or}
use Rattle.idx_links.proofs.Columns.{both_places, owners_changed, lens_changed, none_seen}
use Rattle.idx_links.proofs.places.Places.leave.Goals as goal

pub returns-clause-next : goal.returns-clause-next
returns-clause-next c = none_seen (λ x. x.next) c.self.inside.links.items c.args.place c.args.list _ _
    c.index_mut.ensures.value refl c.index_mut-2.ensures.value refl ∙ ap (λ v. v.next) c.self.view_is

pub returns-clause-prev : goal.returns-clause-prev
returns-clause-prev c = none_seen (λ x. x.prev) c.self.inside.links.items c.args.place c.args.list _ _
    c.index_mut.ensures.value refl c.index_mut-2.ensures.value refl ∙ ap (λ v. v.prev) c.self.view_is

pub returns-clause-owner : goal.returns-clause-owner
returns-clause-owner c =
    let at = both_places (λ x. x.mark) c.self.inside.lists c.self.inside.links.items c.self.invariant
    (ap (λ v. v.lens) c.self.view_is) c.requires.list c.requires.node in
    owners_changed (λ x. x.mark) c.self.inside.links.items c.self.inside.lists c.args.place c.args.list _ _ at.0 at.1
    ∙ ap (λ v. set v.owner c.args.place None) c.self.view_is

pub returns-clause-lens : goal.returns-clause-lens
returns-clause-lens c =
    let at = both_places (λ x. x.mark) c.self.inside.lists c.self.inside.links.items c.self.invariant
    (ap (λ v. v.lens) c.self.view_is) c.requires.list c.requires.node in
    lens_changed (λ x. x.mark) c.self.inside.links.items c.self.inside.lists c.args.place c.args.list _ _ at.0 at.1
    (λ k. k - 1) c.index_mut-2.ensures.value refl at.2
    ∙ ap (λ v. set v.lens c.args.list (get_or v.lens c.args.list 0 - 1)) c.self.view_is
