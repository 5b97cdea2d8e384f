use Rattle.std.proofs.Common.{◌<◌, length, ap, refl, ◌∙◌, arith}
use Rattle.route_wire.specs.Fields.{Fields}
use Rattle.route_join.proofs.Edits.{found_at, gap_at}
use Rattle.route_join.proofs.Leaders.{among_there, among_none}
use Rattle.route_join.proofs.small_group.SmallGroup.register.Goals as goal

pub index-requires : goal.index-requires
index-requires c =
    let p = found_at c.deref.ensures.value refl c.in-Ok.ensures in
    let w : c.in-Ok.at < length c.self.inside.updates.items = p.within in
    omega (arith, c.deref.ensures.len, ap length c.deref.ensures.value)

pub about-requires : goal.about-requires
about-requires c =
    let p = found_at c.deref.ensures.value refl c.in-Ok.ensures in
    rw (c.subject_of.ensures, ap (λ (x : Fields). x.register) c.index.ensures ∙ p.register c.index.result.now)

pub returns-in-Ok : goal.returns-in-Ok
returns-in-Ok c = rw (c.about.ensures, ← c.self.view_is) (among_there c.self.inside.updates.items c.args.register.now
    c.in-Ok.at c.index.result.now (found_at c.deref.ensures.value refl c.in-Ok.ensures) c.index.ensures)

pub returns-in-Err : goal.returns-in-Err
returns-in-Err c = rw (← c.self.view_is) (among_none c.self.inside.updates.items c.args.register.now
    c.in-Err.field-0 (gap_at c.self.invariant.ordered c.deref.ensures.value refl c.in-Err.ensures))
