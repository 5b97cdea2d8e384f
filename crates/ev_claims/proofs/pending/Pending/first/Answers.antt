use Rattle.std.proofs.Common.{List, length, sym, ap, ◌∙◌, arith}
use Rattle.std.specs.Prelude.{slice_get}
use Rattle.route_wire.specs.declared.update.Register.{Register}
use Rattle.ev_claims.specs.Inner.Pending.{Pending, no_register, queue, register_at}
use Rattle.idx_links.proofs.Paths.{has-at}
use Rattle.ev_claims.proofs.Queue.{front_map}
use Rattle.ev_claims.proofs.pending.Pending.first.Goals as goal

pub returns-in_default-get : goal.returns-in_default-get
returns-in_default-get c =
    absurd (omega (
      arith,
      c.self.invariant.within c.in-Some.node (has-at (queue c.self.inside.links) 0 c.in-Some.node
          (sym c.in-Some.ensures)),
      c.in_default-get.ensures.lookup.3,
      ap length c.deref.ensures.value,
    ))

pub returns : goal.returns
returns c =
    let node = c.in-Some.node in
    (rw (c.register.ensures ∙ c.in-Some-get.ensures.lookup.3.1 no_register
    ∙ ap (λ (xs : List Register). register_at xs node) c.deref.ensures.value))
    ∙ sym (front_map c.self.inside.registers.items (queue c.self.inside.links) node (sym c.in-Some.ensures))
    ∙ ap (λ (p : Pending). slice_get p.waiting 0) c.self.view_is
