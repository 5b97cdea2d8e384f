use Rattle.std.proofs.Common.{◌≡◌, sym, ap, ◌∙◌, map, length, arith, lit<}
use Rattle.std.proofs.lemmas.Bool.{cond-true}
use Rattle.std.proofs.lemmas.Option.{slice_get_within}
use Rattle.idx_links.specs.Families.{lists_of}
use Rattle.ev_claims.specs.Pending.{marked}
use Rattle.ev_claims.specs.Inner.Pending.{Pending, queue, register_at}
use Rattle.ev_claims.proofs.Queue.{pushed, now_queue, waits, on_queue, off_lists, marked_is, marked_pending, not_known}
use Rattle.ev_claims.proofs.pending.Pending.mark.Goals as goal

pub invariant_of-self : goal.invariant_of-self
invariant_of-self c = marked_pending c.self.invariant c.args.register
    ((rw c.new.ensures) ∙ sym c.in-Some.ensures.value)
    c.push_back.ensures.nodes (pushed c.self.inside.links c.push_back.new.self c.in-Some.node.now c.self.invariant.one
    c.push_back.ensures.families)

pub returns-then-is_none : goal.returns-then-is_none
returns-then-is_none c =
    let f = c.self.inside in
    let node = c.in-Some.node.now in
    let waiting = marked_is c.self.invariant c.args.register ((rw c.new.ensures)
    ∙ sym c.in-Some.ensures.value) (off_lists f.links node c.list_of.result (c.is_none.ensures
    ∙ rw c.if-is_none.true) c.list_of.ensures.off 0) (now_queue c.push_back.new.self
    (pushed f.links c.push_back.new.self node c.self.invariant.one c.push_back.ensures.families)) in
    (λ i. (record { known = f.registers.items; waiting = waiting i }))
    ∙ ap (λ (p : Pending). (record {
      known = p.known;
      waiting = marked p.waiting c.args.register;
    })) c.self.view_is

pub returns-else-is_none : goal.returns-else-is_none
returns-else-is_none c =
    let f = c.self.inside in
    let rs = f.registers.items in
    let waiting = sym (cond-true _ (map (register_at rs) (queue f.links)) _
    (waits c.self.invariant c.args.register ((rw c.new.ensures)
    ∙ sym c.in-Some.ensures.value) ∙ (on_queue f.links c.in-Some.node.now c.list_of.result
    (rw c.self.invariant.one) (c.is_none.ensures ∙ rw c.if-is_none.false) c.list_of.ensures.on
    c.list_of.ensures.within))) in
    (λ i. (record { known = rs; waiting = waiting i }))
    ∙ ap (λ (p : Pending). (record {
      known = p.known;
      waiting = marked p.waiting c.args.register;
    })) c.self.view_is

pub returns-in_default : goal.returns-in_default
returns-in_default c = absurd (not_known c.self.invariant c.args.register
    ((rw c.new.ensures) ∙ sym c.in_default.ensures.value)
    (rw (← c.self.view_is) at c.requires))

pub list_of-requires : goal.list_of-requires
list_of-requires c =
    let p = c.self.invariant in (
      lit< tt,
      (
        lit< tt,
        omega (
          arith,
          (slice_get_within c.self.inside.registers.items c.in-Some.node.now
              c.args.register (p.back c.args.register _ ((rw c.new.ensures)
              ∙ sym c.in-Some.ensures.value))),
          p.fits,
          p.counted,
        ),
      ),
    )

pub push_back-requires : goal.push_back-requires
push_back-requires c =
    let f = c.self.inside in
    let p = c.self.invariant in
    let list : length (lists_of f.links 0) ≡ 1 = rw p.one in (
      lit< tt,
      (
        lit< tt,
        (
          omega (arith, list),
          (
            omega (
              arith,
              (slice_get_within f.registers.items c.in-Some.node.now c.args.register
                  (p.back c.args.register _ ((rw c.new.ensures)
                  ∙ sym c.in-Some.ensures.value))),
              p.fits,
              p.counted,
            ),
            off_lists f.links c.in-Some.node.now
                c.list_of.result (c.is_none.ensures ∙ rw c.if-is_none.true) c.list_of.ensures.off,
          ),
        ),
      ),
    )
