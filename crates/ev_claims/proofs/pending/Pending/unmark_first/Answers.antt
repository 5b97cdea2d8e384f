use Rattle.std.proofs.Common.{sym, ap, ◌∙◌, map, arith, lit<}
use Rattle.std.specs.Prelude.{drop}
use Rattle.ev_claims.specs.Inner.Pending.{Pending, queue, register_at}
use Rattle.idx_links.proofs.Paths.{has-at}
use Rattle.ev_claims.proofs.Queue.{now_queue, unlinked, front_out, drop_map, left_pending}
use Rattle.ev_claims.proofs.pending.Pending.unmark_first.Goals as goal

pub invariant_of-self : goal.invariant_of-self
invariant_of-self c = left_pending c.self.invariant c.in-Some.node c.unlink.ensures.nodes
    (unlinked c.self.inside.links c.unlink.new.self c.in-Some.node c.self.invariant.one c.unlink.ensures.families)

pub returns : goal.returns
returns c =
    let f = c.self.inside in
    let rs = f.registers.items in
    let waiting = ap (map (register_at rs)) (now_queue c.unlink.new.self (unlinked f.links c.unlink.new.self
    c.in-Some.node c.self.invariant.one c.unlink.ensures.families)
    ∙ front_out (queue f.links) c.in-Some.node (sym c.in-Some.ensures)) ∙ drop_map rs (queue f.links) in
    (λ i. (record { known = rs; waiting = waiting i }))
    ∙ ap (λ (p : Pending). (record { known = p.known; waiting = drop 1 p.waiting })) c.self.view_is

pub unlink-requires : goal.unlink-requires
unlink-requires c =
    let p = c.self.invariant in
    let on = has-at (queue c.self.inside.links) 0 c.in-Some.node (sym c.in-Some.ensures) in
    (lit< tt, (lit< tt, (omega (arith, p.within c.in-Some.node on, p.fits, p.counted), (0, on))))
