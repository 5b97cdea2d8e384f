use Rattle.std.proofs.Common.{◌≡◌, List, ◌∷◌, deque_capacity, subst}
use Rattle.ev_links.specs.declared.line.Head.{Head}
use Rattle.ev_links.specs.Line.{IsLine}
use Rattle.ev_links.proofs.Lines.{line_left}
use Rattle.ev_links.proofs.line.Line.take.Goals as goal

pub invariant_of-self-2 : goal.invariant_of-self-2
invariant_of-self-2 c =
    let f = c.self.inside in
    let heads : f.heads.items ≡ c.in_ok-head.head ∷ c.pop_front-2.new.self.items = c.in_ok-head.ensures.items in
    rw (
      c.take.ensures.rest,
      c.pop_front-2.ensures.capacity,
      c.pop_front.ensures.capacity,
      c.discount.ensures.items,
    ) (line_left c.in_ok-head.head c.pop_front-2.new.self.items f.backlog _ _ f.parts.items
    (subst (λ (hs : List Head). IsLine hs f.backlog (deque_capacity f.heads) (deque_capacity f.bpdus) f.parts.items)
    heads c.self.invariant))
