use Rattle.std.proofs.Common.{rules, ◌∙◌, ◌≡◌, Some, None}
use Rattle.idx_links.proofs.FamilyCalls.{linked_number, next_tells}
use Rattle.idx_links.proofs.family.Family.next.Goals as goal

pub next-requires-clause-linked : goal.next-requires-clause-linked
next-requires-clause-linked g c = linked_number c.self.invariant c.self.view_is c.requires.family c.args.node
    c.requires.linked

pub returns-in_err-next : goal.returns-in_err-next
returns-in_err-next g c l i on =
    let none : c.next.result ≡ None = search rules in
    let answer : c.from_residual.result ≡ None = search rules in
    answer ∙ rw none at (next_tells c.self.invariant c.self.view_is c.requires.family c.args.node c.next.ensures l i on)

pub returns : goal.returns
returns g c l i on = (let some : c.next.result ≡ Some c.in_ok-next.next = search rules in
    rw some at (next_tells c.self.invariant c.self.view_is c.requires.family c.args.node c.next.ensures l i on))
