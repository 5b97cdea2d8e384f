use Rattle.std.proofs.Common.{rules, ◌∙◌, ◌≡◌, Some, None}
use Rattle.idx_links.proofs.FamilyCalls.{index_owes, front_tells}
use Rattle.idx_links.proofs.family.Family.front.Goals as goal

pub overflow_add-index : goal.overflow_add-index
overflow_add-index g c = (let owes = index_owes c.self.invariant c.self.view_is c.requires.family c.requires.list
    c.index.ensures in let fits = owes.1 in search rules)

pub front-requires : goal.front-requires
front-requires g c = (index_owes c.self.invariant c.self.view_is c.requires.family c.requires.list c.index.ensures).0

pub returns-in_err-first : goal.returns-in_err-first
returns-in_err-first g c =
    let none : c.front.result ≡ None = search rules in
    let answer : c.from_residual.result ≡ None = search rules in
    answer ∙ rw none at (front_tells c.self.invariant c.self.view_is c.requires.family c.requires.list c.index.ensures
    c.front.ensures)

pub returns : goal.returns
returns g c = (let some : c.front.result ≡ Some c.in_ok-first.first = search rules in
    rw some at (front_tells c.self.invariant c.self.view_is c.requires.family c.requires.list c.index.ensures
    c.front.ensures))
