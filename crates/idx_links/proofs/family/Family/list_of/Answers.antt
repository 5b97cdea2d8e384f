use Rattle.std.proofs.Common.{rules, ◌≡◌, None}
use Rattle.idx_links.proofs.FamilyCalls.{list_of_tells, off_tells}
use Rattle.idx_links.proofs.family.Family.list_of.Goals as goal

pub returns-in_err-list-clause-off : goal.returns-in_err-list-clause-off
returns-in_err-list-clause-off g c = (let answer : c.from_residual.result ≡ None = search rules in
    rw answer (off_tells c.self.invariant c.self.view_is c.requires.family c.args.node c.in_err-list.ensures.off))

pub overflow_sub-result : goal.overflow_sub-result
overflow_sub-result g c = (list_of_tells c.self.invariant c.self.view_is c.requires.family c.args.node
    c.in_ok-list.list c.index.ensures c.in_ok-list.ensures.on c.in_ok-list.ensures.only).0

pub returns-clause-on : goal.returns-clause-on
returns-clause-on g c = (list_of_tells c.self.invariant c.self.view_is c.requires.family c.args.node
    c.in_ok-list.list c.index.ensures c.in_ok-list.ensures.on c.in_ok-list.ensures.only).1

pub returns-clause-only : goal.returns-clause-only
returns-clause-only g c = (list_of_tells c.self.invariant c.self.view_is c.requires.family c.args.node
    c.in_ok-list.list c.index.ensures c.in_ok-list.ensures.on c.in_ok-list.ensures.only).2

pub returns-clause-within : goal.returns-clause-within
returns-clause-within g c = (list_of_tells c.self.invariant c.self.view_is c.requires.family c.args.node
    c.in_ok-list.list c.index.ensures c.in_ok-list.ensures.on c.in_ok-list.ensures.only).3
