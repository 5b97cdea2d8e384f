use Rattle.std.proofs.Common.{◌+◌, ◌-◌, ◌≤◌, ◌∙◌, ap, arith, length, drop}
use Rattle.std.proofs.lemmas.List.{length-drop, length-take-le}
use Rattle.ev_links.proofs.Backlogs.{window_left}
use Rattle.ev_links.proofs.backlog.Backlog.take.Goals as goal

pub returns-else-next-self-clause-rest : goal.returns-else-next-self-clause-rest
returns-else-next-self-clause-rest c =
    let it = c.self.inside in
    let order = c.self.invariant.0.0 in
    let within = c.self.invariant.0.1 in
    let behind = length-drop it.start it.octets.items in
    let wait = length-take-le (it.end - it.start) (drop it.start it.octets.items) (omega (arith, behind, within)) in
    let seen = ap length c.self.view_is in
    let asked = c.requires.within in
    let before : it.start + c.args.size ≤ it.end = omega (arith, wait, seen, asked, order) in
    window_left it.start it.end c.args.size it.octets.items before ∙ ap (drop c.args.size) c.self.view_is
