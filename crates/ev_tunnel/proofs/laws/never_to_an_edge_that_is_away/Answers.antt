use Rattle.ev_tunnel.proofs.DecisionLemmas.{remote_is_up}
use Rattle.ev_tunnel.proofs.laws.never_to_an_edge_that_is_away.Goals as goal

pub returns : goal.returns
returns c = λ o there. remote_is_up c.args.frame.away.now.items c.args.frame.table.now c.args.frame.vni
    c.args.frame.destination c.args.frame.learnt c.args.frame.own c.args.frame.from o there
