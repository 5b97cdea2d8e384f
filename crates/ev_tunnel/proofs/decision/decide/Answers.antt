use Rattle.std.proofs.Common.{◌∙◌}
use Rattle.ev_tunnel.proofs.DecisionLemmas.{local_nobody, remote_nobody}
use Rattle.ev_tunnel.proofs.decision.decide.Goals as goal

pub returns-clause-local : goal.returns-clause-local
returns-clause-local c = c.decide_into.ensures.local
    ∙ local_nobody c.new-nobody.result.items c.args.table.now c.args.vni c.args.destination c.args.entry c.args.own
    c.args.from c.args.members c.args.passing c.new-nobody.ensures

pub returns-clause-remote : goal.returns-clause-remote
returns-clause-remote c = c.decide_into.ensures.remote
    ∙ remote_nobody c.new-nobody.result.items c.args.table.now c.args.vni c.args.destination c.args.entry c.args.own
    c.args.from c.new-nobody.ensures
