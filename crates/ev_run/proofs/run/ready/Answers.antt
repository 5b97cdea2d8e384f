use Rattle.ev_run.proofs.Running.{to_remotes}
use Rattle.ev_run.proofs.run.ready.Goals as goal

pub returns-clause-sends : goal.returns-clause-sends
returns-clause-sends g c = to_remotes c.args.config c.in_ok-links_of.field-0.ports.items c.args.sockets.now.ports.items
    c.new.result c.new.ensures c.in_ok-links_of.ensures.ports
