use Rattle.ev_run.proofs.Binding.{attached_local, attached_remote}
use Rattle.ev_run.proofs.sockets.cable_of.Goals as goal

pub returns-in-Some-clause-local : goal.returns-in-Some-clause-local
returns-in-Some-clause-local g c =
    attached_local c.args.link c.args.taps.now.found.items c.args.taps.now.others c.in-Some.name
    c.in-Some.is c.attach.result c.attach.ensures

pub returns-in-Some-clause-remote : goal.returns-in-Some-clause-remote
returns-in-Some-clause-remote g c =
    attached_remote c.args.link c.args.taps.now.found.items c.args.taps.now.others c.in-Some.name
    c.in-Some.is c.attach.result c.attach.ensures
