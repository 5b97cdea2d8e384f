use Rattle.ev_config.proofs.config.served_edges_of.Goals as goal

pub returns-in-Ok : goal.returns-in-Ok
returns-in-Ok c = (c.in-Ok.served.control, c.in-Ok.served.idle, c.in-Ok.served.hold, c.in-Ok.ensures.value)
