use Rattle.ev_edge.proofs.Frames.{reserved_datagram}
use Rattle.ev_edge.proofs.laws.reserved_in_tunnel_goes_nowhere.Goals as goal

pub returns : goal.returns
returns c = reserved_datagram c.args.before.now c.args.from c.args.octets.now c.args.answer.now c.args.after.now
    c.requires.reserved c.requires.step
