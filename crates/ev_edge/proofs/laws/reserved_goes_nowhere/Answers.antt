use Rattle.ev_edge.proofs.Frames.{reserved_frame}
use Rattle.ev_edge.proofs.laws.reserved_goes_nowhere.Goals as goal

pub returns : goal.returns
returns c = reserved_frame c.args.before.now c.args.port c.args.octets.now c.args.answer.now c.args.after.now
    c.requires.reserved c.requires.step
