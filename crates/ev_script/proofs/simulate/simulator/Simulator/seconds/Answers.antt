use Rattle.ev_script.proofs.Playings.{no_seconds, second_more}
use Rattle.ev_script.proofs.simulate.simulator.Simulator.seconds.Goals as goal

pub loop-turn-init : goal.loop-turn-init
loop-turn-init g c = no_seconds c.args.self.now c.args.edge (g.W.Out.end c.args.out.now)

pub loop-turn-preserved : goal.loop-turn-preserved
loop-turn-preserved g c = second_more c.args.self.now c.loop-turn.self c.second.new.self c.args.edge c.loop-turn.turn
    (g.W.Out.end c.args.out.now) (g.W.Out.end c.loop-turn.out) (g.W.Out.end c.second.new.out) c.loop-turn.invariant
    c.second.ensures
