use Rattle.std.proofs.Common.{List, ℕ, Ok, Err, subst}
use Rattle.ev_script.specs.Simulation.{PlaysRead}
use Rattle.ev_script.proofs.Simulating.{plays_read_error}
use Rattle.ev_script.proofs.simulate.simulate_run.Goals as goal

pub returns-in-Ok : goal.returns-in-Ok
returns-in-Ok g c = record {
  script = Ok c.in-Ok.script.items;
  read = c.in-Ok.ensures;
  plays = subst (λ (s : List ℕ). PlaysRead c.args.mode c.args.configs.items (Ok s) (g.W.Out.end c.args.out.now)
      (g.W.Out.end c.open_and_play.new.out) (g.N.Out.end c.args.notes.now) (g.N.Out.end c.open_and_play.new.notes)
      c.open_and_play.result)
      c.as_slice.ensures.value c.open_and_play.ensures;
}

pub returns-in-Err : goal.returns-in-Err
returns-in-Err g c = record {
  script = Err c.in-Err.read_error;
  read = c.in-Err.ensures;
  plays = plays_read_error c.args.mode c.args.configs.items c.in-Err.read_error (g.W.Out.end c.args.out.now)
      (g.N.Out.end c.args.notes.now) c.read_error_status.result c.read_error_status.ensures;
}
