use Rattle.std.proofs.Common.{Ok, Err, refl, arith}
use Rattle.ev_fabric.proofs.Places.{at_index}
use Rattle.ev_fabric.proofs.fabric.step_edge.Goals as goal

pub returns-in-Ok : goal.returns-in-Ok
returns-in-Ok c = record {
  before = c.index_mut-edge.result.now;
  there = at_index c.args.edges.now.items c.args.e c.index_mut-edge.result.now c.index_mut-edge.result.now
      (λ zero. omega (arith, c.requires.some)) c.requires.there c.index_mut-edge.ensures.value;
  after = c.step-answer.new.self;
  answer = Ok c.in-Ok.reply;
  steps = c.in-Ok.ensures;
  result_is = refl;
  new_is = refl;
}

pub returns-in-Err : goal.returns-in-Err
returns-in-Err c = record {
  before = c.index_mut-edge.result.now;
  there = at_index c.args.edges.now.items c.args.e c.index_mut-edge.result.now c.index_mut-edge.result.now
      (λ zero. omega (arith, c.requires.some)) c.requires.there c.index_mut-edge.ensures.value;
  after = c.step-answer.new.self;
  answer = Err c.in-Err.refusal;
  steps = c.in-Err.ensures;
  result_is = refl;
  new_is = refl;
}
