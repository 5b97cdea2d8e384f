use Rattle.std.proofs.Common.{rules}
use Rattle.ev_peers.proofs.answering.answer.Goals as goal

pub returns-clause-answers : goal.returns-clause-answers
returns-clause-answers g c = record {
  answer = c.fulfil-answer.result;
  before = g.O.Outlet.records c.fulfil-answer.new.worker.outlet;
  fulfils = search rules;
  told = search rules;
}
