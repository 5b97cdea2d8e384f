use Rattle.std.proofs.Common.{[], refl}
use Rattle.ev_sites.proofs.Guest.{guest, second_moved}
use Rattle.ev_sites.proofs.Agreed.{agreed, agreed_run, agrees}
use Rattle.ev_sites.proofs.Moved.{second_with, come, left, moved, move_steps, rests, beside, agree_again}
use Rattle.ev_sites.proofs.Moved.{advertised_there, first_round, second_round, comes}
use Rattle.ev_sites.proofs.witnesses.fabric_moves_a_station.Goals as goal

pub returns : goal.returns
returns c = record {
  old = agreed;
  has_run = agreed_run c.settled_by_lists.ensures c.runs_happen.ensures;
  agreed = agrees;
  station = guest;
  i = 0;
  j = 1;
  mid = come;
  comes =
      comes c.settled_by_lists.ensures c.runs_happen.ensures ((c.agrees_on.ensures.each agreed agrees).stations guest);
  steps = move_steps;
  new = moved;
  rests = rests;
  beside = beside;
  half = left;
  first_round = first_round;
  second_round = second_round;
  agree = agree_again;
  edge = second_with second_moved [];
  at = refl;
  advertises = advertised_there;
}
