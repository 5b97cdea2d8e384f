use Rattle.ev_sites.proofs.Traffic.{in_traffic}
use Rattle.ev_sites.proofs.witnesses.fabric_moves_in_traffic.Goals as goal

pub returns : goal.returns
returns c = in_traffic c.settled_by_lists.ensures c.runs_happen.ensures c.starts.ensures c.every_run.ensures
    c.station_agrees.ensures.soon c.station_agrees_after_a_move.ensures.four c.station_agrees_after_a_move.ensures.two
    c.station_moves_anyhow.ensures c.taken_stays.ensures c.frames_meanwhile.ensures
