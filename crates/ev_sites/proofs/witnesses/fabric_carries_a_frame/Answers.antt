use Rattle.std.proofs.Common.{refl, arith, lit<}
use Rattle.ev_tunnel.specs.Datagram.{datagram_of}
use Rattle.ev_edge.specs.declared.event.Event.TheVariants as events
use Rattle.ev_sites.proofs.Guest.{guest, there}
use Rattle.ev_sites.proofs.Telling.{lent}
use Rattle.ev_sites.proofs.Agreed.{agreed, agreed_run, agrees, first_edge, second_edge, advertised, letter, is_frame}
use Rattle.ev_sites.proofs.Agreed.{given, goes, answered, comes, carried, given_out, port_passes}
use Rattle.ev_sites.proofs.witnesses.fabric_carries_a_frame.Goals as goal

pub returns : goal.returns
returns c =
    let lists = c.settled_by_lists.ensures in
    let happens = c.runs_happen.ensures in
    let x = carried lists happens c.starts.ensures c.every_run.ensures c.from_port_to_port.ensures in
    record {
      fabric = agreed;
      has_run = agreed_run lists happens;
      agree = agrees;
      station = guest;
      network = lit< tt;
      place_out = 0;
      place_in = 1;
      apart = λ e. omega (arith, e);
      edge_out = first_edge;
      edge_in = second_edge;
      at_out = refl;
      at_in = refl;
      advertises = advertised;
      event = events.Frame 1 (lent letter);
      port = 1;
      frame = is_frame lists happens;
      reply = given;
      after_in = second_edge;
      steps_in = goes lists happens;
      goes = x.0;
      entering = events.TunnelFrame there (lent (datagram_of 5001 letter));
      datagram = refl;
      answer = answered;
      after_out = first_edge;
      steps_out = comes lists happens;
      entry = x.1.entry;
      behind = x.1.behind;
      passes = port_passes lists happens x.1.entry x.1.behind.learnt;
      given = given_out lists happens x.1;
    }
