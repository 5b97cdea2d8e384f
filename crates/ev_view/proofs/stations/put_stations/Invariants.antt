use Rattle.std.proofs.Common.{◌≡◌}
use Rattle.ether_wire.specs.Ends.{with_text}
use Rattle.ev_view.specs.Stations.{station_lines, stations_text}
use Rattle.ev_view.proofs.stations.put_stations.Given as goal

-- the rest completes the text written so far to the whole text
abbrev pub invariant-loop-update : goal.invariant-loop-update
invariant-loop-update g l = record {
  whole : with_text (g.W.Out.end l.initial.out) (stations_text l.number l.edge l.vni)
      ≡ with_text (g.W.Out.end l.out) (station_lines l.number l.edge l.vni l.update-iterator);
  failed : (g.W.Out.end l.out).failures ≡ (g.W.Out.end l.initial.out).failures;
}
