use Rattle.std.proofs.Common.{◌≡◌, ◌-◌, [], length}
use Rattle.ether_wire.specs.Ends.{with_text}
use Rattle.route_join.specs.Updates.{updates_of}
use Rattle.ev_view.specs.Owners.{ranked, offer_lines}
use Rattle.ev_view.proofs.owner.put_offers.Given as goal

-- the text written so far and the rest together are the whole text
abbrev pub invariant-loop-turn : goal.invariant-loop-turn
invariant-loop-turn g l = record {
  whole : with_text (g.W.Out.end l.initial.out)
      (offer_lines l.number (ranked 64 [] (updates_of l.table l.vni l.mac)))
      ≡ with_text (g.W.Out.end l.out)
      (offer_lines l.number (ranked (64 - l.turn) l.told.items (updates_of l.table l.vni l.mac)));
  failed : (g.W.Out.end l.out).failures ≡ (g.W.Out.end l.initial.out).failures;
  many : length l.told.items ≡ l.turn;
}
