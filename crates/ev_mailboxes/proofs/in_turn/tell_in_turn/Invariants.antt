use Rattle.std.proofs.Common.{◌≡◌, take}
use Rattle.ether_wire.specs.Ends.{with_text}
use Rattle.ev_mailboxes.specs.InTurn.{after_signs}
use Rattle.ev_mailboxes.proofs.in_turn.tell_in_turn.Given as goal

-- board and text after all signs up to here
abbrev pub invariant-loop-sign : goal.invariant-loop-sign
invariant-loop-sign g l = record {
  board : l.board ≡ (after_signs l.edge (take l.sign-index l.signs)).board;
  text : g.N.Out.end l.notes
      ≡ with_text (g.N.Out.end l.initial.notes) (after_signs l.edge (take l.sign-index l.signs)).text;
}
