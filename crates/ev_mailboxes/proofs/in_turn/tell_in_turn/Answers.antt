use Rattle.ev_mailboxes.proofs.InTurns.{board_more, text_more, told_all}
use Rattle.ev_mailboxes.proofs.in_turn.tell_in_turn.Goals as goal

pub loop-sign-preserved : goal.loop-sign-preserved
loop-sign-preserved g c =
    let signs = c.args.signs.now in
    let i = c.loop-sign.sign-index in
    let sign = c.sign-item.result in
    let board = c.loop-sign.board in
    record {
      board = board_more c.args.edge signs i sign c.loop-sign-test.true c.sign-item.is board c.told_by-notice.new.board
          c.loop-sign.invariant.board c.told_by-notice.ensures.after;
      text = text_more c.args.edge signs i sign c.loop-sign-test.true c.sign-item.is board
          (g.N.Out.end c.args.notes.now) (g.N.Out.end c.loop-sign.notes) (g.N.Out.end c.put_some.new.notes)
          c.told_by-notice.result c.loop-sign.invariant.board c.loop-sign.invariant.text c.told_by-notice.ensures.told
          c.in-Ok.ensures;
    }

pub returns : goal.returns
returns g c =
    told_all c.args.edge c.args.signs.now c.loop-sign.sign-index c.loop-sign.board (g.N.Out.end c.args.notes.now)
    (g.N.Out.end c.loop-sign.notes) (g.N.Out.end c.put_some-2.new.notes) c.take_last.result c.put_some-2.result
    c.loop-sign-test.false c.loop-sign.invariant.board c.loop-sign.invariant.text c.take_last.ensures.last
    c.put_some-2.ensures
