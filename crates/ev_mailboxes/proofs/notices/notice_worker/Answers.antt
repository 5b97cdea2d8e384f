use Rattle.ev_mailboxes.proofs.Tellings.{goes_on, fails}
use Rattle.ev_mailboxes.proofs.notices.notice_worker.Goals as goal

pub loop-preserved : goal.loop-preserved
loop-preserved g c =
    goes_on (g.A.NoticesIn.came c.args.notices.now) (g.N.Out.end c.args.notes.now) (g.A.NoticesIn.came c.loop.notices)
    (g.N.Out.end c.loop.notes) (g.A.NoticesIn.came c.next-in-loop.new.self) (g.N.Out.end c.put_news.new.notes)
    c.loop.invariant (c.in-Some-next.edge, c.in-Some-next.news) c.in-Ok.field-0 c.in-Some-next.ensures
    c.in-Ok.ensures

pub returns-in-Err : goal.returns-in-Err
returns-in-Err g c =
    fails (g.A.NoticesIn.came c.args.notices.now) (g.N.Out.end c.args.notes.now) (g.A.NoticesIn.came c.loop.notices)
    (g.N.Out.end c.loop.notes) (g.A.NoticesIn.came c.next-in-loop.new.self) (g.N.Out.end c.put_news.new.notes)
    c.loop.invariant (c.in-Some-next.edge, c.in-Some-next.news) c.in-Err.device c.in-Some-next.ensures
    c.in-Err.ensures
