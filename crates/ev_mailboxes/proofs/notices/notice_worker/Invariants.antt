use Rattle.ev_mailboxes.proofs.Tellings.{SoFar}
use Rattle.ev_mailboxes.proofs.notices.notice_worker.Given as goal

-- the lines of all news up to here were written
abbrev pub invariant-loop : goal.invariant-loop
invariant-loop g l = SoFar (g.A.NoticesIn.came l.initial.notices) (g.N.Out.end l.initial.notes)
    (g.A.NoticesIn.came l.notices) (g.N.Out.end l.notes)
