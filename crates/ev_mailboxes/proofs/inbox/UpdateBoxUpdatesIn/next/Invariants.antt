use Rattle.std.proofs.Common.{◌≡◌}
use Rattle.ev_mailboxes.specs.Ends.{received_by}
use Rattle.ev_mailboxes.proofs.inbox.UpdateBoxUpdatesIn.next.Given as goal

-- no letter came yet
abbrev pub invariant-loop : goal.invariant-loop
invariant-loop g l = received_by l.self.inbox ≡ received_by l.fn.self.inbox
