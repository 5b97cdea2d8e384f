use Rattle.std.proofs.Common.{false, ◌≡◌, take}
use Rattle.ev_exchange.specs.Sending.{HasSaid, own_of}
use Rattle.ev_exchange.proofs.sender.Sender.originate.Given as goal

-- the own updates among the first ones were sent; if a call had failed before, nothing changes
abbrev pub invariant-loop-update : goal.invariant-loop-update
invariant-loop-update g l = record {
  shut : l.initial.self.is_open ≡ false → l.self ≡ l.initial.self;
  said : HasSaid l.initial.self l.self (own_of l.originator (take l.update-index l.updates));
}
