use Rattle.std.proofs.Common.{◌≡◌}
use Rattle.ev_mailboxes.specs.Ends.{sent_by}
use Rattle.ev_mailboxes.specs.declared.edge_message.EdgeMessage.TheVariants.{Record}
use Rattle.ev_mailboxes.specs.declared.edge_message.Letter.TheVariants.{Of}
use Rattle.ev_mailboxes.proofs.posts.send_one.Given as goal

-- the letter wasn't sent yet
abbrev pub invariant-loop : goal.invariant-loop
invariant-loop g l = record {
  to : l.post.to ≡ l.fn.post.to;
  sent : sent_by l.post.post ≡ sent_by l.fn.post.post;
  letter : l.letter ≡ Of (Record l.update);
}
