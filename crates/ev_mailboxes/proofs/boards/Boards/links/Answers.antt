use Rattle.std.proofs.Common.{take, sym, ap, ◌∙◌}
use Rattle.ev_mailboxes.proofs.boards.Boards.links.Goals as goal

pub returns : goal.returns
returns c = record {
  edge = c.in_ok-of_edge.of_edge.now;
  is_there = sym c.in_ok-of_edge.ensures;
  count = c.min.result;
  are = c.split_at.ensures.front ∙ ap (λ links. take c.min.result links) c.as_slice-links.ensures.value;
}
