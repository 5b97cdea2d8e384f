use Rattle.ev_sites.proofs.After.{after_losses}
use Rattle.ev_sites.proofs.bridges.no_circle_after_losses.Goals as goal

pub returns : goal.returns
returns c = λ rest now is at_rest later x ports way.
    c.no_circle_while_kept.ensures rest now is at_rest (after_losses at_rest later) x ports way
