use Rattle.ev_links.proofs.Sharing.{only_a_full_part_drops}
use Rattle.ev_links.proofs.laws.only_a_full_part_drops.Goals as goal

pub returns : goal.returns
returns c = only_a_full_part_drops
