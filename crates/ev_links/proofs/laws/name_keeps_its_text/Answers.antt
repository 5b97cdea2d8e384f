use Rattle.ev_links.proofs.Names.{name_keeps_its_text}
use Rattle.ev_links.proofs.laws.name_keeps_its_text.Goals as goal

pub returns : goal.returns
returns c = name_keeps_its_text
