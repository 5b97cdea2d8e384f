use Rattle.ev_sites.proofs.Back.{never_back}
use Rattle.ev_sites.proofs.laws.never_back_to_its_bridge.Goals as goal

pub returns : goal.returns
returns c =
    λ net is rest o y w ports leaves arrives segment apart way. never_back c.no_circle.ensures net is rest o y w ports
    leaves arrives segment apart way
