use Rattle.ev_sites.proofs.Stale.{advert_stays}
use Rattle.ev_sites.proofs.witnesses.an_advert_can_stay.Goals as goal

pub returns : goal.returns
returns c = advert_stays c.settled_by_lists.ensures c.runs_happen.ensures c.starts.ensures c.every_run.ensures
    c.sessions_agree.ensures.two
