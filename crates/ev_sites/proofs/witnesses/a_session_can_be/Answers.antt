use Rattle.ev_sites.proofs.Returned.{session_of_a_fabric}
use Rattle.ev_sites.proofs.witnesses.a_session_can_be.Goals as goal

pub returns : goal.returns
returns c = session_of_a_fabric c.settled_by_lists.ensures c.runs_happen.ensures c.starts.ensures c.every_run.ensures
    c.sessions_agree.ensures.two c.sessions_agree.ensures.all c.begun_anew.ensures
