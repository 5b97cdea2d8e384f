use Rattle.ev_run.proofs.run.tell_meanwhile.Goals as goal

pub returns : goal.returns
returns g c =
    let worker = c.notice_worker.ensures in
    record { alerts = worker.things; lines = worker.written }
