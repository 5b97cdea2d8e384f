use Rattle.ev_run.proofs.Serving.{tells_path}
use Rattle.ev_run.proofs.serve.tell_listen_error.Goals as goal

pub returns : goal.returns
returns g c = tells_path c.args.path.now (g.N.Out.end c.args.notes.now) (g.N.Out.end c.put_listen_error.new.notes)
    c.put_listen_error.result c.args.why c.requires c.put_listen_error.ensures
