use Rattle.std.proofs.Common.{rules, ◌≡◌, Bool, is_some, subst}
use Rattle.ev_report.specs.Ends.{devices}
use Rattle.ev_run.specs.Needs.{threads_of}
use Rattle.ev_run.specs.ThreadCheck.{IsTooFew}
use Rattle.ev_run.proofs.Running.{runs_short}
use Rattle.ev_run.proofs.run.run_asked.Goals as goal

pub returns-in-None : goal.returns-in-None
returns-in-None g c =
    let config = c.args.config in
    let is_asked = is_some c.args.host.now.service in
    let lack = c.in-Err-check_threads.lack in
    let asked : c.is_some.result ≡ is_asked = search rules in
    let few = subst (λ (b : Bool). IsTooFew (threads_of b config.edges.items) lack) asked
    c.in-Err-check_threads.ensures in
    runs_short is_asked c.args.policy config lack (g.E.In.end c.args.reader.now)
    (g.W.Out.end c.args.out.now) (g.N.Out.end c.args.notes.now) (g.N.Out.end c.stopped_by.new.notes)
    (devices (g.E.In.end c.begin-in-None.new.reader) (g.W.Out.end c.begin-in-None.new.out)
    (g.N.Out.end c.begin-in-None.new.notes))
    c.begin-in-None.result few c.in-None.ensures c.begin-in-None.ensures
