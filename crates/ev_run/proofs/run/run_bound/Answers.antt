use Rattle.std.proofs.Common.{rules, ◌≡◌, ℕ, Bool, List, length, map, is_some, sym, subst, ◌∙◌}
use Rattle.std.proofs.lemmas.List.{length-map}
use Rattle.std.specs.Bool.{OnFalse}
use Rattle.ev_run.specs.Inner.Sockets.{bound_at}
use Rattle.ev_run.specs.RunEdges.{Ended, system_text, TellsEnded}
use Rattle.ev_links.specs.declared.wire_out.WireOut.{WireOut}
use Rattle.ev_peers.specs.EdgeThreads.{EdgeSetup}
use Rattle.ev_peers.specs.History.{configs_of}
use Rattle.ev_run.proofs.AsFabric.{runs_as_fabric}
use Rattle.ev_run.proofs.Running.{are_setups}
use Rattle.ev_run.proofs.run.run_bound.Goals as goal

pub returns-clause-ran : goal.returns-clause-ran
returns-clause-ran g c =
    let named = c.in_ok-told.ensures in
    let ended = c.in_ok-told.ended in
    let is_read = c.in_ok-told.is_read in
    let setups = c.in_ok-setups.setups in
    let table = c.rows_of_drops-table.result in
    let system = system_text table.items (map bound_at c.args.sockets.now) in
    let out = g.W.Out.end c.args.out.now in
    let out' = g.W.Out.end c.tell_ended.new.out in
    let notes = g.N.Out.end c.args.notes.now in
    let notes' = g.N.Out.end c.tell_ended.new.notes in
    let is_asked = is_some c.args.host.now.service in
    let asked : c.is_some-is_asked.result ≡ is_asked = search rules in
    let many : length ended.items ≡ length setups.items = sym ended.ok.0 ∙ named.all ∙ setups.ok.0 in
    let configs : length (configs_of setups.items) ≡ length setups.items =
    length-map setups.items (λ (setup : EdgeSetup WireOut). setup.config) in
    record {
      is_read = is_read;
      read = named.read;
      incarnation = c.first_incarnation-incarnation.result;
      unasked = subst (λ (b : Bool). OnFalse b (c.first_incarnation-incarnation.result ≡ 0)) asked
          c.first_incarnation-incarnation.ensures;
      setups = setups.items;
      are = are_setups c.first_incarnation-incarnation.result c.args.configs.items c.args.sockets.now setups.items
          c.in_ok-setups.ensures.begun c.in_ok-setups.ensures.sends;
      ended = ended.items;
      all = many ∙ sym setups.ok.0 ∙ c.in_ok-setups.ensures.many ∙ c.args.configs.ok.0;
      each = named.each;
      history = named.history;
      runs = runs_as_fabric is_asked (configs_of setups.items) ended.items (many ∙ sym configs) named.history;
      alerts = named.told.alerts;
      table = table.items;
      told = subst (λ (xs : List Ended). TellsEnded named.told.alerts xs system is_read out out' notes notes'
          c.tell_ended.result) c.as_slice-3.ensures.value
          (subst (λ (t : List ℕ). TellsEnded named.told.alerts c.as_slice-3.result.now
          (system_text t (map bound_at c.args.sockets.now)) is_read out out' notes notes' c.tell_ended.result)
          c.as_slice-2.ensures.value (c.tell_ended.ensures notes named.told.alerts c.requires.notes
          named.told.lines));
    }
