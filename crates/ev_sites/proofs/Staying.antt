-- The bridges of edges are always settled, since they came from their starts by events with the limit of
-- `Bridge::event`.
use Rattle.std.proofs.Common.{◌≤◌, List, [], ◌∷◌}
use Rattle.rstp_state.specs.declared.start.PortSettings.{PortSettings}
use Rattle.rstp_state.specs.declared.start.Settings.{Settings}
use Rattle.rstp_run.specs.declared.event.Event as tree
use Rattle.rstp_run.specs.Events.{start}
use Rattle.rstp_run.specs.Firings as laws
use Rattle.rstp_run.specs.Firings.{ComesByEvents, EveryEventSettles}
use Rattle.rstp_run.specs.Rules.{Tree}
use Rattle.rstp_run.specs.Runs.{IsSettled}
use Rattle.ev_edge.specs.AwayLaws.{Entered, EdgeRuns}
use Rattle.ev_edge.specs.Config.{settings_of}
use Rattle.ev_edge.specs.Edge.{Edge}
use Rattle.ev_fabric.proofs.Opened.{start_sound}
use Rattle.ev_fabric.proofs.Fabrics.{runs_sound}
use Rattle.ev_sites.specs.Settled.{StaysSettled, EdgesStaySettled, FabricsStaySettled}
use Rattle.ev_sites.proofs.Reaching.{CameByEvents, Goes, stays, steps_go, opening_came, every_run_came, opened_with}

module _ (every : EveryEventSettles) (begins : laws.StaysSettled) where
  -- the start is settled, and so is the bridge after each event
  is_settled : (settings : Settings) (ports : List PortSettings) (events : List tree.Event) (t : Tree)
      → 1 ≤ settings.hello → ComesByEvents events (start settings ports) t → IsSettled t
  is_settled settings ports [] t some comes = begins settings ports [] t some comes
  is_settled settings ports (event ∷ earlier) t some (mid, settled, mask, before, happens) =
      happens.settles.0 (every settings ports earlier mid t event settled mask some before happens)

  stays_settled : (settings : Settings) (ports : List PortSettings) (e : Edge) → 1 ≤ settings.hello
      → CameByEvents settings ports e.tree → StaysSettled e
  stays_settled settings ports e some came = record {
    now = is_settled settings ports came.0 e.tree some came.1;
    happens = λ event new settled flush h. every settings ports came.0 e.tree new event settled flush some came.1 h;
    goes = λ event new flush sent g.
        every settings ports came.0 e.tree new event g.settled flush some came.1 g.happens;
  }

-- the bridge after a run of the edge came from the same start
run_goes : (run : List Entered) (a b : Edge) → EdgeRuns a run b → Goes a b
run_goes [] a b h = stays a b h
run_goes (x ∷ run) a b (mid, steps, rest) =
    λ settings ports came. run_goes run mid b rest settings ports (steps_go a x.0 x.1 mid steps settings ports came)

pub edges_stay_settled : EveryEventSettles → laws.StaysSettled → EdgesStaySettled
edges_stay_settled every begins c opened e run some opening runs =
    stays_settled every begins c.tree (settings_of c.ports.items) e some
    (run_goes run opened e runs c.tree (settings_of c.ports.items) (opening_came opening))

pub fabrics_stay_settled : EveryEventSettles → laws.StaysSettled → FabricsStaySettled
fabrics_stay_settled every begins cs old new steps fit begun runs i e at =
    let sound = runs_sound steps old new runs (start_sound cs old fit begun) in
    let c = opened_with sound i e at in
    stays_settled every begins c.0.tree (settings_of c.0.ports.items) e (sound.configs i c.0 e c.1 at).config.hello
    (every_run_came new steps begun runs i c.0 e c.1 at)
