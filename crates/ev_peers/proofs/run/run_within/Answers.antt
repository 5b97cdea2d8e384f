use Rattle.std.proofs.Common.{◌≡◌, List, length, Option, sym, subst, ◌∙◌}
use Rattle.ev_book.specs.Rule.{SeatState}
use Rattle.ev_peers.specs.EdgeThreads.{EdgeSetup}
use Rattle.ev_peers.specs.History.{configs_of, IsHistoryOf}
use Rattle.ev_peers.specs.Inner.History.{AreSeen, AreSettled}
use Rattle.ev_peers.proofs.Histories.{ended}
use Rattle.ev_peers.proofs.run.run_within.Goals as goal

pub settle_all-requires : goal.settle_all-requires
settle_all-requires g c = subst (λ (l : List (Option SeatState)). AreSeen (length l) c.all_seen-all.result l)
    (c.as_slice.ensures.value ∙ sym c.as_slice-2.ensures.value) c.all_seen-all.ensures.seats

pub returns-clause-history : goal.returns-clause-history
returns-clause-history g c =
    let r = c.ready.inside in
    let rans = c.join_edges-ended.result.0.items in
    let left = c.join_edges-ended.result.1.items in
    let all = c.all_seen-all.result in
    let seen : AreSeen (length left) all left =
    subst (λ (l : List (Option SeatState)). AreSeen (length l) all l) c.as_slice.ensures.value
    c.all_seen-all.ensures.seats in
    let settled : AreSettled (length left) all left =
    subst (λ (l : List (Option SeatState)). AreSettled (length l) all l) c.as_slice-2.ensures.value
    c.settle_all.ensures in
    let seated = c.join_edges-ended.ensures.seated r.setups.items c.start_edges-running.ensures.handles in
    subst (λ (s : List (EdgeSetup g.row.O.Denot)). IsHistoryOf g.J.Naming.outside (configs_of s) rans) c.ready.view_is
    (ended g.J.Naming.outside (configs_of r.setups.items) r.front all rans left c.ready.invariant.2
    c.all_seen-all.ensures.front c.all_seen-all.ensures.legal seated seen settled)
