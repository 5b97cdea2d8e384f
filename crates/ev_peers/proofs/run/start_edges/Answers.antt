use Rattle.std.proofs.Common.{◌≡◌, ◌+◌, ℕ, rules, length, sym, ap, ◌∙◌, vec_len}
use Rattle.ev_peers.specs.History.{IsSeatOf}
use Rattle.ev_peers.proofs.Threads.{one_started, all_started}
use Rattle.ev_peers.proofs.Histories.{seats_before, seat_last}
use Rattle.ev_peers.proofs.run.start_edges.Goals as goal

pub start_edge-handle-requires-clause-number : goal.start_edge-handle-requires-clause-number
start_edge-handle-requires-clause-number g c =
    let last = seat_last c.loop-setup.setups.items c.pop.new.self.items c.loop-setup.seats.items
    c.pop-in-Some.new.self.items c.in-Some.setup c.in-Some-pop.seat c.in-Some.ensures.items c.in-Some-pop.ensures.items
    (sym c.loop-setup.seats.ok.0 ∙ c.loop-setup.invariant.each ∙ c.loop-setup.setups.ok.0)
    c.loop-setup.invariant.seats in
    let place : c.in-Some-pop.seat.place + 1 ≡ length c.pop.new.self.items + 1 = ap (λ (n : ℕ). n + 1) last.0 in
    search rules

pub start_edge-handle-requires-clause-seat : goal.start_edge-handle-requires-clause-seat
start_edge-handle-requires-clause-seat g c =
    let last = seat_last c.loop-setup.setups.items c.pop.new.self.items c.loop-setup.seats.items
    c.pop-in-Some.new.self.items c.in-Some.setup c.in-Some-pop.seat c.in-Some.ensures.items c.in-Some-pop.ensures.items
    (sym c.loop-setup.seats.ok.0 ∙ c.loop-setup.invariant.each ∙ c.loop-setup.setups.ok.0)
    c.loop-setup.invariant.seats in
    let seat : IsSeatOf c.in-Some.setup.config c.in-Some-pop.seat = last.1 in
    search rules

pub loop-setup-preserved : goal.loop-setup-preserved
loop-setup-preserved g c =
    let number : c.pop.new.self.len + 1 ≡ length c.pop.new.self.items + 1 = search rules in
    record {
      all = search rules;
      room = search rules;
      each = search rules;
      seats = seats_before c.loop-setup.setups.items c.pop.new.self.items c.loop-setup.seats.items
          c.pop-in-Some.new.self.items c.in-Some.setup c.in-Some-pop.seat c.in-Some.ensures.items
          c.in-Some-pop.ensures.items c.loop-setup.invariant.seats;
      handles = one_started c.args.setups.items c.pop.new.self.items c.loop-setup.setups.items c.in-Some.setup
          c.loop-setup.running.items _ c.start_edge-handle.result c.in-Some.ensures.items (search rules)
          (search rules) c.loop-setup.invariant.handles;
    }

pub returns-clause-handles : goal.returns-clause-handles
returns-clause-handles g c = all_started c.args.setups.items c.loop-setup.setups.items c.loop-setup.running.items
    (search rules) c.loop-setup.invariant.handles
