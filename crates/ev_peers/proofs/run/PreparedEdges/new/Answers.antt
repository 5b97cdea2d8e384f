use Rattle.std.proofs.Common.{rules, ◌≡◌, length, sym, ◌∙◌}
use Rattle.ev_peers.proofs.Histories.{begun_each, begun_seats}
use Rattle.ev_peers.proofs.run.PreparedEdges.new.Goals as goal

pub invariant_of-ready : goal.invariant_of-ready
invariant_of-ready g c =
    let outside = g.J.Naming.outside in
    let setups = c.args.setups.items in
    let log = c.args.history.seen.log in
    let seated = c.in_ok-front.ensures in
    let many : c.args.history.edges ≡ length setups = begun_each outside setups log c.args.history.edges
    c.args.history.edges_are c.requires.begins in (
      record {
        each = seated.len ∙ many ∙ sym c.args.setups.ok.0;
        no_running = search rules;
        no_ended = search rules;
        for_running = search rules;
        for_ended = search rules;
        no_left = search rules;
        for_left = search rules;
      },
      begun_seats outside setups log c.in_ok-front.seats.items c.requires.begins seated.places seated.logs,
      seated.front ∙ c.requires.begins,
    )
