use Rattle.std.proofs.Common.{◌≡◌, ◌++◌, map, ap, ◌∙◌}
use Rattle.ether_wire.specs.Ends.{End, with_text}
use Rattle.ether_wire.proofs.Appending.{puts_behind, with_text_twice}
use Rattle.ev_run.specs.Inner.Sockets.{bound_at}
use Rattle.ev_run.specs.RunEdges.{drops_text, sockets_text, system_text, lost_text}
use Rattle.ev_view.specs.EdgeViews.{each_from}
use Rattle.ev_view.proofs.Each.{each_of_map}
use Rattle.ev_run.proofs.print.put_notes.Goals as goal

pub returns : goal.returns
returns g c =
    let start = g.N.Out.end c.args.notes.now in
    let mid = g.N.Out.end c.put_all_drops.new.notes in
    let next = g.N.Out.end c.put_all_sockets.new.notes in
    let table = c.args.watched.table.now in
    let sockets = c.args.watched.sockets.now in
    let drops = each_from drops_text 1 c.args.ended.now in
    let system = system_text table (map bound_at sockets) in
    let both : next ≡ with_text start (drops ++ system) =
    c.in_ok-put_all_sockets.ensures ∙ ap (with_text mid) (each_of_map (sockets_text table) bound_at 1 sockets)
    ∙ ap (λ (e : End). with_text e system) c.in_ok-put_all_drops.ensures ∙ with_text_twice start drops system in
    puts_behind start next (g.N.Out.end c.put_lost.new.notes) (drops ++ system) (lost_text c.args.lost)
    c.put_lost.result both c.put_lost.ensures
