use Rattle.std.proofs.Common.{ℕ, List, map, subst}
use Rattle.ether_wire.specs.Ends.{Puts}
use Rattle.ether_wire.proofs.Appending.{puts_behind}
use Rattle.ev_run.specs.declared.bound.Cable.{Cable}
use Rattle.ev_run.specs.LinkEnds.{Udp}
use Rattle.ev_run.specs.Inner.Sockets.{local_end}
use Rattle.ev_run.specs.RunEdges.{socket_text}
use Rattle.ev_view.specs.EdgeViews.{each_from}
use Rattle.ev_view.proofs.Each.{each_of_map}
use Rattle.ev_run.proofs.print.put_sockets.Goals as goal

pub returns : goal.returns
returns g c =
    let start = g.N.Out.end c.args.notes.now in
    let mid = g.N.Out.end c.put_socket.new.notes in
    let end = g.N.Out.end c.put_ports.new.notes in
    let result = c.put_ports.result in
    let text = socket_text c.args.table.now c.args.number in
    let ports = c.args.sockets.now.ports.items in
    puts_behind start mid end (text 0 (Udp c.args.sockets.now.at)) (each_from text 1 (map local_end ports)) result
    c.in_ok-put_socket.ensures
    (subst (λ (t : List ℕ). Puts mid end t result) (each_of_map text local_end 1 ports)
    (subst (λ (ps : List Cable). Puts mid end (each_from (λ place port. text place (local_end port)) 1 ps) result)
    c.as_slice.ensures.value c.put_ports.ensures))
