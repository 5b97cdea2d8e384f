use Rattle.std.proofs.Common.{◌≡◌, ◌+◌, ◌++◌, length, drop, ◌∙◌, ap}
use Rattle.vxlan_wire.specs.Vxlan.{header_of}
use Rattle.ev_tunnel.proofs.DatagramLemmas.{two_parts}
use Rattle.ev_tunnel.proofs.datagram.wrap.Goals as goal

pub returns-clause-octets : goal.returns-clause-octets
returns-clause-octets c =
    let size = length c.args.frame.now in
    let header : c.copy_from_slice.new.self ≡ header_of c.args.vni = c.copy_from_slice.ensures.after
    ∙ c.header.ensures in
    let body = c.copy_from_slice-2.ensures.after in
    two_parts c.args.buffer.now c.copy_from_slice.new.self c.copy_from_slice-2.new.self size (ap length header)
    ∙ (λ i. header i ++ (body i ++ drop (8 + size) c.args.buffer.now))
