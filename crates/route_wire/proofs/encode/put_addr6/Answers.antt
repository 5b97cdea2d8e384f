use Rattle.route_wire.proofs.encode.put_addr6.Goals as goal

pub returns-clause-items : goal.returns-clause-items
returns-clause-items c = rw (c.put.ensures.items, c.to_be_bytes.ensures, c.number.ensures)
