use Rattle.route_join.proofs.packed_update.PackedUpdate.about.Goals as goal

pub new-requires : goal.new-requires
new-requires c = rw (c.originator-originator.ensures, c.key-key.ensures, c.value.ensures) c.always_well_formed.ensures

pub returns : goal.returns
returns c = rw (c.new.ensures, c.originator-originator.ensures, c.key-key.ensures, c.value.ensures)
