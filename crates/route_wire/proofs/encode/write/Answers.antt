use Rattle.std.proofs.Common.{◌≡◌, rules}
use Rattle.route_wire.specs.Fields.{Fields}
use Rattle.route_wire.specs.Encode.{spelling_of}
use Rattle.route_wire.proofs.Spelt.{written, read_again}
use Rattle.route_wire.proofs.encode.write.Goals as goal

pub returns-clause-octets : goal.returns-clause-octets
unfolding spelling_of
returns-clause-octets c = rw (
  c.record.ensures.items,
  c.as_slice.ensures.value,
  c.route-route.ensures.items,
  c.register-register.ensures,
  c.value-value.ensures,
)

pub returns-clause-spells : goal.returns-clause-spells
returns-clause-spells c =
    let own : ◌≡◌ {A = Fields} (record { register = c.register-register.result; value = c.value-value.result })
    c.args.update.now =
    (λ i. record { register = c.register-register.ensures i; value = c.value-value.ensures i }) in
    rw (returns-clause-octets c, ← own) (written c.register-register.result c.value-value.result
    (search rules) (search rules) (search rules) c.record.ensures.fits c.route-route.ensures.fits
    (rw own c.always_well_formed.ensures))

pub returns-clause-again : goal.returns-clause-again
returns-clause-again c = read_again c.record.result.items c.args.update.now (returns-clause-spells c)
