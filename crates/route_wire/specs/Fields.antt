-- The content of an update (RFC 7432, sections 7.2, 7.3 and 15).
use Rattle.std.specs.Prelude.{◌≡◌, ◌<◌, Bool, true, false, not, None}
use Rattle.ether_wire.specs.Addr.{is_group}
use Rattle.route_wire.specs.declared.update.Key.{Key}
use Rattle.route_wire.specs.declared.update.Key.TheVariants.{Flood, Mac}
use Rattle.route_wire.specs.declared.update.Register.{Register}
use Rattle.route_wire.specs.declared.update.Advert.{Advert}
use Rattle.route_wire.specs.declared.update.Content.{Content}
use Rattle.route_wire.specs.declared.update.Content.TheVariants.{Withdrawn, Advert as Advertised}
use Rattle.route_wire.specs.declared.update.Value.{Value}

-- an update: a value of a register
pub record Fields : Type 0 where
  pub register : Register
  pub value : Value

-- a key's MAC is no group address
abbrev pub is_individual : Key → Bool
is_individual (Flood vni) = true
is_individual (Mac vni mac ip) = not (is_group mac)

-- the only advert of a flood list
abbrev pub flood_advert : Advert
flood_advert = record { is_static = false; sequence = 0; label2 = None }

-- the contents that the key may have
abbrev pub FitsKey : Key → Content → Type 0
FitsKey (Flood vni) Withdrawn = Unit {0}
FitsKey (Flood vni) (Advertised a) = a ≡ flood_advert
FitsKey (Mac vni mac ip) content = Unit {0}

-- the conditions of a well formed update
pub record IsUpdate (u : Fields) : Type 0 where
  pub counted : 0 < u.value.counter
  pub individual : is_individual u.register.key ≡ true
  pub fits : FitsKey u.register.key u.value.content
