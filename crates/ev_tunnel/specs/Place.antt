-- The known place of a frame's destination, by the first of these cases that applies: a group address; an address in
-- the learning table; an address that another edge owns; anything else, which is unknown.
use Rattle.std.specs.Prelude.{ℕ, ◌==◌, if◌then◌else◌, Option, Some, None}
use Rattle.ether_wire.specs.Addr.{is_group}
use Rattle.ev_tunnel.specs.declared.place.Place.{Place}
use Rattle.ev_tunnel.specs.declared.place.Place.TheVariants.{Everywhere, AtPort, AtEdge}

abbrev pub owned_place : Option ℕ → ℕ → Place
owned_place None own = Everywhere
owned_place (Some o) own = if o == own then Everywhere else AtEdge o

abbrev pub learnt_place : Option ℕ → Option ℕ → ℕ → Place
learnt_place (Some port) owner own = AtPort port
learnt_place None owner own = owned_place owner own

abbrev pub place_of : ℕ → Option ℕ → Option ℕ → ℕ → Place
place_of destination entry owner own = if is_group destination then Everywhere else learnt_place entry owner own
