-- The subjects of routes, and their order.
use Rattle.std.specs.Prelude.{ℕ, zero, suc, ◌+◌, ◌*◌, ◌^◌, Bool, Option, Some, None, ◌==◌, ◌&&◌}
use Rattle.route_join.specs.Subject.{Subject}

-- the place of a subject among those of its network: the flood list first, then the addresses
abbrev pub mac_place : Option ℕ → ℕ
mac_place None = 0
mac_place (Some m) = m + 1

-- the address at that place, `None` for the flood list
abbrev pub mac_at : ℕ → Option ℕ
mac_at zero = None
mac_at (suc m) = Some m

abbrev pub subject_eq : Subject → Subject → Bool
subject_eq a b = (a.vni == b.vni) && (mac_place a.mac == mac_place b.mac)

-- a subject as one number
abbrev pub subject_number : Subject → ℕ
subject_number s = s.vni * 2 ^ 64 + mac_place s.mac
