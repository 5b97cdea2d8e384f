-- The subjects of routes, and their order.
use Rattle.std.specs.Prelude.{ℕ, Option, Some, None}
use Rattle.std.specs.declared.cmp.Ordering.{Ordering}
use Rattle.std.specs.Option.{option_cmp}
use Rattle.std.specs.Ordering.{nat_cmp, ordering_then}
use Rattle.route_wire.specs.declared.update.Key.{Key}
use Rattle.route_wire.specs.declared.update.Key.TheVariants.{Flood, Mac}

-- a network's flood list, or a MAC address in it
pub record Subject : Type 0 where
  pub vni : ℕ
  pub mac : Option ℕ

-- by VNI, the flood list before the addresses, then by MAC
abbrev pub subject_cmp : Subject → Subject → Ordering
subject_cmp a b = ordering_then (nat_cmp a.vni b.vni) (option_cmp nat_cmp a.mac b.mac)

abbrev pub subject_of : Key → Subject
subject_of (Flood vni) = record { vni = vni; mac = None }
subject_of (Mac vni mac ip) = record { vni = vni; mac = Some mac }
