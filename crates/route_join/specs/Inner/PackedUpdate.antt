-- Updates in entries: the numbers of an entry are those of its update.
use Rattle.std.specs.Prelude.{◌≡◌, ℕ, ◌/◌, ◌%◌, ◌^◌, ◌==◌, Option, Some, None, nat_lt, if◌then◌else◌}
use Rattle.route_wire.specs.declared.update.Ip.{Ip}
use Rattle.route_wire.specs.declared.update.Ip.TheVariants.{V4, V6}
use Rattle.route_wire.specs.declared.update.Content.{Content}
use Rattle.route_wire.specs.declared.update.Content.TheVariants.{Withdrawn, Advert as Advertised}
use Rattle.route_wire.specs.Fields.{Fields, IsUpdate}
use Rattle.route_wire.specs.Order.{ip_of}

abbrev pub ip_by : ℕ → ℕ → Option Ip
ip_by version n = if version == 0 then None else if version == 1 then Some (V4 (n % 2 ^ 32)) else Some (V6 n)

abbrev pub content_by : ℕ → ℕ → ℕ → Content
content_by k s l = if k == 0 then Withdrawn else
    Advertised record { is_static = k % 2 == 0; sequence = s; label2 = if nat_lt k 3 then None else Some l }

pub record IsEntry (counted since sender number sequence word : ℕ) (u : Fields) : Type 0 where
  pub update : IsUpdate u
  pub originator : sender ≡ u.register.originator
  pub ip : ip_by (word / 2 ^ 27) number ≡ ip_of u.register.key
  pub counter : counted ≡ u.value.counter
  pub incarnation : since ≡ u.value.incarnation
  pub content : content_by (word / 2 ^ 24 % 8) sequence (word % 2 ^ 24) ≡ u.value.content
