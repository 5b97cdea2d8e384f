-- The owner of a MAC address of a network: the best of those that advertise it (RFC 7432, sections 15 and 15.2, for
-- static addresses, sequence numbers and the lowest address; the IP address that the route has decides last).
use Rattle.std.specs.Prelude.{◌≡◌, ◌≢◌, ℕ, ◌≤◌, Bool, true, false, Option, Some, None, List, [], ◌∷◌, nat_lt, ◌==◌}
use Rattle.std.specs.Prelude.{◌&&◌, ◌||◌, if◌then◌else◌}
use Rattle.std.specs.declared.cmp.Ordering.{Ordering}
use Rattle.std.specs.declared.cmp.Ordering.TheVariants.{Less}
use Rattle.std.specs.Ordering.{is_lt}
use Rattle.std.specs.Option.{option_map}
use Rattle.std.specs.FinMap.{entries}
use Rattle.route_wire.specs.declared.update.Ip.{Ip}
use Rattle.route_wire.specs.declared.update.Key.{Key}
use Rattle.route_wire.specs.declared.update.Key.TheVariants.{Flood, Mac}
use Rattle.route_wire.specs.declared.update.Register.{Register}
use Rattle.route_wire.specs.declared.update.Advert.{Advert}
use Rattle.route_wire.specs.declared.update.Content.{Content}
use Rattle.route_wire.specs.declared.update.Content.TheVariants.{Withdrawn, Advert as Advertised}
use Rattle.route_wire.specs.declared.update.Value.{Value}
use Rattle.route_wire.specs.Order.{register_cmp}
use Rattle.route_join.specs.Table.{Table, register_of, value_at}

abbrev pub advert_in : Content → Option Advert
advert_in Withdrawn = None
advert_in (Advertised a) = Some a

abbrev pub advert_of : Option Value → Option Advert
advert_of None = None
advert_of (Some v) = advert_in v.content

-- the advert of the originator for the key
abbrev pub advert_at : Table → ℕ → Key → Option Advert
advert_at t o k = advert_of (value_at t (register_of o k))

-- static first, then the higher sequence number, then the register that comes first
abbrev pub IsBetterBy : Bool → Bool → ℕ → ℕ → Ordering → Type 0
IsBetterBy true false m n o = Unit {0}
IsBetterBy false true m n o = ⊥
IsBetterBy true true m n o = (n ≤ m) × (m ≡ n → o ≡ Less)
IsBetterBy false false m n o = (n ≤ m) × (m ≡ n → o ≡ Less)

-- The advert a of the register r is better than the advert b of q. Of two registers of one MAC address in one network,
-- the one that comes first has the lower originator, or an equal originator and the lower IP address: none, then IPv4,
-- then IPv6.
abbrev pub IsBetter : Advert → Register → Advert → Register → Type 0
IsBetter a r b q = IsBetterBy a.is_static b.is_static a.sequence b.sequence (register_cmp r q)

-- o advertises the address, with some IP address or with none, and this advert is better than each other one of the
-- address
pub record IsOwner (t : Table) (vni mac o : ℕ) : Type 0 where
  pub ip : Option Ip
  pub advert : Advert
  pub own : advert_at t o (Mac vni mac ip) ≡ Some advert
  pub best : (p : ℕ) (j : Option Ip) (b : Advert) → register_of p (Mac vni mac j) ≢ register_of o (Mac vni mac ip)
      → advert_at t p (Mac vni mac j) ≡ Some b
      → IsBetter advert (register_of o (Mac vni mac ip)) b (register_of p (Mac vni mac j))

-- no originator advertises the address
abbrev pub IsUnowned : Table → ℕ → ℕ → Type 0
IsUnowned t vni mac = (o : ℕ) (ip : Option Ip) → advert_at t o (Mac vni mac ip) ≡ None

-- ---- the owner by a walk over the registers
abbrev pub is_better_by : Bool → Bool → ℕ → ℕ → Ordering → Bool
is_better_by true false m n o = true
is_better_by false true m n o = false
is_better_by true true m n o = nat_lt n m || (n == m && is_lt o)
is_better_by false false m n o = nat_lt n m || (n == m && is_lt o)

abbrev pub is_better : Advert → Register → Advert → Register → Bool
is_better a r b q = is_better_by a.is_static b.is_static a.sequence b.sequence (register_cmp r q)

-- the key is of the address
abbrev pub is_about : ℕ → ℕ → Key → Bool
is_about vni mac (Flood v) = false
is_about vni mac (Mac v m ip) = v == vni && m == mac

-- the advert of the register for the address
abbrev pub said_of : ℕ → ℕ → Register → Value → Option Advert
said_of vni mac r v = if is_about vni mac r.key then advert_in v.content else None

-- the better of the advert of r, if any, and the best so far
abbrev pub better_of : Register → Option Advert → Option (Register × Advert) → Option (Register × Advert)
better_of r None best = best
better_of r (Some a) None = Some (r, a)
better_of r (Some a) (Some best) = if is_better a r best.1 best.0 then Some (r, a) else Some best

abbrev pub best_among : ℕ → ℕ → List (Register × Value) → Option (Register × Advert) → Option (Register × Advert)
best_among vni mac [] best = best
best_among vni mac (e ∷ es) best = best_among vni mac es (better_of e.0 (said_of vni mac e.0 e.1) best)

abbrev pub owner_among : ℕ → ℕ → List (Register × Value) → Option ℕ
owner_among vni mac es = option_map (λ (best : Register × Advert). best.0.originator) (best_among vni mac es None)

-- the owner of the address, if it is advertised
abbrev pub owner : Table → ℕ → ℕ → Option ℕ
owner t vni mac = owner_among vni mac (entries t.registers)
