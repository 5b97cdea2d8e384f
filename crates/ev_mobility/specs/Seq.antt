-- The sequence number of the next own advert of an address (RFC 7432, section 15).
use Rattle.std.specs.Prelude.{◌≡◌, ◌≢◌, ◌⊎◌, ℕ, ◌+◌, ◌<◌, ◌^◌, ◌||◌, ◌==◌, nat_lt, true, false, Option, Some, None}
use Rattle.std.specs.Prelude.{List, [], ◌∷◌, if◌then◌else◌}
use Rattle.ev_mobility.specs.declared.seq.Seq.{Seq}
use Rattle.ev_mobility.specs.declared.seq.Seq.TheVariants.{Next, Static, Spent}
use Rattle.ev_mobility.specs.declared.seq.Heard.{Heard}
use Rattle.route_wire.specs.declared.update.Ip.{Ip}
use Rattle.route_wire.specs.declared.update.Key.TheVariants.{Mac}
use Rattle.route_wire.specs.declared.update.Advert.{Advert}
use Rattle.route_wire.specs.Fields.{Fields}
use Rattle.route_join.specs.Table.{Table}
use Rattle.route_join.specs.Owner.{advert_in, advert_at}
use Rattle.route_join.specs.Updates.{updates_of}

-- another edge advertises the address so, with some IP address or with none
pub record Elsewhere (t : Table) (own vni mac : ℕ) (P : Advert → Type 0) : Type 0 where
  pub originator : ℕ
  pub ip : Option Ip
  pub advert : Advert
  pub other : originator ≢ own
  pub is : advert_at t originator (Mac vni mac ip) ≡ Some advert
  pub so : P advert

-- every other edge that advertises the address does it so
abbrev pub EveryElsewhere : Table → ℕ → ℕ → ℕ → (Advert → Type 0) → Type 0
EveryElsewhere t own vni mac P = (o : ℕ) (ip : Option Ip) (a : Advert) → o ≢ own
    → advert_at t o (Mac vni mac ip) ≡ Some a → P a

-- Another's advert is static; or none is, and the greatest sequence number of others is spent; or n is the number above
-- all others', 0 if there are none.
abbrev pub IsSeqFor : Table → ℕ → ℕ → ℕ → Seq → Type 0
IsSeqFor t own vni mac Static = Elsewhere t own vni mac (λ a. a.is_static ≡ true)
IsSeqFor t own vni mac Spent = EveryElsewhere t own vni mac (λ a. a.is_static ≡ false)
    × Elsewhere t own vni mac (λ a. a.sequence + 1 ≡ 2 ^ 32)
IsSeqFor t own vni mac (Next n) =
    EveryElsewhere t own vni mac (λ a. a.is_static ≡ false) × EveryElsewhere t own vni mac (λ a. a.sequence < n)
    × ((n ≡ 0) ⊎ Elsewhere t own vni mac (λ a. a.sequence + 1 ≡ n))

-- ---- the same as a function, by a walk over the updates of the address

-- what another edge advertises, if the update is another's and no withdrawal
abbrev pub foreign_in : ℕ → Fields → Option Advert
foreign_in own u = if u.register.originator == own then None else advert_in u.value.content

abbrev pub greater_of : Option ℕ → ℕ → ℕ
greater_of None n = n
greater_of (Some m) n = if nat_lt m n then n else m

-- whether any advert so far is static, and the greatest sequence number
abbrev pub heard : Heard → Option Advert → Heard
heard h None = h
heard h (Some a) = record { is_static = h.is_static || a.is_static; greatest = Some (greater_of h.greatest a.sequence) }

abbrev pub heard_all : ℕ → List Fields → Heard → Heard
heard_all own [] h = h
heard_all own (u ∷ us) h = heard_all own us (heard h (foreign_in own u))

abbrev pub nothing_heard : Heard
nothing_heard = record { is_static = false; greatest = None }

abbrev pub seq_above : Option ℕ → Seq
seq_above None = Next 0
seq_above (Some g) = if g == 4294967295 then Spent else Next (g + 1)

abbrev pub seq_of : Heard → Seq
seq_of h = if h.is_static then Static else seq_above h.greatest

-- the sequence number of the next own advert of the address
abbrev pub seq_for : Table → ℕ → ℕ → ℕ → Seq
seq_for t own vni mac = seq_of (heard_all own (updates_of t vni mac) nothing_heard)
