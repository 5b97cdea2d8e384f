-- A delivery of an update that is no news, or of a withdrawal, takes nothing from an edge and makes nothing pending.
use Rattle.std.proofs.Common.{◌≡◌, ◌≢◌, ◌⊎◌, inl, inr, ℕ, true, false, Option, Some, None, refl}
use Rattle.std.proofs.Common.{sym, ap, ◌∙◌, arith}
use Rattle.std.proofs.lemmas.Bool.Decides.{nat_tests}
use Rattle.std.specs.Prelude.{Contains, not, ◌==◌}
use Rattle.route_wire.specs.declared.update.Ip.{Ip}
use Rattle.route_wire.specs.declared.update.Key.{Key}
use Rattle.route_wire.specs.declared.update.Key.TheVariants.{Mac}
use Rattle.route_wire.specs.declared.update.Register.{Register}
use Rattle.route_wire.specs.declared.update.Advert.{Advert}
use Rattle.route_wire.specs.declared.update.Content.TheVariants.{Withdrawn}
use Rattle.route_wire.specs.Fields.{Fields}
use Rattle.route_join.specs.Table.{Table, value_at, register_of}
use Rattle.route_join.specs.Owner.{advert_in, advert_of, advert_at, IsOwner}
use Rattle.route_join.proofs.Tables.{same_or_other, at_same, at_other}
use Rattle.mac_arena.specs.declared.station.Station.{Station}
use Rattle.ev_claims.specs.Speaker.{Speaker, own_register, own_advert, KeepsNumbers, next_value, after_originating}
use Rattle.ev_claims.specs.Speaker.{after_importing, is_newest}
use Rattle.ev_claims.specs.LocalRoutes.{LocalRoutes, key_of, after_update, is_lost}
use Rattle.ev_claims.proofs.Numbers.{marked_only, own_stays}
use Rattle.ev_edge.specs.Edge.{OwnsAt}
use Rattle.ev_fabric.specs.ConvergenceEdge.{comes_back}
use Rattle.ev_fabric.proofs.Sends.{owner_found}
use Rattle.ev_fabric.proofs.ConvergingEdge.{update_cases, Accepts, heard, silent}
use Rattle.ev_fabric.proofs.ConvergingEdge.{others_stay_away, hear_cases, idle_away, heard_by}

-- ---- owners
fewer_owner : {t : Table} (u : Table) {vni mac o : ℕ} → IsOwner t vni mac o
    → ((ip : Option Ip) → advert_at u o (Mac vni mac ip) ≡ advert_at t o (Mac vni mac ip))
    → ((p : ℕ) (j : Option Ip) (b : Advert) → advert_at u p (Mac vni mac j) ≡ Some b
    → advert_at t p (Mac vni mac j) ≡ Some b) → IsOwner u vni mac o
fewer_owner u h own fewer = record {
  ip = h.ip;
  advert = h.advert;
  own = own h.ip ∙ h.own;
  best = λ p j b ne is. h.best p j b ne (fewer p j b is);
}

-- another's update that is no news, or a withdrawal, takes no station from the edge
still_owner : (c : LocalRoutes) (u : Fields) → ((s : Station) → OwnsAt c s) → u.register.originator
    ≢ c.speaker.address
    → (is_newest c.speaker u ≡ false) ⊎ (advert_in u.value.content ≡ None) → (s : Station)
    → is_lost (after_update c u) s ≡ false
still_owner c u owns other idle s = go (own_advert (after_importing c.speaker u) (key_of s)) refl
  where
    same : (ip : Option Ip) → own_advert (after_importing c.speaker u) (Mac s.vni s.mac ip)
        ≡ own_advert c.speaker (Mac s.vni s.mac ip)
    same ip = ap advert_of (own_stays c.speaker u other (Mac s.vni s.mac ip))

    kept : (p : ℕ) (j : Option Ip) (b : Advert) → advert_at (after_importing c.speaker u).table p (Mac s.vni s.mac j)
        ≡ Some b → advert_at c.speaker.table p (Mac s.vni s.mac j) ≡ Some b
    kept p j b is = elim (update_cases c.speaker.table u (register_of p (Mac s.vni s.mac j))) [
      | inl h ↦ elim idle [
        | inl old ↦ cc (h.1)
        | inr none ↦ cc (ap advert_of (sym h.2))
      ]
      | inr same ↦ rw (← same) is
    ]

    go : (o : Option Advert) → own_advert (after_importing c.speaker u) (key_of s) ≡ o
        → is_lost (after_update c u) s ≡ false
    go None is = rw is
    go (Some x) is =
        let test : (c.speaker.address == c.speaker.address) ≡ true = grind (arith, nat_tests) in
        rw (
          is,
          owner_found (fewer_owner (after_importing c.speaker u).table
              (owns s (rw (← same None, is) refl)) same kept),
          test,
        ) refl

pub idle_hearing : (c : LocalRoutes) (u : Fields) → ((s : Station) → OwnsAt c s)
    → (is_newest c.speaker u ≡ false) ⊎ (advert_in u.value.content ≡ None) → heard c u ≡ after_update c u
idle_hearing c u owns idle = elim (hear_cases c u (idle_away c.speaker u idle)) [
  | inl is ↦ is
  | inr l ↦ cc (l.lost, still_owner c u owns l.foreign idle l.station)
]

-- an update that is no news leaves an edge unchanged
pub known_hearing : (c : LocalRoutes) (u : Fields) → ((s : Station) → OwnsAt c s) → is_newest c.speaker u ≡ false
    → heard c u ≡ c
known_hearing c u owns none = let same : after_update c u ≡ c = rw none in idle_hearing c u owns (inl none) ∙ same

-- ---- each pending register is withdrawn
abbrev pub Mourns : Speaker → Type 0
Mourns e = (r : Register) → Contains e.pending r → advert_of (value_at e.table r) ≡ None

said_mourns : (e : Speaker) (k : Key) → Mourns e → Mourns (after_originating e k Withdrawn)
said_mourns e k h r in' = elim (same_or_other r (own_register e k)) [
  | inl same ↦ rw (same, at_same e.table (own_register e k) (next_value e Withdrawn))
  | inr ne ↦ elim (marked_only e.pending (own_register e k) r in') [
    | inl before ↦ rw (at_other e.table (own_register e k) (next_value e Withdrawn) r ne) (h r before)
    | inr now ↦ absurd (ne (sym now))
  ]
]

-- pending registers are own ones, so an accepted update that doesn't come back leaves them without advert
kept_mourns : {e : Speaker} {u : Fields} → KeepsNumbers e → Accepts e u → comes_back e u ≡ false → Mourns e
    → Mourns (after_importing e u)
kept_mourns {e} {u} n ok not h r in' = elim (update_cases e.table u r) [
  | inl c ↦ rw c.2 (silent ok not (rw (← c.0) ((n.pending r in').3)) c.1)
  | inr kept ↦ rw kept (h r in')
]

pub heard_mourns : (c : LocalRoutes) {u : Fields} → KeepsNumbers c.speaker → Accepts c.speaker u → Mourns c.speaker
    → Mourns (heard c u).speaker
heard_mourns c {u} n ok h = heard_by (λ d. Mourns d.speaker) c u (λ back. said_mourns c.speaker u.register.key h)
    (λ s other lost. said_mourns (after_importing c.speaker u) (key_of s)
    (kept_mourns n ok (others_stay_away c.speaker u other) h)) (λ not. kept_mourns n ok not h)
