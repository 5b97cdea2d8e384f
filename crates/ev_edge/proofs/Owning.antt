-- An edge owns each MAC that it advertises, and no station's last second is later than now, through each change of its
-- local routes.
use Rattle.std.proofs.Common.{◌≡◌, ◌≢◌, inl, inr, ℕ, ◌<◌, Bool, true, false, cond, not, Option, Some, None, List, []}
use Rattle.std.proofs.Common.{◌∷◌, length, refl, sym, ap, ◌∙◌, arith}
use Rattle.std.specs.Prelude.{IsSome, is_some, ◌&&◌, MatchOption}
use Rattle.std.proofs.lemmas.Bool.Decides.{nat_tests}
use Rattle.ether_wire.specs.Addr.{is_group}
use Rattle.route_wire.specs.declared.update.Ip.{Ip}
use Rattle.route_wire.specs.declared.update.Key.{Key}
use Rattle.route_wire.specs.declared.update.Key.TheVariants.{Flood, Mac}
use Rattle.route_wire.specs.declared.update.Register.{Register}
use Rattle.route_wire.specs.declared.update.Advert.{Advert}
use Rattle.route_wire.specs.declared.update.Content.{Content}
use Rattle.route_wire.specs.declared.update.Content.TheVariants.{Withdrawn}
use Rattle.route_wire.specs.Fields.{Fields}
use Rattle.route_join.specs.Table.{Table, register_of, with_update}
use Rattle.route_join.specs.Owner.{advert_of, advert_at, owner, IsOwner, IsUnowned}
use Rattle.route_join.proofs.Owners.{owner_is, owner_along}
use Rattle.route_join.proofs.Joins.{others_stay}
use Rattle.route_join.proofs.Tables.{at_same}
use Rattle.mac_arena.specs.declared.station.Station.{Station}
use Rattle.mac_arena.specs.declared.station.Entry.{Entry}
use Rattle.mac_arena.specs.Learning.{Learning, IsLatest, after_removal as gone}
use Rattle.mac_arena.specs.Laws.{ChangesEntry}
use Rattle.mac_arena.proofs.Entries.{same_or_other}
use Rattle.mac_arena.proofs.Looking.{removal_entry}
use Rattle.mac_arena.proofs.Values.{latest_removal, chains_removal}
use Rattle.ev_claims.specs.Speaker.{own_register, own_advert, is_at, next_value, after_originating}
use Rattle.ev_claims.specs.LocalRoutes.{LocalRoutes, key_of, after_removal, after_removals, after_update}
use Rattle.ev_claims.specs.LocalRoutes.{after_losing_at}
use Rattle.ev_claims.specs.LocalRoutes.{after_losing, after_take, is_lost}
use Rattle.ev_edge.specs.Edge.{OwnsAt, AreIndividual, ServesPorts}
use Rattle.ev_claims.proofs.Numbers.{key_stays as said_other}

-- ---- an own update of another key
pub other_key : (r s : Station) (i j : Option Ip) → r ≢ s → Mac r.vni r.mac i ≢ Mac s.vni s.mac j
other_key r s i j ne e =
    let vnis : r.vni ≡ s.vni = cc in
    let macs : r.mac ≡ s.mac = cc in
    ne (λ k. record { vni = vnis k; mac = macs k })

-- a station whose key isn't said, by whatever IP address, is owned as it was
pub saying_owns : (c : LocalRoutes) (k : Key) (content : Content) (r : Station)
    → ((j : Option Ip) → Mac r.vni r.mac j ≢ k)
    → OwnsAt c r → OwnsAt (record c { speaker = after_originating c.speaker k content }) r
saying_owns c k content r ne h some =
    owner_along c.speaker.table (after_originating c.speaker k content).table r.vni r.mac c.speaker.address
    (λ o j. sym (said_other c.speaker k content (Mac r.vni r.mac j) o (ne j)))
    (h (rw (said_other c.speaker k content (key_of r) c.speaker.address (ne None)) at some))

-- ---- a removal
pub never_some : (o : Option Advert) → o ≡ None → IsSome o → ⊥
never_some None is some = cc
never_some (Some a) is some = cc

removed_owns : (c : LocalRoutes) (s : Station) → OwnsAt (after_removal c s) s
removed_owns c s some = absurd (never_some (own_advert (after_removal c s).speaker (key_of s))
    (ap advert_of (at_same c.speaker.table (own_register c.speaker (key_of s)) (next_value c.speaker Withdrawn))) some)

pub removal_owns : (c : LocalRoutes) (s : Station) → ((r : Station) → r ≢ s → OwnsAt c r) → (r : Station)
    → OwnsAt (after_removal c s) r
removal_owns c s others r = elim (same_or_other r s) [
  | inl same ↦ rw same (removed_owns c s)
  | inr ne ↦ saying_owns c (key_of s) Withdrawn r (λ j. other_key r s j None ne) (others r ne)
]

-- ---- several removals

-- no group address is learnt, if one entry changes
pub changed_individual : (t t' : Learning) (s : Station) (o : Option Entry) → ChangesEntry t t' s o
    → (IsSome o → is_group s.mac ≡ false) → AreIndividual t → AreIndividual t'
changed_individual t t' s o change free h r some = elim (same_or_other r s) [
  | inl same ↦ rw same (free (rw change.here at (rw same at some)))
  | inr ne ↦ h r (rw (change.others r ne) at some)
]

no_entry : {P : Type 0} → IsSome {T = Entry} None → P
no_entry some = cc

pub removal_individual : (t : Learning) (s : Station) → AreIndividual t → AreIndividual (gone t s)
removal_individual t s h = changed_individual t (gone t s) s None (removal_entry t s) no_entry h

pub record Holds (c : LocalRoutes) (second : ℕ) : Type 0 where
  pub owns : (s : Station) → OwnsAt c s
  pub latest : IsLatest c.learned second
  pub individual : AreIndividual c.learned
  pub served : ServesPorts c
  pub buckets : 0 < length c.learned.chains

-- at least one bucket, if there are as many as before
pub some_bucket : (t t' : Learning) → length t'.chains ≡ length t.chains → 0 < length t.chains → 0 < length t'.chains
some_bucket t t' same h = omega (arith, same, h)

pub removal_holds : (c : LocalRoutes) (s : Station) (second : ℕ) → Holds c second → Holds (after_removal c s) second
removal_holds c s second h = record {
  owns = removal_owns c s (λ r ne. h.owns r);
  latest = latest_removal c.learned s second h.latest;
  individual = removal_individual c.learned s h.individual;
  served = h.served;
  buckets = some_bucket c.learned (gone c.learned s) (chains_removal c.learned s) h.buckets;
}

pub removals_hold : (c : LocalRoutes) (ss : List Station) (second : ℕ) → Holds c second
    → Holds (after_removals c ss) second
removals_hold c [] second h = h
removals_hold c (s ∷ ss) second h = removals_hold (after_removal c s) ss second (removal_holds c s second h)

-- ---- another's update
update_stays : (t : Table) (u : Fields) (k : Key) (o : ℕ) → k ≢ u.register.key
    → advert_at (with_update t u) o k ≡ advert_at t o k
update_stays t u k o ne = ap advert_of (others_stay t u (register_of o k)
    (λ same. ne (ap (λ (r : Register). r.key) same)))

elsewhere : (c : LocalRoutes) (u : Fields) (r : Station) → ((j : Option Ip) → Mac r.vni r.mac j ≢ u.register.key)
    → OwnsAt c r → OwnsAt (after_update c u) r
elsewhere c u r ne h some =
    owner_along c.speaker.table (with_update c.speaker.table u) r.vni r.mac c.speaker.address
    (λ o j. sym (update_stays c.speaker.table u (Mac r.vni r.mac j) o (ne j)))
    (h (rw (update_stays c.speaker.table u (key_of r) c.speaker.address (ne None)) at some))

-- an edge that isn't beaten is the owner
not_lost : (c : LocalRoutes) (s : Station) → is_lost c s ≡ false → OwnsAt c s
not_lost c s h some = go (owner c.speaker.table s.vni s.mac) (at (own_advert c.speaker (key_of s)) some h)
    (owner_is c.speaker.table s.vni s.mac)
  where
    at : (o : Option Advert) → IsSome o → (is_some o && not (is_at (owner c.speaker.table s.vni s.mac)
        c.speaker.address)) ≡ false → is_at (owner c.speaker.table s.vni s.mac) c.speaker.address ≡ true
    at None some h = cc
    at (Some a) some h = grind (arith, h)

    go : (o : Option ℕ) → is_at o c.speaker.address ≡ true
        → MatchOption o (IsUnowned c.speaker.table s.vni s.mac) (IsOwner c.speaker.table s.vni s.mac)
        → IsOwner c.speaker.table s.vni s.mac c.speaker.address
    go None p q = cc
    go (Some o) p q = let same : o ≡ c.speaker.address = grind (arith, nat_tests) in rw same at q

losing_holds : (c : LocalRoutes) (s : Station) (second : ℕ) → ((r : Station) → r ≢ s → OwnsAt c r)
    → IsLatest c.learned second → AreIndividual c.learned → ServesPorts c → 0 < length c.learned.chains
    → Holds (after_losing_at c s) second
losing_holds c s second others latest single served buckets = go (is_lost c s) refl
  where
    go : (x : Bool) → is_lost c s ≡ x → Holds (cond x (after_removal c s) c) second
    go true lost = record {
      owns = removal_owns c s others;
      latest = latest_removal c.learned s second latest;
      individual = removal_individual c.learned s single;
      served = served;
      buckets = some_bucket c.learned (gone c.learned s) (chains_removal c.learned s) buckets;
    }
    go false lost = record {
      owns = λ r. elim (same_or_other r s) [
        | inl same ↦
            rw same (not_lost c s lost)
        | inr ne ↦ others r ne
      ];
      latest = latest;
      individual = single;
      served = served;
      buckets = buckets;
    }

pub taken_holds : (c : LocalRoutes) (u : Fields) (second : ℕ) → Holds c second → Holds (after_take c u) second
taken_holds c u second h = go u.register.key refl
  where
    go : (k : Key) → u.register.key ≡ k → Holds (after_losing (after_update c u) k) second
    go (Flood v) key = record {
      owns = λ r. elsewhere c u r (λ j q. let both : Mac r.vni r.mac j ≡ Flood v = q ∙ key in
          cc) (h.owns r);
      latest = h.latest;
      individual = h.individual;
      served = h.served;
      buckets = h.buckets;
    }
    go (Mac v m ip) key =
        losing_holds (after_update c u) (record { vni = v; mac = m }) second
        (λ r ne. elsewhere c u r (λ j q. other_key r (record { vni = v; mac = m }) j ip ne (q ∙ key)) (h.owns r))
        h.latest h.individual h.served h.buckets
