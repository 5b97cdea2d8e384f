-- Consequences for one station of a sound fabric on which the edges agree.
use Rattle.std.proofs.lemmas.Bool.{and_parts}
use Rattle.std.proofs.Common.{◌≡◌, ℕ, ◌==◌, Bool, true, false, Option, Some, None, List, [], ◌∷◌, refl, sym, ap, ◌∙◌}
use Rattle.std.proofs.Common.{arith}
use Rattle.std.proofs.lemmas.Bool.Decides.{nat_tests}
use Rattle.std.specs.Prelude.{Contains, IsSome}
use Rattle.route_wire.specs.declared.update.Ip.{Ip}
use Rattle.route_wire.specs.declared.update.Key.{Key}
use Rattle.route_wire.specs.declared.update.Key.TheVariants.{Flood, Mac}
use Rattle.route_wire.specs.declared.update.Register.{Register}
use Rattle.route_wire.specs.declared.update.Value.{Value}
use Rattle.route_wire.specs.Fields.{Fields}
use Rattle.route_wire.specs.Order.{is_newer}
use Rattle.route_wire.specs.Inner.Totals.{neither_newer}
use Rattle.route_join.specs.Table.{value_at, register_of}
use Rattle.route_join.specs.Owner.{is_about, advert_in, advert_of, advert_at, IsOwner}
use Rattle.route_join.proofs.Owners.{one_owner, owner_along}
use Rattle.mac_arena.specs.declared.station.Station.{Station}
use Rattle.ev_edge.specs.Edge.{Edge, table_of, address_of}
use Rattle.ev_fabric.specs.Fabric.{Fabric, IsEdge}
use Rattle.ev_fabric.specs.Sound.{update_of, IsSound}
use Rattle.ev_fabric.specs.Agreed.{AllAgree, Advertises}
use Rattle.ev_fabric.specs.Laws.{OneOfAll, OwnerOfAll}
use Rattle.ev_fabric.specs.Station.{is_of, is_flood, AgreesAbout, AgreesOn, AgreesOnEach, IsOfPresentIncarnation}
use Rattle.ev_fabric.specs.Station.{AgreedStation}
use Rattle.ev_fabric.proofs.Agreements.{announced, owns, learnt, none_pending}

-- ---- registers of a station

same_number : (n : ℕ) → (n == n) ≡ true
same_number n = grind (arith, nat_tests)

-- a key of the station, with any IP address
pub about_station : (s : Station) (ip : Option Ip) → is_about s.vni s.mac (Mac s.vni s.mac ip) ≡ true
about_station s ip = rw (same_number s.vni) (same_number s.mac)

of_station : (s : Station) (r : Register) (ip : Option Ip) → r.key ≡ Mac s.vni s.mac ip → is_of s r ≡ true
of_station s r ip key = rw key (about_station s ip)

pub station_key : (s : Station) (k : Key) → is_about s.vni s.mac k ≡ true → (ip : Option Ip) × (k ≡ Mac s.vni s.mac ip)
station_key s (Flood v) e = cc
station_key s (Mac v m ip) e =
    let t = and_parts (v == s.vni) (m == s.mac) e in
    let vs : v ≡ s.vni = grind (arith, nat_tests) in
    let ms : m ≡ s.mac = grind (arith, nat_tests) in
    (ip, λ i. Mac (vs i) (ms i) ip)

-- ---- agreement on everything, and on each

pub agree_about : {f : Fabric} → AllAgree f → (these : Register → Bool) → AgreesAbout f these
agree_about h these = record {
  quiet = λ i a r at is in'. none_pending (rw (h.quiet i a at) at in');
  arrived = λ i a u at is in'. h.arrived i a at u in';
}

pub agree_on_each : (f : Fabric) → AllAgree f → AgreesOnEach f
agree_on_each f h = record {
  stations = λ s. agree_about h (is_of s);
  floods = λ vni. agree_about h (is_flood vni);
}

pub each_agree : (f : Fabric) → AgreesOnEach f → AllAgree f
each_agree f h = record {
  quiet = λ i a at. empty i a at a.routes.speaker.pending refl;
  arrived = λ i a at u in'. let x = about u.register u.register.key refl in x.2.arrived i a u at x.1 in';
}
  where
    about : (r : Register) (k : Key) → r.key ≡ k → (these : Register → Bool) × (these r ≡ true) × AgreesAbout f these
    about r (Flood v) key = (is_flood v, rw key (same_number v), h.floods v)
    about r (Mac v m ip) key = let s : Station = record { vni = v; mac = m } in
        (is_of s, of_station s r ip key, h.stations s)

    empty : (i : ℕ) (a : Edge) → IsEdge f i a → (rs : List Register) → a.routes.speaker.pending ≡ rs
        → a.routes.speaker.pending ≡ []
    empty i a at [] is = is
    empty i a at (r ∷ rs) is = let x = about r r.key refl in
        absurd (x.2.quiet i a r at x.1 (rw is (0, omega arith, refl)))

-- ---- agreement on one station

module _ {f : Fabric} (s : Station) (h : IsSound f) (agree : AgreesOn f s) where
  -- each value of the station at an edge is in the pool
  pub station_from : (i : ℕ) (a : Edge) (r : Register) (v : Value) → IsEdge f i a → is_of s r ≡ true
      → value_at (table_of a) r ≡ Some v → Contains f.pool (update_of r v)
  station_from i a r v at of is = announced f h i a at r v is (λ mine in'. agree.quiet i a r at of in')

  -- and the pool has nothing newer
  station_newest : (i : ℕ) (a : Edge) (u : Fields) (v : Value) → IsEdge f i a → is_of s u.register ≡ true
      → Contains f.pool u → value_at (table_of a) u.register ≡ Some v → is_newer u.value v ≡ false
  station_newest i a u v at of in' is =
      let n = agree.arrived i a u at of in' in
      let same : n.0 ≡ v = (cc (n.1)) in
      rw (← same) n.2

  station_equal : (i j : ℕ) (a b : Edge) (r : Register) → IsEdge f i a → IsEdge f j b → is_of s r ≡ true
      → value_at (table_of a) r ≡ value_at (table_of b) r
  station_equal i j a b r at_a at_b of = go (value_at (table_of a) r) refl (value_at (table_of b) r) refl
    where
      go : (x : Option Value) → value_at (table_of a) r ≡ x → (y : Option Value) → value_at (table_of b) r ≡ y
          → value_at (table_of a) r ≡ value_at (table_of b) r
      go None p None q = p ∙ sym q
      go None p (Some w) q = let n = agree.arrived i a (update_of r w) at_a of (station_from j b r w at_b of q) in
          cc (n.1)
      go (Some v) p None q = let n = agree.arrived j b (update_of r v) at_b of (station_from i a r v at_a of p) in
          cc (n.1)
      go (Some v) p (Some w) q =
          p ∙ ap Some (neither_newer v w (station_newest j b (update_of r v) w at_b of
          (station_from i a r v at_a of p) q)
          (station_newest i a (update_of r w) v at_a of (station_from j b r w at_b of q) p)) ∙ sym q

  -- so all see the same adverts of it, and the same owner
  station_adverts : (i j : ℕ) {a b : Edge} → IsEdge f i a → IsEdge f j b → (o : ℕ) (ip : Option Ip)
      → advert_at (table_of a) o (Mac s.vni s.mac ip) ≡ advert_at (table_of b) o (Mac s.vni s.mac ip)
  station_adverts i j {a} {b} at_a at_b o ip = ap advert_of
      (station_equal i j a b (register_of o (Mac s.vni s.mac ip)) at_a at_b (about_station s ip))

  pub station_owner : (i j : ℕ) (a b : Edge) → IsEdge f i a → IsEdge f j b → Advertises a s
      → IsOwner (table_of b) s.vni s.mac (address_of a)
  station_owner i j a b at_a at_b x = owner_along (table_of a) (table_of b) s.vni s.mac (address_of a)
      (station_adverts i j at_a at_b) (owns s (h.good i a at_a) x)

  pub station_one : (i j : ℕ) (a b : Edge) → IsEdge f i a → IsEdge f j b → Advertises a s → Advertises b s → i ≡ j
  station_one i j a b at_a at_b x y = h.apart i j a b at_a at_b
      (one_owner (table_of a) s.vni s.mac (address_of a) (address_of b) (owns s (h.good i a at_a) x)
      (station_owner j i b a at_b at_a y))

  -- an advert is of the present incarnation of an edge of the fabric
  station_present : (i : ℕ) (a : Edge) (r : Register) (v : Value) → IsEdge f i a → is_of s r ≡ true
      → value_at (table_of a) r ≡ Some v → IsSome (advert_in v.content)
      → IsOfPresentIncarnation f r.originator v.incarnation
  station_present i a r v at of is some =
      let l = h.sources (update_of r v) (station_from i a r v at of is) in
      let named : r ≡ register_of (address_of l.1) r.key = λ k. register_of (sym l.3 k) r.key in
      record {
        place = l.0;
        edge = l.1;
        there = l.2;
        address = l.3;
        present = (h.good l.0 l.1 l.2).routes.numbers.alive r.key v (ap (value_at (table_of l.1)) (sym named)
            ∙ station_equal l.0 i l.1 a r l.2 at of ∙ is) some;
      }

pub agreed_station : AgreedStation
agreed_station f s h agree = record {
  equal = station_equal s h agree;
  from = station_from s h agree;
  newest = station_newest s h agree;
  one = station_one s h agree;
  learnt = λ i a at x. learnt a s (h.good i a at) x;
  owner = station_owner s h agree;
  present = station_present s h agree;
}

-- ---- consequences if all agree on everything

pub one_of_all : OneOfAll
one_of_all f h agree i j a b s = station_one s h ((agree_on_each f agree).stations s) i j a b

pub owner_of_all : OwnerOfAll
owner_of_all f h agree i j a b s = station_owner s h ((agree_on_each f agree).stations s) i j a b
