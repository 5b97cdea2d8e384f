-- Consequences for a sound fabric, and for one whose edges agree.
use Rattle.std.proofs.Common.{◌≡◌, inl, inr, ℕ, false, Option, Some, None, [], refl, sym, ◌∙◌, arith}
use Rattle.std.proofs.lemmas.Bool.{cases_eq}
use Rattle.std.specs.Prelude.{Contains}
use Rattle.ether_wire.specs.Addr.{is_group}
use Rattle.route_wire.specs.declared.update.Ip.{Ip}
use Rattle.route_wire.specs.declared.update.Key.TheVariants.{Mac}
use Rattle.route_wire.specs.declared.update.Register.{Register}
use Rattle.route_wire.specs.declared.update.Advert.{Advert}
use Rattle.route_wire.proofs.Newer.{not_newer_itself}
use Rattle.route_join.specs.Table.{register_of}
use Rattle.route_join.specs.Owner.{advert_at, IsOwner}
use Rattle.route_join.proofs.Tables.{one_table}
use Rattle.route_join.proofs.Owners.{one_owner, owner_along}
use Rattle.mac_arena.specs.declared.station.Station.{Station}
use Rattle.ev_claims.specs.Speaker.{own_advert}
use Rattle.ev_claims.specs.LocalRoutes.{key_of}
use Rattle.ev_edge.specs.Edge.{Edge, IsGoodEdge, table_of, address_of}
use Rattle.ev_fabric.specs.Fabric.{Fabric, IsEdge}
use Rattle.ev_fabric.specs.Sound.{update_of, IsSound}
use Rattle.ev_fabric.specs.Agreed.{AllAgree, Advertises}
use Rattle.ev_fabric.specs.Laws.{NoneAhead, Announced, OneOfTwo, AgreedTables, AgreedReports}
use Rattle.ev_fabric.specs.Laws.{Learnt, NoneBack}
use Rattle.ev_fabric.proofs.Voices.{behind_not_newer}
use Rattle.ev_fabric.proofs.ConvergingEdge.{learnt_cases}

-- ---- no table is ahead of its originator

pub none_ahead : NoneAhead
none_ahead f h i j a b at_a at_b r v mine is = elim (cases_eq (address_of a) (address_of b)) [
  | inl same ↦
      let place : i ≡ j = h.apart i j a b at_a at_b same in
      let edge : a ≡ b = (let at_b' : IsEdge f i b = rw place at_b in cc) in
      inr (v, rw edge at is, not_newer_itself v)
  | inr ne ↦ elim ((h.told j b at_b).behind (update_of r v)
      ((h.told i a at_a).foreign r v (λ q. ne (sym q ∙ mine)) is)
      mine) [
        | inl earlier ↦ inl earlier
        | inr told ↦ inr (told.says, told.there, behind_not_newer told)
      ]
]

pub announced : Announced
announced f h i a at r v is quiet = elim (cases_eq r.originator (address_of a)) [
  | inl mine ↦ (h.told i a at).own r v mine is (quiet mine)
  | inr ne ↦ (h.told i a at).foreign r v ne is
]

-- ---- equal tables

-- an advert of a good edge has no IP address
pub advert_bare : {a : Edge} (s : Station) → IsGoodEdge a → Advertises a s
    → (x : Advert) × (own_advert a.routes.speaker (key_of s) ≡ Some x)
advert_bare {a} s h y = go y.0 y.2
  where
    go : (ip : Option Ip) → own_advert a.routes.speaker (Mac s.vni s.mac ip) ≡ Some y.1
        → (x : Advert) × (own_advert a.routes.speaker (key_of s) ≡ Some x)
    go None is = (y.1, is)
    go (Some n) is = cc (h.routes.routes.bare s n)

pub owns : {a : Edge} (s : Station) → IsGoodEdge a → Advertises a s → IsOwner (table_of a) s.vni s.mac (address_of a)
owns s h y = let x = advert_bare s h y in h.keeps.owns s (rw x.1 refl)

-- equal registers, equal adverts
same_adverts : (a b : Edge) → (table_of a).registers ≡ (table_of b).registers → (s : Station) (o : ℕ) (ip : Option Ip)
    → advert_at (table_of a) o (Mac s.vni s.mac ip) ≡ advert_at (table_of b) o (Mac s.vni s.mac ip)
same_adverts a b same s o ip = rw same

pub one_of_two : OneOfTwo
one_of_two a b s good_a good_b same x y =
    one_owner (table_of a) s.vni s.mac (address_of a) (address_of b) (owns s good_a x)
    (owner_along (table_of b) (table_of a) s.vni s.mac (address_of b) (same_adverts b a (sym same) s)
    (owns s good_b y))

-- ---- if all agree

pub none_pending : {r : Register} → Contains [] r → ⊥
none_pending (x, lt, is) = omega arith

pub agreed_table : AgreedTables
agreed_table f h agree i a at = record {
  from = λ r v is. announced f h i a at r v is (λ mine in'. none_pending
      (rw (agree.quiet i a at) at in'));
  newest = agree.arrived i a at;
}

agreed_registers : {f : Fabric} → IsSound f → AllAgree f → (i j : ℕ) {a b : Edge} → IsEdge f i a → IsEdge f j b
    → (table_of a).registers ≡ (table_of b).registers
agreed_registers {f} h agree i j {a} {b} at_a at_b = one_table f.pool f.pool (table_of a) (table_of b)
    (record { there = λ w in'. in'; back = λ w in'. in' }) (agreed_table f h agree i a at_a)
    (agreed_table f h agree j b at_b)

-- a report depends only on the registers
pub agreed_reports : AgreedReports
agreed_reports f h agree i j a b at_a at_b = rw (agreed_registers h agree i j at_a at_b)

pub learnt : Learnt
learnt a s h says = elim (learnt_cases s h.routes.routes) [
  | inl no' ↦ cc ((advert_bare s h says).1, no'.1)
  | inr x ↦ (x.0, record { learnt = x.2; port = h.routes.routes.ports s x.0 x.2 })
]

-- a station that is advertised has an individual address
pub individual : {a : Edge} (s : Station) → IsGoodEdge a → Advertises a s → is_group s.mac ≡ false
individual {a} s h says = h.keeps.individual s (rw ((learnt a s h says).1.learnt) refl)

-- no advert of an earlier incarnation is left
pub none_back : NoneBack
none_back f h agree i j a b at_a at_b r v mine is some =
    (h.good j b at_b).routes.numbers.alive r.key v (rw (← named, agreed_registers h agree j i at_b at_a) is) some
  where
    named : r ≡ register_of (address_of b) r.key
    named = λ k. register_of (mine k) r.key
