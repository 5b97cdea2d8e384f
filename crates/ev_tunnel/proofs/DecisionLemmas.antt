-- What holds of each decision.
use Rattle.std.proofs.Common.{◌≡◌, ◌≢◌, ℕ, ◌<◌, ◌≤◌, ◌^◌, zero, suc, inl, inr, Bool, true, false, not, cond, ◌==◌, ◌&&◌}
use Rattle.std.proofs.Common.{Option, Some, None, List, [], ◌∷◌, length, Contains, refl, sym, ap, subst, ◌∙◌, arith}
use Rattle.std.proofs.lemmas.Bool.{eq-eqb, eqb-true, or_cases, false_from_ne_true, true≢false, not-true as not_true}
use Rattle.std.proofs.lemmas.Bool.Decides.{nat_tests}
use Rattle.std.proofs.lemmas.Nat.{and_le_l}
use Rattle.std.proofs.lemmas.List.Kept.{IsStrictlyIncreasing-filter}
use Rattle.std.specs.Option.{ForSome}
use Rattle.ether_wire.specs.Addr.{is_group}
use Rattle.route_join.specs.Table.{Table}
use Rattle.route_join.specs.Owner.{owner}
use Rattle.route_join.specs.Flood.{IsFloodList, flood_of}
use Rattle.ev_tunnel.specs.declared.decision.Source.{Source}
use Rattle.ev_tunnel.specs.declared.decision.Source.TheVariants.{Port, Tunnel}
use Rattle.ev_tunnel.specs.declared.place.Place.{Place}
use Rattle.ev_tunnel.specs.declared.place.Place.TheVariants.{Everywhere, AtPort, AtEdge}
use Rattle.ether_wire.specs.Ports.{IsPort, has_port, no_ports, with_port, common_ports}
use Rattle.ether_wire.proofs.PortLemmas.{has_port-common, has_port-with, has_port-without, has_port-less, has_port-none}
use Rattle.ether_wire.proofs.PortLemmas.{is_port, Contains-filter, in_filter}
use Rattle.ev_tunnel.specs.declared.decision.Ports.{Ports}
use Rattle.ev_tunnel.specs.Place.{place_of, learnt_place, owned_place}
use Rattle.ev_tunnel.specs.Decision.{is_from, open_ports, port_alone, local_of, others_of, remote_of}
use Rattle.ev_tunnel.specs.Decision.{is_up, up_owner, up_edges, local_for, remote_for, local_up, remote_up}
use Rattle.ev_tunnel.specs.Inner.Decision.{IsPlace}
use Rattle.ev_tunnel.specs.Laws.{IsOneCopy, ArePassing, AreOthers}
use Rattle.std.proofs.lemmas.Bool.{and_parts as both}

-- no port is in the set of none
none_there : {P : Type 0} (p : ℕ) → has_port 0 p ≡ true → P
none_there p h = absurd (true≢false (sym h ∙ has_port-none p))

-- a port among the open ones is a member, and passes
open_is : (from : Source) (ports : Ports) (q : ℕ) → has_port (open_ports from ports) q ≡ true
    → (has_port ports.members q ≡ true) × (has_port ports.passing q ≡ true)
open_is (Port p) ports q there =
    let left = has_port-less (common_ports ports.members ports.passing) p q there in
    both (has_port ports.members q) (has_port ports.passing q) (sym (has_port-common ports.members ports.passing q)
    ∙ left)
open_is Tunnel ports q there = both (has_port ports.members q) (has_port ports.passing q)
    (sym (has_port-common ports.members ports.passing q) ∙ there)

-- only the port
record IsAlone (port : ℕ) (from : Source) (ports : Ports) (q : ℕ) : Type 0 where
  pub same : port ≡ q
  pub passes : has_port ports.passing port ≡ true
  pub other : is_from from port ≡ false

alone_is : (port : ℕ) (from : Source) (ports : Ports) (q : ℕ) → ports.passing < 2 ^ 64
    → has_port (port_alone port from ports) q ≡ true → IsAlone port from ports q
alone_is port from ports q small there = go (has_port ports.passing port && not (is_from from port)) refl there
  where
    go : (b : Bool) → (has_port ports.passing port && not (is_from from port)) ≡ b
        → has_port (cond b (with_port no_ports port) no_ports) q ≡ true → IsAlone port from ports q
    go true is there =
        let parts = both (has_port ports.passing port) (not (is_from from port)) is in
        let a_port = is_port ports.passing port small parts.0 in
        let which = sym (has_port-with no_ports port a_port q) ∙ there in
        record {
          same = elim (or_cases (port == q) (has_port no_ports q) which) [
            | inl e ↦ eqb-true port q e
            | inr none ↦ none_there q none
          ];
          passes = parts.0;
          other = not_true (is_from from port) parts.1;
        }
    go false is there = none_there q there

common_small : (members passing : ℕ) → members < 2 ^ 64 → common_ports members passing < 2 ^ 64
unfolding common_ports
common_small members passing small = omega (arith, small, and_le_l members passing)

pub never_back : (place : Place) (p : ℕ) (ports : Ports) → ports.members < 2 ^ 64 → ports.passing < 2 ^ 64 → IsPort p
    → has_port (local_of place (Port p) ports) p ≡ false
never_back Everywhere p ports members passing h =
    let common : ℕ = common_ports ports.members ports.passing in
    has_port-without common p (common_small ports.members ports.passing members) h p
    ∙ ap (λ b. not b && has_port common p) (eq-eqb p p refl)
never_back (AtPort q) p ports members passing h = false_from_ne_true _ (λ is.
    let alone = alone_is q (Port p) ports p passing is in
    true≢false (sym (eq-eqb p q (sym alone.same)) ∙ alone.other))
never_back (AtEdge o) p ports members passing h = has_port-none p

-- the port where a destination was learnt is a member
abbrev IsMember : Place → ℕ → Type 0
IsMember Everywhere members = Unit {0}
IsMember (AtPort p) members = has_port members p ≡ true
IsMember (AtEdge o) members = Unit {0}

pub member_is : (destination : ℕ) (entry owner : Option ℕ) (own members : ℕ)
    → ForSome entry (λ q. has_port members q ≡ true) → IsMember (place_of destination entry owner own) members
member_is destination entry owner own members h = go (is_group destination) entry owner h
  where
    owned : (owner : Option ℕ) → IsMember (owned_place owner own) members
    owned None = tt
    owned (Some o) = elim (o == own) as (λ b. IsMember (cond b Everywhere (AtEdge o)) members) [
      | true ↦ tt
      | false ↦ tt
    ]

    go : (b : Bool) (entry owner : Option ℕ) → ForSome entry (λ q. has_port members q ≡ true)
        → IsMember (cond b Everywhere (learnt_place entry owner own)) members
    go true entry owner h = tt
    go false None owner h = owned owner
    go false (Some q) owner h = h q refl

-- the ports that get a frame for a port where it was learnt, or for everywhere, are members that pass
pub local_passes : (place : Place) (from : Source) (ports : Ports) → ports.passing < 2 ^ 64
    → IsMember place ports.members → ArePassing ports.members ports.passing (local_of place from ports)
local_passes Everywhere from ports small member q port there = open_is from ports q there
local_passes (AtPort p) from ports small member q port there =
    let alone = alone_is p from ports q small there in
    (ap (has_port ports.members) (sym alone.same) ∙ member, ap (has_port ports.passing) (sym alone.same) ∙ alone.passes)
local_passes (AtEdge o) from ports small member q port there = none_there q there

-- a place is a port where the entry is
pub place_is : (destination : ℕ) (entry owner : Option ℕ) (own : ℕ) → ForSome entry IsPort
    → IsPlace (place_of destination entry owner own)
place_is destination entry owner own h = go (is_group destination) entry owner h
  where
    owned : (owner : Option ℕ) → IsPlace (owned_place owner own)
    owned None = tt
    owned (Some o) = elim (o == own) as (λ b. IsPlace (cond b Everywhere (AtEdge o))) [ true ↦ tt | false ↦ tt ]

    go : (b : Bool) (entry owner : Option ℕ) → ForSome entry IsPort
        → IsPlace (cond b Everywhere (learnt_place entry owner own))
    go true entry owner h = tt
    go false None owner h = owned owner
    go false (Some q) owner h = h q refl

-- a known place is the port where the destination was learnt, or the edge that owns it
abbrev IsWhere : Option ℕ → Option ℕ → Place → Type 0
IsWhere entry owner Everywhere = Unit {0}
IsWhere entry owner (AtPort p) = entry ≡ Some p
IsWhere entry owner (AtEdge o) = owner ≡ Some o

pub where_is : (destination : ℕ) (entry owner : Option ℕ) (own : ℕ)
    → IsWhere entry owner (place_of destination entry owner own)
where_is destination entry owner own = go (is_group destination) entry owner
  where
    owned : (entry owner : Option ℕ) → IsWhere entry owner (owned_place owner own)
    owned entry None = tt
    owned entry (Some o) = elim (o == own) as (λ b. IsWhere entry (Some o) (cond b Everywhere (AtEdge o))) [
      | true ↦ tt
      | false ↦ refl
    ]

    go : (b : Bool) (entry owner : Option ℕ) → IsWhere entry owner (cond b Everywhere (learnt_place entry owner own))
    go true entry owner = tt
    go false None owner = owned None owner
    go false (Some q) owner = refl

-- the ports that get a frame for a known place: the port where it was learnt
pub at_port : (entry owner : Option ℕ) (place : Place) (from : Source) (ports : Ports) (q : ℕ) → ports.passing < 2 ^ 64
    → IsWhere entry owner place → place ≢ Everywhere → has_port (local_of place from ports) q ≡ true → entry ≡ Some q
at_port entry owner Everywhere from ports q small is known there = absurd (known refl)
at_port entry owner (AtPort p) from ports q small is known there = is
    ∙ ap Some (alone_is p from ports q small there).same
at_port entry owner (AtEdge o) from ports q small is known there = none_there q there

one_of : (x o : ℕ) → Contains (x ∷ []) o → x ≡ o
one_of x o (zero, below, at) = at
one_of x o (suc k, below, at) = absurd (omega arith)

pub none_of : {P : Type 0} (o : ℕ) → Contains [] o → P
none_of o (k, below, at) = absurd (omega arith)

-- the edges that get it: its owner
pub at_edge : (entry owner : Option ℕ) (place : Place) (from : Source) (flood : List ℕ) (own o : ℕ)
    → IsWhere entry owner place → place ≢ Everywhere → Contains (remote_of place from flood own) o → owner ≡ Some o
at_edge entry owner Everywhere from flood own o is known there = absurd (known refl)
at_edge entry owner (AtPort q) (Port p) flood own o is known there = none_of o there
at_edge entry owner (AtPort q) Tunnel flood own o is known there = none_of o there
at_edge entry owner (AtEdge e) (Port p) flood own o is known there = is ∙ ap Some (one_of e o there)
at_edge entry owner (AtEdge e) Tunnel flood own o is known there = none_of o there

pub one_copy : (place : Place) (from : Source) (flood : List ℕ) (own : ℕ) (ports : Ports) → ports.passing < 2 ^ 64
    → place ≢ Everywhere
    → IsOneCopy (local_of place from ports) (remote_of place from flood own)
one_copy Everywhere from flood own ports small known = absurd (known refl)
one_copy (AtPort q) from flood own ports small known = record {
  one_port = λ a b ha hb in_a in_b. sym (alone_is q from ports a small in_a).same
      ∙ (alone_is q from ports b small in_b).same;
  one_edge = subst (λ (xs : List ℕ). length xs ≤ 1) (sym (nowhere from)) (omega arith);
  not_both = λ a ha in_a. nowhere from;
}
  where
    nowhere : (from : Source) → remote_of (AtPort q) from flood own ≡ []
    nowhere (Port p) = refl
    nowhere Tunnel = refl
one_copy (AtEdge o) from flood own ports small known = record {
  one_port = λ a b ha hb in_a in_b. none_there a in_a;
  one_edge = few from;
  not_both = λ a ha in_a. none_there a in_a;
}
  where
    few : (from : Source) → length (remote_of (AtEdge o) from flood own) ≤ 1
    few (Port p) = omega arith
    few Tunnel = omega arith

pub others_advertise : (t : Table) (vni own : ℕ) (flood : List ℕ) → IsFloodList t vni flood
    → AreOthers t vni own (others_of own flood)
others_advertise t vni own flood list =
    let other : ℕ → Bool = λ edge. not (edge == own) in
    record {
      ascending = IsStrictlyIncreasing-filter other flood list.ascending;
      exact = λ o. (
        λ there.
            let is_in = in_filter other flood o there in
            let passes : other o ≡ true = is_in.1 in
            (λ same. let is = eq-eqb o own same in grind (arith, nat_tests), (list.exact o).0 is_in.0),
        λ is. Contains-filter other flood o ((list.exact o).1 is.1) (grind (arith, nat_tests)),
      );
    }

-- ---- edges that are away

nobody_owner : (o : Option ℕ) → up_owner [] o ≡ o
nobody_owner None = refl
nobody_owner (Some o) = refl

nobody_edges : (edges : List ℕ) → up_edges [] edges ≡ edges
nobody_edges [] = refl
nobody_edges (o ∷ edges) = ap (λ (xs : List ℕ). o ∷ xs) (nobody_edges edges)

-- if no edge is away, the decision is that of the table
pub local_nobody : (away : List ℕ) (t : Table) (vni destination : ℕ) (entry : Option ℕ) (own : ℕ) (from : Source)
    (members passing : ℕ) → away ≡ []
    → local_up away t vni destination entry own from members passing
    ≡ local_for t vni destination entry own from members passing
local_nobody away t vni destination entry own from members passing none =
    ap (λ (a : List ℕ). local_up a t vni destination entry own from members passing) none
    ∙ ap (λ (o : Option ℕ). local_of (place_of destination entry o own) from
    (record { members = members; passing = passing })) (nobody_owner (owner t vni destination))

pub remote_nobody : (away : List ℕ) (t : Table) (vni destination : ℕ) (entry : Option ℕ) (own : ℕ) (from : Source)
    → away ≡ [] → remote_up away t vni destination entry own from ≡ remote_for t vni destination entry own from
remote_nobody away t vni destination entry own from none =
    ap (λ (a : List ℕ). remote_up a t vni destination entry own from) none
    ∙ (λ i. remote_of (place_of destination entry (nobody_owner (owner t vni destination) i) own) from
    (nobody_edges (flood_of t vni) i) own)

-- an owner that is up owns what it owned, and one that is away owns nothing
pub owner_up : (away : List ℕ) (owned : Option ℕ) (o : ℕ) → owned ≡ Some o → is_up away o ≡ true
    → up_owner away owned ≡ Some o
owner_up away owned o is up = ap (up_owner away) is ∙ ap (λ (b : Bool). cond b (Some o) None) up

pub owner_away : (away : List ℕ) (owned : Option ℕ) (o : ℕ) → owned ≡ Some o → is_up away o ≡ false
    → up_owner away owned ≡ None
owner_away away owned o is gone = ap (up_owner away) is ∙ ap (λ (b : Bool). cond b (Some o) None) gone

owned_up : (away : List ℕ) (owned : Option ℕ) (e : ℕ) → up_owner away owned ≡ Some e → is_up away e ≡ true
owned_up away None e is = absurd (let no : None ≡ Some e = is in cc)
owned_up away (Some o) e is = go (is_up away o) refl is
  where
    go : (b : Bool) → is_up away o ≡ b → cond b (Some o) None ≡ Some e → is_up away e ≡ true
    go true up p = let same : o ≡ e = cc in subst (λ x. is_up away x ≡ true) same up
    go false gone p = absurd (let no : None ≡ Some e = p in cc)

-- an edge that gets a frame is up
pub given_up : (away : List ℕ) (entry owned : Option ℕ) (place : Place) (from : Source) (flood : List ℕ) (own o : ℕ)
    → IsWhere entry (up_owner away owned) place → Contains (remote_of place from (up_edges away flood) own) o
    → is_up away o ≡ true
given_up away entry owned place Tunnel flood own o is there = none_of o there
given_up away entry owned Everywhere (Port p) flood own o is there =
    let other : ℕ → Bool = λ edge. not (edge == own) in
    let in_up = in_filter other (up_edges away flood) o there in
    let was = in_filter (is_up away) flood o in_up.0 in
    was.1
given_up away entry owned (AtPort q) (Port p) flood own o is there = none_of o there
given_up away entry owned (AtEdge e) (Port p) flood own o is there =
    subst (λ x. is_up away x ≡ true) (one_of e o there) (owned_up away owned e is)

pub remote_is_up : (away : List ℕ) (t : Table) (vni destination : ℕ) (entry : Option ℕ) (own : ℕ) (from : Source)
    (o : ℕ) → Contains (remote_up away t vni destination entry own from) o → is_up away o ≡ true
remote_is_up away t vni destination entry own from o there =
    given_up away entry (owner t vni destination) (place_of destination entry (up_owner away (owner t vni destination))
    own) from (flood_of t vni) own o (where_is destination entry (up_owner away (owner t vni destination)) own) there
