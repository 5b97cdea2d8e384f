-- The routes and stations of an edge at its opening.
use Rattle.std.specs.Prelude.{◌≡◌, ℕ, List, [], ◌∷◌, length, map, IsPermutation, IsSorted}
use Rattle.std.specs.Ordering.{nat_cmp}
use Rattle.route_wire.specs.declared.update.Key.{Key}
use Rattle.route_wire.specs.declared.update.Key.TheVariants.{Flood}
use Rattle.route_wire.specs.declared.update.Content.{Content}
use Rattle.route_wire.specs.declared.update.Content.TheVariants.{Advert as Advertised}
use Rattle.route_wire.specs.Fields.{flood_advert}
use Rattle.mac_arena.specs.Learning.{nothing_learnt}
use Rattle.ev_claims.specs.declared.opening.Start.{Start}
use Rattle.ev_claims.specs.Speaker.{Speaker, after_originating, silent}
use Rattle.ev_claims.specs.LocalRoutes.{LocalRoutes}
use Rattle.ev_claims.specs.Changes.{Says}

-- the flood list of each VNI is advertised, in this order
abbrev pub after_floods : Speaker → List ℕ → Speaker
after_floods e [] = e
after_floods e (v ∷ vs) = after_floods (after_originating e (Flood v) (Advertised flood_advert)) vs

-- Nothing is learnt. In a table that has heard nothing the edge advertises the flood list of each VNI, the lowest
-- first: so these updates have the numbers from 1, and are pending in this order.
pub record IsOpening (s : Start) (e : LocalRoutes) : Type 0 where
  pub vnis : IsPermutation s.vnis.items e.vnis
  pub ascending : IsSorted nat_cmp e.vnis
  pub speaker : e.speaker ≡ after_floods (silent s.address s.incarnation s.originators.items) e.vnis
  pub learned : e.learned ≡ nothing_learnt s.capacity (length s.ports.items) s.buckets s.salt
  pub ports : e.ports ≡ s.ports.items

-- the flood lists as own updates
abbrev pub floods_of : List ℕ → List (Key × Content)
floods_of vs = map (λ v. (Flood v, Advertised flood_advert)) vs

-- The opening is a change like any other: from nothing said and counter 0 the edge says the flood list of each VNI.
pub record Opens (s : Start) (e : LocalRoutes) : Type 0 where
  pub says : Says (silent s.address s.incarnation s.originators.items) e.speaker (floods_of e.vnis)
  pub count : length e.vnis ≡ length s.vnis.items
