-- One edge of an undisturbed fabric: the updates that it may still make, and those that it hasn't received yet.
use Rattle.std.specs.Prelude.{◌≡◌, ◌⊎◌, ℕ, ◌+◌, ◌==◌, ◌&&◌, Bool, false, not, None, is_some, List, length}
use Rattle.std.specs.List.{count_by, list_any}
use Rattle.std.specs.Ordering.{eq_by_cmp}
use Rattle.route_wire.specs.declared.update.Key.{Key}
use Rattle.route_wire.specs.declared.update.Register.{Register}
use Rattle.route_wire.specs.declared.update.Value.{Value}
use Rattle.route_wire.specs.Fields.{Fields}
use Rattle.route_wire.specs.Order.{register_cmp, is_newer}
use Rattle.route_join.specs.Table.{value_at, is_news}
use Rattle.route_join.specs.Owner.{advert_in}
use Rattle.ev_claims.specs.Speaker.{Speaker, own, own_advert, is_newest, is_returning}
use Rattle.ev_claims.specs.LocalRoutes.{LocalRoutes, entries}

-- ---- adverts of an earlier incarnation

-- w is a newer advert of u's register
abbrev pub is_over : Fields → Fields → Bool
is_over u w = eq_by_cmp register_cmp w.register u.register
    && (is_some (advert_in w.value.content) && is_newer w.value u.value)

-- the pool has no newer advert of its register
abbrev pub is_latest : List Fields → Fields → Bool
is_latest pool u = not (list_any (is_over u) pool)

-- an own advert of an earlier incarnation that would become its register's value
abbrev pub comes_back : Speaker → Fields → Bool
comes_back e u = u.register.originator == e.address && is_returning e u

-- the number of updates of the pool that would come back and are the newest advert of their register
abbrev pub returning : List Fields → Speaker → ℕ
returning pool e = count_by (λ (u : Fields). comes_back e u && is_latest pool u) pool

-- ---- updates that may still be made

-- the number of withdrawals that the edge may still make: of learnt stations, and of adverts that come back
abbrev pub unsaid : List Fields → LocalRoutes → ℕ
unsaid pool c = entries c + returning pool c.speaker

-- the number of updates that it may still announce
abbrev pub unannounced : List Fields → LocalRoutes → ℕ
unannounced pool c = length c.speaker.pending + unsaid pool c

-- ---- updates that it hasn't received

-- the number of updates of the pool that are news to the edge
abbrev pub missing : List Fields → Speaker → ℕ
missing pool e = count_by (is_newest e) pool

-- ---- the edge later on

-- The change of an edge in an undisturbed fabric: a value that was no news is still no news, and an own register is
-- unchanged or advertises nothing.
pub record IsLater (a b : Speaker) : Type 0 where
  pub address : b.address ≡ a.address
  pub incarnation : b.incarnation ≡ a.incarnation
  pub originators : b.table.originators ≡ a.table.originators
  pub news : (r : Register) (w : Value) → is_news (value_at a.table r) w ≡ false
      → is_news (value_at b.table r) w ≡ false
  pub fades : (k : Key) → (own b k ≡ own a k) ⊎ (own_advert b k ≡ None)
