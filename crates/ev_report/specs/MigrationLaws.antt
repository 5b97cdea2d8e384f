-- A migration keeps the owner of each address, and no replaced IP address comes back.
use Rattle.std.specs.Prelude.{◌≡◌, ◌≢◌, ℕ, List, ◌++◌, MatchOption, Some, None, Contains}
use Rattle.std.specs.Ordering.{nat_cmp}
use Rattle.route_wire.specs.declared.update.Key.TheVariants.{Mac}
use Rattle.route_wire.specs.declared.update.Advert.{Advert}
use Rattle.route_wire.specs.declared.update.Content.TheVariants.{Withdrawn, Advert as Advertised}
use Rattle.route_wire.specs.Fields.{Fields}
use Rattle.route_join.specs.Table.{Table, register_of, value_at, IsTableOf}
use Rattle.route_join.specs.Owner.{IsBetterBy, owner}
use Rattle.ev_report.specs.Migrated.{IsNewest, withdrawn_for, AreMigrated}

-- ---- who owned an address before: among the old registers' newest updates

-- o's newest update of the address advertises it, better than that of each other one: static first, then the higher
-- sequence number, then the lower originator
pub record IsOldOwner (us : List Fields) (vni mac o : ℕ) : Type 0 where
  pub update : Fields
  pub advert : Advert
  pub newest : IsNewest us (register_of o (Mac vni mac None)) update
  pub own : update.value.content ≡ Advertised advert
  pub best : (p : ℕ) (w : Fields) (b : Advert) → p ≢ o → IsNewest us (register_of p (Mac vni mac None)) w
      → w.value.content ≡ Advertised b
      → IsBetterBy advert.is_static b.is_static advert.sequence b.sequence (nat_cmp o p)

-- the newest update of each that names the address withdraws it
abbrev pub IsOldUnowned : List Fields → ℕ → ℕ → Type 0
IsOldUnowned us vni mac = (p : ℕ) (w : Fields) → IsNewest us (register_of p (Mac vni mac None)) w
    → w.value.content ≡ Withdrawn

-- ---- laws

-- each address has the owner that it had before, none exactly where it had none
abbrev pub SameOwners : Type 0
SameOwners = (us ws : List Fields) (t : Table) (vni mac : ℕ) → AreMigrated us ws → IsTableOf ws t
    → MatchOption (owner t vni mac) (IsOldUnowned us vni mac) (IsOldOwner us vni mac)

-- A register w that the newest update u of its old register replaced is withdrawn in a table of the output and of any
-- of the old updates again, unless one of these at w has exactly the incarnation and counter of u.
abbrev pub StaysAway : Type 0
StaysAway =
    (us ws olds : List Fields) (t : Table) (u w : Fields) → AreMigrated us ws
    → ((x : Fields) → Contains olds x → Contains us x) → IsTableOf (ws ++ olds) t
    → IsNewest us w.register u → Contains us w → w.register ≢ u.register
    → ((x : Fields) → Contains olds x → x.register ≡ w.register → x.value.incarnation ≡ u.value.incarnation
    → x.value.counter ≢ u.value.counter)
    → value_at t w.register ≡ Some (withdrawn_for u w.register).value
