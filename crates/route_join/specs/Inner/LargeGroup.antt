-- Many updates of one subject, found by their registers, and the best advert among them.
use Rattle.std.specs.Prelude.{◌≡◌, ℕ, Option, Some, None, List, [], ◌∷◌, map}
use Rattle.std.specs.List.{slice_get}
use Rattle.std.specs.List.Sorted.{IsStrictlySortedBy}
use Rattle.std.specs.Map.{lookup, keys_of}
use Rattle.std.specs.Option.{option_map}
use Rattle.std.specs.BTreeMap.{is_at}
use Rattle.route_wire.specs.declared.update.Content.TheVariants.{Withdrawn}
use Rattle.route_wire.specs.declared.update.Register.{Register}
use Rattle.route_wire.specs.declared.update.Value.{Value}
use Rattle.route_wire.specs.Fields.{Fields}
use Rattle.route_wire.specs.Order.{register_cmp}
use Rattle.route_join.specs.declared.winner_tree.WinnerNode.{WinnerNode}
use Rattle.route_join.specs.Inner.WinnerTree.{owns, AreSettled}

-- the place of a register, if it has one
abbrev pub place_at : List (Register × ℕ) → Register → Option ℕ
place_at es r = lookup (is_at (register_cmp r)) es

-- the value of an update; in all uses there is one
abbrev pub value_in : Option Fields → Value
value_in None = record { counter = 0; incarnation = 0; content = Withdrawn }
value_in (Some u) = u.value

-- a register's update, by its place
abbrev pub update_at : List Fields → Register × ℕ → Fields
update_at us e = record { register = e.0; value = value_in (slice_get us e.1) }

-- the updates of the registers, in their order
abbrev pub updates_along : List Fields → List (Register × ℕ) → List Fields
updates_along us es = map (update_at us) es

-- the updates of a tree with these places
abbrev pub large_updates : List (Register × ℕ) → List WinnerNode → List Fields
large_updates es nodes = updates_along (owns nodes) es

-- the register of the update at a place, if the place exists
abbrev pub register_at : List Fields → ℕ → Option Register
register_at us p = option_map (λ (u : Fields). u.register) (slice_get us p)

-- the update at the place of each register is one of that register
abbrev pub ArePlaced : List Fields → List (Register × ℕ) → Type 0
ArePlaced us [] = Unit {0}
ArePlaced us (e ∷ es) = (register_at us e.1 ≡ Some e.0) × ArePlaced us es

-- The invariant: registers in their order, each with the place of its update, no other update, and the best advert.
pub record IsLargeGroup (es : List (Register × ℕ)) (nodes : List WinnerNode) : Type 0 where
  pub ordered : IsStrictlySortedBy register_cmp (keys_of es)
  pub placed : (r : Register) (p : ℕ) → place_at es r ≡ Some p → register_at (owns nodes) p ≡ Some r
  pub known : (r : Register) (p : ℕ) → register_at (owns nodes) p ≡ Some r → place_at es r ≡ Some p
  pub settled : AreSettled nodes
