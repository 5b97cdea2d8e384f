-- Lemmas on the items and the keys of a TOML table.
use Rattle.std.proofs.Common.{◌≡◌, ℕ, ◌+◌, ◌<◌, List, [], ◌∷◌, length, map, drop, get_or, String, Global, string_bytes}
use Rattle.std.proofs.Common.{refl, ap, arith}
use Rattle.std.specs.Map.{keys_of}
use Rattle.toml.specs.Data.{item}
use Rattle.toml.specs.View.{view, items_view, members_view}
use Rattle.toml.specs.declared.value.Value.{Value}
use Rattle.toml.proofs.Views.{items_view-drop}
use Rattle.ev_config.specs.Keys as keys

pub keys_of-view : (es : List (String Global × Value)) → keys.keys_of (members_view es) ≡ map string_bytes (keys_of es)
keys_of-view [] = refl
keys_of-view (e ∷ es) = ap (λ ks. string_bytes e.0 ∷ ks) (keys_of-view es)

pub count_of_view : (vs : List Value) → keys.count_of (items_view vs) ≡ length vs
count_of_view [] = refl
count_of_view (v ∷ vs) = grind (arith, count_of_view vs)

pub items_more : (vs : List Value) (i : ℕ) (d : Value) → i < length vs
    → items_view (drop i vs) ≡ item (view (get_or vs i d)) (items_view (drop (i + 1) vs))
items_more = items_view-drop
