-- The life of an edge: its table, and a look-up in it.
use Rattle.std.proofs.Common.{◌≡◌, Option, Some, None, refl, sym, ap, ◌∙◌}
use Rattle.std.specs.Option.{option_map}
use Rattle.route_wire.specs.declared.update.Register.{Register}
use Rattle.route_wire.specs.declared.update.Value.{Value}
use Rattle.route_wire.specs.Fields.{Fields}
use Rattle.route_wire.specs.Order.{is_newer}
use Rattle.route_join.specs.Table.{Table, value_at, update_at, is_news}

-- a value is news at a register if it is newer than the update there
pub newer_there : (t : Table) (r : Register) (last : Fields) (v : Value) → Some last ≡ update_at t r
    → is_newer v last.value ≡ is_news (value_at t r) v
newer_there t r last v e = go (value_at t r) refl e
  where
    go : (o : Option Value) → value_at t r ≡ o → Some last
        ≡ option_map (λ (w : Value). let u : Fields = record { register = r; value = w } in u) o
        → is_newer v last.value ≡ is_news (value_at t r) v
    go None at e = absurd (let no : Some last ≡ None = e in cc)
    go (Some w) at e =
        let h : Some last ≡ Some (record { register = r; value = w }) = e in
        let same : last ≡ record { register = r; value = w } = cc in
        ap (λ (u : Fields). is_newer v u.value) same ∙ sym (ap (λ (x : Option Value). is_news x v) at)
