-- the fields of a speaker once it has said or heard something
use Rattle.std.proofs.Common.{◌≡◌, ◌≢◌, true, false, Option, Some, None, List, Result, Ok, Err, refl, ap}
use Rattle.std.proofs.Common.{◌∙◌}
use Rattle.std.specs.Prelude.{OnOk, OnErr, IsSome, ◌↔◌}
use Rattle.std.specs.Option.{option_map}
use Rattle.route_wire.specs.declared.update.Key.{Key}
use Rattle.route_wire.specs.declared.update.Register.{Register}
use Rattle.route_wire.specs.declared.update.Content.{Content}
use Rattle.route_wire.specs.declared.update.Value.{Value}
use Rattle.route_wire.specs.Fields.{Fields}
use Rattle.route_join.specs.declared.table.Taken.{Taken}
use Rattle.route_join.specs.declared.table.TakeError.{TakeError}
use Rattle.route_join.specs.declared.table.TakeError.TheVariants.{UnknownOriginator, NoMemory}
use Rattle.route_join.specs.Table.{Table, value_at, update_at, is_listed, with_update}
use Rattle.route_join.specs.Owner.{advert_of}
use Rattle.ev_claims.specs.Speaker.{Speaker, own_register, own_advert, next_value, after_originating}
use Rattle.ev_claims.specs.Inner.Speaker.{IsSpeaker}
use Rattle.ev_claims.proofs.Numbers.{said_numbers, said_rooms, said_joins, heard_numbers, heard_rooms}

-- the result of a look-up of a register
pub record IsThere (t : Table) (r : Register) (last : Fields) : Type 0 where
  pub value : Value
  pub at : value_at t r ≡ Some value
  pub named : last.register ≡ r
  pub valued : last.value ≡ value

pub there : (t : Table) (r : Register) (last : Fields) → Some last ≡ update_at t r → IsThere t r last
there t r last e = go (value_at t r) refl e
  where
    go : (o : Option Value) → value_at t r ≡ o → Some last
        ≡ option_map (λ (v : Value). let u : Fields = record { register = r; value = v } in u) o → IsThere t r last
    go None at e = absurd (let no = e in cc)
    go (Some v) at e = record {
      value = v;
      at = at;
      valued =
          (let h = e in
          let same : last ≡ record { register = r; value = v } = cc in ap (λ (u : Fields). u.value) same);
      named = (let h = e in
          let same : last ≡ record { register = r; value = v } = cc in ap (λ (u : Fields). u.register) same);
    }

-- a listed originator's update of a register that is there is taken
pub taken_there : (t : Table) {t' : Table} (u : Fields) {v : Value} (r : Result Taken TakeError) → value_at t
    u.register ≡ Some v
    → is_listed t u.register.originator ≡ true
    → OnOk r (t' ≡ with_update t u) → (r ≡ Err UnknownOriginator) ↔ (is_listed t u.register.originator ≡ false)
    → (r ≡ Err NoMemory → value_at t u.register ≡ None) → t' ≡ with_update t u
taken_there t u (Ok x) at listed ok unknown full = ok
taken_there t u (Err UnknownOriginator) at listed ok unknown full = absurd (cc (unknown.0 refl))
taken_there t u (Err NoMemory) at listed ok unknown full = absurd (cc (full refl))

pub said_is : {e : Speaker} {known : List Register} {t' : Table} (k : Key) {c : Content} {last u : Fields} {q :
    Register} {r : Result Taken TakeError} → IsSpeaker e known → Some last ≡ update_at e.table (own_register e k)
    → u ≡ record { register = q; value = next_value e c } → q ≡ last.register
    → OnOk r (t' ≡ with_update e.table u) → (r ≡ Err UnknownOriginator)
    ↔ (is_listed e.table u.register.originator ≡ false) → (r ≡ Err NoMemory → value_at e.table u.register ≡ None)
    → t' ≡ (after_originating e k c).table
said_is {e} {t'} k {c} {last} {u} {r} h found is named ok unknown full =
    let is_there = there e.table (own_register e k) last found in
    let register = ap (λ (x : Fields). x.register) is ∙ named ∙ is_there.named in
    taken_there e.table u r ((rw register) ∙ is_there.at)
    (ap (λ (x : Register). is_listed e.table x.originator) register ∙ h.numbers.known) ok unknown full
    ∙ (rw (is ∙ (λ i. record { register = (named ∙ is_there.named) i; value = next_value e c })))
    ∙ said_joins e k c h.numbers

pub said_speaker : {e : Speaker} {known : List Register} (k : Key) (c : Content) {last : Fields} → IsSpeaker e known
    → IsSome (own_advert e k) → Some last ≡ update_at e.table (own_register e k)
    → IsSpeaker (after_originating e k c) known
said_speaker {e} {known} k c {last} h said found =
    let is_there = there e.table (own_register e k) last found in
    record {
      numbers = said_numbers e k c h.numbers;
      rooms =
          said_rooms e k c known (h.rooms k is_there.value is_there.at (h.numbers.alive k is_there.value is_there.at
          (rw (ap advert_of is_there.at) at said))) h.rooms;
    }

pub heard_speaker : {e : Speaker} {known : List Register} {t' : Table} (u : Fields) (r : Result Taken TakeError)
    → u.register.originator ≢ e.address → IsSpeaker e known
    → OnOk r (t' ≡ with_update e.table u) → OnErr r (t' ≡ e.table) → IsSpeaker (record e { table = t' }) known
heard_speaker {e} {known} u (Ok x) other h ok err = rw ok (record {
  numbers = heard_numbers e u other h.numbers;
  rooms
      = heard_rooms e u known other h.rooms;
})
heard_speaker u (Err x) other h ok err = rw err h
