-- The numbers of an entry give its update back.
use Rattle.std.proofs.Common.{◌≡◌, ℕ, ◌+◌, ◌*◌, ◌/◌, ◌%◌, ◌^◌, ◌<◌, ◌≤◌, Bool, Option, Some, None}
use Rattle.std.proofs.Common.{arith}
use Rattle.std.proofs.Math.Nat.{mod-eq_of_lt}
use Rattle.std.proofs.lemmas.Nat.{mod-mul-add}
use Rattle.route_wire.specs.declared.update.Key.{Key}
use Rattle.route_wire.specs.declared.update.Key.TheVariants.{Flood, Mac}
use Rattle.route_wire.specs.declared.update.Register.{Register}
use Rattle.route_wire.specs.declared.update.Advert.{Advert}
use Rattle.route_wire.specs.declared.update.Content.TheVariants.{Advert as Advertised}
use Rattle.route_wire.specs.declared.update.Value.{Value}
use Rattle.route_wire.specs.Fields.{Fields, IsUpdate}
use Rattle.route_wire.specs.Order.{ip_of}
use Rattle.route_join.specs.Subject.{Subject, subject_of}
use Rattle.route_join.specs.Inner.PackedUpdate.{ip_by, content_by, IsEntry}

pub v4_back : (n : ℕ) → n < 2 ^ 32 → n % 2 ^ 32 ≡ n
v4_back n h = mod-eq_of_lt h

pub advert_is : (a : Advert) (static : Bool) (label : Option ℕ) → a.is_static ≡ static → a.label2 ≡ label
    → Advertised record { is_static = static; sequence = a.sequence; label2 = label } ≡ Advertised a
advert_is a static label e f = rw (← e, ← f)

module _ (version kind label : ℕ) (few : version ≤ 2) (some : kind ≤ 4) (small : label < 2 ^ 24) where
  kind_back : ((version * 8 + kind) * 2 ^ 24 + label) / 2 ^ 24 % 8 ≡ kind
  kind_back = omega arith

  version_back : ((version * 8 + kind) * 2 ^ 24 + label) / 2 ^ 27 ≡ version
  version_back = omega arith

  pub is_entry : (u : Fields) (r : Register) (v : Value) (number sequence : ℕ) → r ≡ u.register → v ≡ u.value
      → ip_by version number ≡ ip_of r.key → content_by kind sequence label ≡ v.content → IsUpdate u
      → IsEntry v.counter v.incarnation r.originator number sequence ((version * 8 + kind) * 2 ^ 24 + label) u
  is_entry u r v number sequence register value at told h = record {
    update = h;
    originator = rw register;
    ip = rw (version_back, ← register) at;
    counter = rw value;
    incarnation = rw value;
    content = rw (kind_back, mod-mul-add (version * 8 + kind) (2 ^ 24) label small, ← value) told;
  }

-- ---- the update of a subject
pub flood_back : (k : Key) (s : Subject) → subject_of k ≡ s → s.mac ≡ None → Flood s.vni ≡ k
flood_back k s h e = grind arith

pub mac_back : (k : Key) (s : Subject) (m : ℕ) → subject_of k ≡ s → s.mac ≡ Some m → Mac s.vni m (ip_of k) ≡ k
mac_back k s m h e = grind arith
