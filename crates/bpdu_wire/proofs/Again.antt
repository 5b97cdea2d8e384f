-- A reader reads written octets as the same BPDU.
use Rattle.std.proofs.Common.{◌≡◌, ℕ, Bool, true, false, nat_lt, cond, List, [], ◌∷◌, ◌++◌, length, Some, None, Ok}
use Rattle.std.proofs.Common.{Err, refl, ap, ◌∙◌, arith}
use Rattle.byteorder.specs.Endian.{big_bytes}
use Rattle.byteorder.specs.Numbers.{big_number-reads_back}
use Rattle.bpdu_wire.specs.declared.bpdu.Message.{Message}
use Rattle.bpdu_wire.specs.declared.bpdu.Bpdu.{Bpdu}
use Rattle.bpdu_wire.specs.declared.bpdu.Bpdu.TheVariants.{Config, Rst, Tcn}
use Rattle.bpdu_wire.specs.declared.refusal.BpduRefusal.TheVariants.{Short, Aged}
use Rattle.bpdu_wire.specs.Bpdu.{is_aged}
use Rattle.bpdu_wire.specs.Reading.{message_of, unless_refused, reading}
use Rattle.bpdu_wire.specs.Writing.{message_octets, octets_of, read_again}
use Rattle.bpdu_wire.specs.Inner.Writing.{HasVector, HasTimes}
use Rattle.std.proofs.lemmas.Bool.{le-ltb as not_less}

message_again : (version type : ℕ) (m : Message) (after rest : List ℕ) → HasVector m → HasTimes m
    → message_of (message_octets version type m after ++ rest) ≡ m
message_again version type m after rest vector times =
    let tail : List ℕ = after ++ rest in
    let delay = big_number-reads_back 2 m.forward_delay tail times.forward_delay in
    let from_hello : List ℕ = big_bytes 2 m.forward_delay ++ tail in
    let hello = big_number-reads_back 2 m.hello from_hello times.hello in
    let from_max : List ℕ = big_bytes 2 m.hello ++ from_hello in
    let max = big_number-reads_back 2 m.max_age from_max times.max_age in
    let from_age : List ℕ = big_bytes 2 m.max_age ++ from_max in
    let age = big_number-reads_back 2 m.message_age from_age times.message_age in
    let from_port : List ℕ = big_bytes 2 m.message_age ++ from_age in
    let port = big_number-reads_back 2 m.port from_port vector.port in
    let from_bridge : List ℕ = big_bytes 2 m.port ++ from_port in
    let bridge = big_number-reads_back 8 m.bridge from_bridge vector.bridge in
    let from_cost : List ℕ = big_bytes 8 m.bridge ++ from_bridge in
    let cost = big_number-reads_back 4 m.cost from_cost vector.cost in
    let root = big_number-reads_back 8 m.root (big_bytes 4 m.cost ++ from_cost) vector.root in
    λ i. record {
      flags = m.flags;
      root = root i;
      cost = cost i;
      bridge = bridge i;
      port = port i;
      message_age = age i;
      max_age = max i;
      hello = hello i;
      forward_delay = delay i;
    }

-- the result, if at most the last of the tests is met
last_test : (a b f : Bool) (bpdu : Bpdu) → a ≡ false → b ≡ false
    → unless_refused (cond a (Some Short) (cond b (Some Short) (cond f (Some Aged) None))) bpdu
    ≡ cond f (Err Aged) (Ok bpdu)
last_test true b f bpdu h k = cc
last_test false true f bpdu h k = cc
last_test false false true bpdu h k = refl
last_test false false false bpdu h k = refl

along : (a b : Bool) (x y : Bpdu) → x ≡ y
    → unless_refused (cond a (Some Short) (cond b (Some Short) (cond (is_aged x) (Some Aged) None))) x
    ≡ unless_refused (cond a (Some Short) (cond b (Some Short) (cond (is_aged y) (Some Aged) None))) y
along a b x y e = ap (λ (z : Bpdu). unless_refused (cond a (Some Short)
    (cond b (Some Short) (cond (is_aged z) (Some Aged) None))) z) e

pub config_again : (m : Message) (rest : List ℕ) → HasVector m → HasTimes m
    → reading (octets_of (Config m) ++ rest) ≡ read_again (Config m)
unfolding reading
config_again m rest vector times =
    let octets : List ℕ = octets_of (Config m) ++ rest in
    let four = not_less (length octets) 4 (omega arith) in
    let whole = not_less (length octets) 35 (omega arith) in
    along (nat_lt (length octets) 4) (nat_lt (length octets) 35) (Config (message_of octets)) (Config m)
    (ap Config (message_again 0 0 m [] rest vector times))
    ∙ last_test _ _ (is_aged (Config m)) (Config m) four whole

pub rst_again : (m : Message) (rest : List ℕ) → HasVector m → HasTimes m
    → reading (octets_of (Rst m) ++ rest) ≡ read_again (Rst m)
unfolding reading
rst_again m rest vector times =
    let octets : List ℕ = octets_of (Rst m) ++ rest in
    let four = not_less (length octets) 4 (omega arith) in
    let whole = not_less (length octets) 36 (omega arith) in
    along (nat_lt (length octets) 4) (nat_lt (length octets) 36) (Rst (message_of octets)) (Rst m)
    (ap Rst (message_again 2 2 m (0 ∷ []) rest vector times))
    ∙ last_test _ _ (is_aged (Rst m)) (Rst m) four whole

pub tcn_again : (rest : List ℕ) → reading (octets_of Tcn ++ rest) ≡ read_again Tcn
unfolding reading
tcn_again rest =
    let octets : List ℕ = octets_of Tcn ++ rest in
    let four = not_less (length octets) 4 (omega arith) in
    last_test _ _ false Tcn four four
