-- Printed text is read back, and each text that is read is printed in the same form.
use Rattle.std.proofs.Common.{◌≡◌, ℕ, ◌+◌, ◌*◌, ◌/◌, ◌%◌, ◌^◌, ◌<◌, ◌≤◌, zero, suc, true, false, ◌&&◌, List, [], ◌∷◌}
use Rattle.std.proofs.Common.{◌++◌, length, take, drop, get_or, Option, Some, None, option_map, IfSome, MatchResult}
use Rattle.std.proofs.Common.{Result, Ok, Err, refl, sym, ◌∙◌, ap, subst, append_assoc, take-append-drop, drop-cons}
use Rattle.std.proofs.Common.{arith, rules, nat_lt, nat_le, ◌==◌, position, add-one, length-append, inl, inr}
use Rattle.std.proofs.lemmas.Bool.{eqb-true, eq-eqb, cases_lt}
use Rattle.std.proofs.lemmas.Bool.Decides.{nat_tests}
use Rattle.std.proofs.lemmas.List.Quantifiers.{position-Some}
use Rattle.std.proofs.lemmas.Option.{option_and_then_some, same_Some, none-some, cond_some}
use Rattle.std.proofs.lemmas.Fmt.{digits_decimal, digits_value-decimal, decimal_nonempty, first_decimal, decimal_digit}
use Rattle.std.proofs.lemmas.Fmt.{decimal-digits_value, IsAscii-from_digits}
use Rattle.std.proofs.lemmas.Str.{IsUtf8-from_ascii}
use Rattle.std.proofs.lemmas.Str.Parse.{IsNumeralModel, numerals_by_value, parse_digits}
use Rattle.std.proofs.Math.Seq.{take-append_seam, drop-append-add}
use Rattle.std.specs.List.{position_or_len, list_all}
use Rattle.std.specs.Char.{is_ascii_digit}
use Rattle.std.specs.Str.{IsUtf8}
use Rattle.std.specs.Str.Parse.{digits_value}
use Rattle.std.specs.Str.Parse.{ParsesUnsigned}
use Rattle.std.specs.Option.{SomeIff}
use Rattle.std.specs.Result.{OkIff, result_ok}
use Rattle.std.specs.Int.{byte_at}
use Rattle.std.proofs.lemmas.Nat.{from_be_bytes-to_be_bytes_8, from_be_bytes-to_be_bytes_4, be_bytes_8, be_bytes_4}
use Rattle.byteorder.specs.Endian.{big_number}
use Rattle.std.specs.Fmt.{decimal, digit_glyph}
use Rattle.ether_wire.specs.Addr.{hex_pair, mac_text, addr_text}
use Rattle.ether_wire.specs.Parse.{parted, is_decimal, decimal_of_text, hex_value, pair_of_text, mac_of_text}
use Rattle.ether_wire.specs.Parse.{addr_of_text}

-- no octet of the text is b
abbrev pub Lacks : ℕ → List ℕ → Type 0
Lacks b [] = Unit {0}
Lacks b (x ∷ xs) = ((x == b) ≡ false) × Lacks b xs

place_after : (b : ℕ) (x y : List ℕ) → Lacks b x → position_or_len (λ c. c == b) (x ++ b ∷ y) ≡ length x
place_after b [] y h = let same : (b == b) ≡ true = eq-eqb b b refl in rw same refl
place_after b (c ∷ x) y h = let other : (c == b) ≡ false = h.0 in rw other (omega (arith, place_after b x y h.1))

place_joined : (b : ℕ) (x y : List ℕ) → Lacks b x → position (λ c. c == b) (x ++ b ∷ y) ≡ Some (length x)
place_joined b x y h =
    let at = place_after b x y h in
    let long : nat_lt (length x) (length (x ++ b ∷ y)) ≡ true = simp length-append (grind (arith, nat_tests)) in
    rw (at, long) refl

-- two texts joined by an octet that the first one lacks are parted there
pub parted-joined : (b : ℕ) (x y : List ℕ) → Lacks b x → parted b (x ++ b ∷ y) ≡ Some (x, y)
unfolding parted
parted-joined b x y h =
    let front = take-append_seam x (b ∷ y) in
    let back = drop-append-add x (b ∷ y) 1 in
    rw (place_joined b x y h) (ap Some (λ i. (front i, back i)))

-- a text that is parted is joined of the parts
pub joined-parted : (b : ℕ) (s : List ℕ) (p : List ℕ × List ℕ) → parted b s ≡ Some p → s ≡ p.0 ++ b ∷ p.1
unfolding parted
joined-parted b s p e = elim (position (λ c. c == b) s) as (λ o. position (λ c. c == b) s ≡ o
    → option_map (λ i. (take i s, drop (i + 1) s)) o ≡ Some p → s ≡ p.0 ++ b ∷ p.1) [
      | None ↦ λ _ none. absurd (none-some p none)
      | Some i ↦ λ is some.
          let at = position-Some (λ c. c == b) s i 0 is in
          let same : get_or s i 0 ≡ b = eqb-true _ _ at.1 in
          let parts = same_Some (take i s, drop (i + 1) s) p some in
          let cut : drop i s ≡ b ∷ drop (suc i) s = rw same at (drop-cons s i 0 at.0) in
          let whole : s ≡ take i s ++ b ∷ drop (i + 1) s = rw add-one (sym (take-append-drop i s)
          ∙ ap (λ l. take i s ++ l) cut) in
          subst (λ q. s ≡ q.0 ++ b ∷ q.1) parts whole
    ] refl e

hex_value-glyph : (d : ℕ) → d < 16 → hex_value (digit_glyph false d) ≡ Some d
hex_value-glyph d h = grind (arith, nat_tests)

hex_value-spelt : (b d : ℕ) → hex_value b ≡ Some d → (b ≡ digit_glyph false d) × (d < 16)
hex_value-spelt b d e = grind (arith, nat_tests)

-- ---- decimal numbers

own : IsNumeralModel (λ ds. list_all is_ascii_digit ds ≡ true) (digits_value 10)
own = numerals_by_value _ (search rules)

pub record IsDecimal (s : List ℕ) : Type 0 where
  pub all : list_all is_ascii_digit s ≡ true
  pub nonempty : 0 < length s
  pub first : get_or s 0 0 ≡ 48 → length s ≡ 1

pub decimal_parts : (s : List ℕ) → is_decimal s ≡ true → IsDecimal s
unfolding is_decimal
decimal_parts s h = record {
  all = grind (arith, nat_tests);
  nonempty = grind (arith, nat_tests);
  first = grind (arith, nat_tests);
}

decimal_is : (s : List ℕ) → IsDecimal s → is_decimal s ≡ true
unfolding is_decimal
decimal_is s h = grind (arith, nat_tests)

pub is_decimal-decimal : (n : ℕ) → n < 2 ^ 64 → is_decimal (decimal n) ≡ true
is_decimal-decimal n h = decimal_is (decimal n) (record {
  all = digits_decimal own n h;
  nonempty = decimal_nonempty n h;
  first = λ zero. elim (cases_lt 0 n) [
    | inl above ↦ absurd (omega (arith, first_decimal n above h, zero))
    | inr below ↦ ap length (decimal_digit n (omega arith))
  ];
})

pub is_text : (s : List ℕ) → is_decimal s ≡ true → IsUtf8 s
is_text s h = IsUtf8-from_ascii s (IsAscii-from_digits s (own.to s (decimal_parts s h).all))

pub decimal_of_text-decimal : (max n : ℕ) → max < 2 ^ 64 → n ≤ max → decimal_of_text max (decimal n) ≡ Some n
unfolding decimal_of_text
decimal_of_text-decimal max n most h =
    let is = is_decimal-decimal n (omega arith) in
    let value = digits_value-decimal own n (omega arith) in
    let fits : nat_le n max ≡ true = grind (arith, nat_tests) in
    rw (is, value, fits) refl

pub decimal_of_text-spelt : (max : ℕ) (s : List ℕ) (n : ℕ) → max < 2 ^ 64 → decimal_of_text max s ≡ Some n
    → (s ≡ decimal n) × (n ≤ max)
unfolding decimal_of_text
decimal_of_text-spelt max s n most e =
    let found = cond_some (is_decimal s && nat_le (digits_value 10 s) max) (digits_value 10 s) n e in
    let is : is_decimal s ≡ true = grind (arith, nat_tests) in
    let parts = decimal_parts s is in
    let fits : digits_value 10 s ≤ max = grind (arith, nat_tests) in
    let text = decimal-digits_value own s parts.all parts.nonempty parts.first (omega arith) in
    (sym text ∙ ap decimal found.1, omega (arith, found.1))

lacks_by_digits : (b : ℕ) (s : List ℕ) → is_ascii_digit b ≡ false → list_all is_ascii_digit s ≡ true → Lacks b s
lacks_by_digits b [] other all = tt
lacks_by_digits b (c ∷ s) other all = (grind (arith, nat_tests), lacks_by_digits b s other (grind (arith, nat_tests)))

pub Lacks-decimal : (b n : ℕ) → n < 2 ^ 64 → is_ascii_digit b ≡ false → Lacks b (decimal n)
Lacks-decimal b n h other = lacks_by_digits b (decimal n) other (digits_decimal own n h)

-- ---- pairs of hexadecimal digits

pub pair_of_text-hex_pair : (n : ℕ) → n < 256 → pair_of_text (hex_pair n) ≡ Some n
unfolding pair_of_text
pair_of_text-hex_pair n h =
    let high = hex_value-glyph (n / 16) (omega arith) in
    let low = hex_value-glyph (n % 16) (omega arith) in
    let whole : 16 * (n / 16) + n % 16 ≡ n = omega arith in
    rw (high, low) (ap Some whole)

pair_of_glyphs : (a b : ℕ) → a < 16 → b < 16 → digit_glyph false a ∷ digit_glyph false b ∷ [] ≡ hex_pair (16 * a + b)
pair_of_glyphs a b low high =
    let front : (16 * a + b) / 16 ≡ a = omega arith in
    let back : (16 * a + b) % 16 ≡ b = omega arith in
    rw (front, back) refl

pub pair_of_text-spelt : (s : List ℕ) (n : ℕ) → pair_of_text s ≡ Some n → (s ≡ hex_pair n) × (n < 256)
unfolding pair_of_text
pair_of_text-spelt [] n e = absurd (none-some n e)
pair_of_text-spelt (h ∷ []) n e = absurd (none-some n e)
pair_of_text-spelt (h ∷ l ∷ []) n e = option_and_then_some _ _ n e
    (λ a a_is e1. option_and_then_some _ _ n e1 (λ b b_is e2.
    let high = hex_value-spelt h a a_is in
    let low = hex_value-spelt l b b_is in
    let n_is : 16 * a + b ≡ n = same_Some _ _ e2 in
    (rw (high.0, low.0) (pair_of_glyphs a b high.1 low.1 ∙ ap hex_pair n_is), omega (arith, high.1, low.1))))
pair_of_text-spelt (h ∷ l ∷ x ∷ xs) n e = absurd (none-some n e)

glyph_is_digit : (d : ℕ) → d < 16 → (digit_glyph false d == 58) ≡ false
glyph_is_digit d h = grind (arith, nat_tests)

pub Lacks-hex_pair : (n : ℕ) → n < 256 → Lacks 58 (hex_pair n)
Lacks-hex_pair n h = (glyph_is_digit (n / 16) (omega arith), (glyph_is_digit (n % 16) (omega arith), tt))

pub parsed_digits : {E : Type 0} (s : List ℕ) (r : Result ℕ E) → is_decimal s ≡ true → ParsesUnsigned 64 10 s r
    → SomeIff (result_ok r) (digits_value 10 s < 2 ^ 64) (digits_value 10 s)
parsed_digits s r h p =
    let parts = decimal_parts s h in
    let is = parse_digits own 64 s r p parts.all in
    elim r as (λ x. OkIff x ((0 < length s) × (digits_value 10 s < 2 ^ 64)) (digits_value 10 s)
    → SomeIff (result_ok x) (digits_value 10 s < 2 ^ 64) (digits_value 10 s)) [
      | Ok n ↦ λ k. (k.0.1, k.1)
      | Err e ↦ λ k. λ small. k (parts.nonempty, small)
    ] is

-- ---- MAC addresses

mac_number : (n : ℕ) → n < 2 ^ 48 → big_number 6 (byte_at 5 n ∷ byte_at 4 n ∷ byte_at 3 n ∷ byte_at 2 n ∷ byte_at 1 n
    ∷ byte_at 0 n ∷ []) ≡ n
mac_number n h =
    let whole = from_be_bytes-to_be_bytes_8 n (omega arith) in
    omega (arith, whole)

record MacOctets (n a b c d e f : ℕ) : Type 0 where
  five : byte_at 5 n ≡ a
  four : byte_at 4 n ≡ b
  three : byte_at 3 n ≡ c
  two : byte_at 2 n ≡ d
  one : byte_at 1 n ≡ e
  zeroth : byte_at 0 n ≡ f

abbrev AreSmall : List ℕ → Type 0
AreSmall [] = Unit {0}
AreSmall (x ∷ xs) = (x < 256) × AreSmall xs

small_at : (xs : List ℕ) → AreSmall xs → (i : ℕ) → get_or xs i 0 < 256
small_at [] h i = omega arith
small_at (x ∷ xs) h zero = h.0
small_at (x ∷ xs) h (suc i) = small_at xs h.1 i

mac_octets : (a b c d e f n : ℕ) → a < 256 → b < 256 → c < 256 → d < 256 → e < 256 → f < 256
    → big_number 6 (a ∷ b ∷ c ∷ d ∷ e ∷ f ∷ []) ≡ n → MacOctets n a b c d e f
mac_octets a b c d e f n ha hb hc hd he hf is =
    let zeroth : 0 < 256 = omega arith in
    let small = small_at (0 ∷ 0 ∷ a ∷ b ∷ c ∷ d ∷ e ∷ f ∷ []) (
      zeroth,
      (zeroth, (ha, (hb, (hc, (hd, (he, (hf, tt))))))),
    ) in
    let octets = be_bytes_8 (0 ∷ 0 ∷ a ∷ b ∷ c ∷ d ∷ e ∷ f ∷ []) n refl small (omega (arith, is)) in
    record {
      five = cc octets;
      four = cc octets;
      three = cc octets;
      two = cc octets;
      one = cc octets;
      zeroth = cc octets;
    }

pub mac_of_text-mac_text : (m : ℕ) → m < 2 ^ 48 → mac_of_text (mac_text m) ≡ Some m
unfolding mac_of_text mac_text
mac_of_text-mac_text m h =
    let small5 : byte_at 5 m < 256 = omega arith in
    let small4 : byte_at 4 m < 256 = omega arith in
    let small3 : byte_at 3 m < 256 = omega arith in
    let small2 : byte_at 2 m < 256 = omega arith in
    let small1 : byte_at 1 m < 256 = omega arith in
    let small0 : byte_at 0 m < 256 = omega arith in
    let t1 : List ℕ = hex_pair (byte_at 1 m) ++ 58 ∷ hex_pair (byte_at 0 m) in
    let t2 : List ℕ = hex_pair (byte_at 2 m) ++ 58 ∷ t1 in
    let t3 : List ℕ = hex_pair (byte_at 3 m) ++ 58 ∷ t2 in
    let t4 : List ℕ = hex_pair (byte_at 4 m) ++ 58 ∷ t3 in
    rw (
      parted-joined 58 (hex_pair (byte_at 5 m)) t4 (Lacks-hex_pair (byte_at 5 m) small5),
      pair_of_text-hex_pair (byte_at 5 m) small5,
    )
    (rw (
      parted-joined 58 (hex_pair (byte_at 4 m)) t3 (Lacks-hex_pair (byte_at 4 m) small4),
      pair_of_text-hex_pair (byte_at 4 m) small4,
    )
    (rw (
      parted-joined 58 (hex_pair (byte_at 3 m)) t2 (Lacks-hex_pair (byte_at 3 m) small3),
      pair_of_text-hex_pair (byte_at 3 m) small3,
    )
    (rw (
      parted-joined 58 (hex_pair (byte_at 2 m)) t1 (Lacks-hex_pair (byte_at 2 m) small2),
      pair_of_text-hex_pair (byte_at 2 m) small2,
    )
    (rw (
      parted-joined 58 (hex_pair (byte_at 1 m)) (hex_pair (byte_at 0 m)) (Lacks-hex_pair (byte_at 1 m) small1),
      pair_of_text-hex_pair (byte_at 1 m) small1,
      pair_of_text-hex_pair (byte_at 0 m) small0,
    )
    (ap Some (mac_number m h))))))

mac_text_of : (m a b c d e f : ℕ) → MacOctets m a b c d e f
    → hex_pair a ++ 58 ∷ (hex_pair b ++ 58 ∷ (hex_pair c ++ 58 ∷ (hex_pair d ++ 58 ∷ (hex_pair e ++ 58 ∷ hex_pair f))))
    ≡ mac_text m
unfolding mac_text
mac_text_of m a b c d e f o = rw (o.five, o.four, o.three, o.two, o.one, o.zeroth) refl

pub mac_of_text-spelt : (s : List ℕ) (m : ℕ) → mac_of_text s ≡ Some m → s ≡ mac_text m
unfolding mac_of_text
mac_of_text-spelt s m is =
    option_and_then_some _ _ m is λ p p_is e1. option_and_then_some _ _ m e1 λ a a_is e2.
    option_and_then_some _ _ m e2 λ q q_is e3. option_and_then_some _ _ m e3 λ b b_is e4.
    option_and_then_some _ _ m e4 λ r r_is e5. option_and_then_some _ _ m e5 λ c c_is e6.
    option_and_then_some _ _ m e6 λ t t_is e7. option_and_then_some _ _ m e7 λ d d_is e8.
    option_and_then_some _ _ m e8 λ u u_is e9. option_and_then_some _ _ m e9 λ e e_is e10.
    option_and_then_some _ _ m e10 λ f f_is e11.
    let a_pair = pair_of_text-spelt p.0 a a_is in
    let b_pair = pair_of_text-spelt q.0 b b_is in
    let c_pair = pair_of_text-spelt r.0 c c_is in
    let d_pair = pair_of_text-spelt t.0 d d_is in
    let e_pair = pair_of_text-spelt u.0 e e_is in
    let f_pair = pair_of_text-spelt u.1 f f_is in
    let octets = mac_octets a b c d e f m a_pair.1 b_pair.1 c_pair.1 d_pair.1 e_pair.1 f_pair.1 (same_Some _ _ e11) in
    let p_joined = joined-parted 58 s p p_is in
    let q_joined = joined-parted 58 p.1 q q_is in
    let r_joined = joined-parted 58 q.1 r r_is in
    let t_joined = joined-parted 58 r.1 t t_is in
    let u_joined = joined-parted 58 t.1 u u_is in
    rw (
      p_joined,
      a_pair.0,
      q_joined,
      b_pair.0,
      r_joined,
      c_pair.0,
      t_joined,
      d_pair.0,
      u_joined,
      e_pair.0,
      f_pair.0,
    ) (mac_text_of m a b c d e f octets)

-- ---- IPv4 addresses

addr_number : (n : ℕ) → n < 2 ^ 32 → big_number 4 (byte_at 3 n ∷ byte_at 2 n ∷ byte_at 1 n ∷ byte_at 0 n ∷ []) ≡ n
addr_number n h =
    let whole = from_be_bytes-to_be_bytes_4 n h in
    omega (arith, whole)

abbrev joined_decimals : ℕ → ℕ → ℕ → ℕ → List ℕ
joined_decimals a b c d = decimal a ++ 46 ∷ (decimal b ++ 46 ∷ (decimal c ++ 46 ∷ decimal d))

addr_text-joined : (n : ℕ) → addr_text n ≡ joined_decimals (byte_at 3 n) (byte_at 2 n) (byte_at 1 n) (byte_at 0 n)
addr_text-joined n = simp append_assoc

Lacks-octet : (n : ℕ) → n < 256 → Lacks 46 (decimal n)
Lacks-octet n h = Lacks-decimal 46 n (omega arith) refl

octet_back : (n : ℕ) → n < 256 → decimal_of_text 255 (decimal n) ≡ Some n
octet_back n h = decimal_of_text-decimal 255 n (omega arith) (omega arith)

joined_decimals-read : (a b c d : ℕ) → a < 256 → b < 256 → c < 256 → d < 256
    → addr_of_text (joined_decimals a b c d) ≡ Some (big_number 4 (a ∷ b ∷ c ∷ d ∷ []))
unfolding addr_of_text
joined_decimals-read a b c d ha hb hc hd =
    let t2 : List ℕ = decimal c ++ 46 ∷ decimal d in
    let t3 : List ℕ = decimal b ++ 46 ∷ t2 in
    rw (parted-joined 46 (decimal a) t3 (Lacks-octet a ha), octet_back a ha)
    (rw (parted-joined 46 (decimal b) t2 (Lacks-octet b hb), octet_back b hb)
    (rw (parted-joined 46 (decimal c) (decimal d) (Lacks-octet c hc), octet_back c hc, octet_back d hd) refl))

pub addr_of_text-addr_text : (n : ℕ) → n < 2 ^ 32 → addr_of_text (addr_text n) ≡ Some n
addr_of_text-addr_text n h =
    ap addr_of_text (addr_text-joined n)
    ∙ joined_decimals-read (byte_at 3 n) (byte_at 2 n) (byte_at 1 n) (byte_at 0 n) (omega arith) (omega arith)
    (omega arith) (omega arith)
    ∙ ap Some (addr_number n h)

octet_spelt : (s : List ℕ) (n : ℕ) → decimal_of_text 255 s ≡ Some n → (s ≡ decimal n) × (n < 256)
octet_spelt s n e =
    let is = decimal_of_text-spelt 255 s n (omega arith) e in
    (is.0, omega (arith, is.1))

addr_text_of : (n a b c d : ℕ) → a < 256 → b < 256 → c < 256 → d < 256 → big_number 4 (a ∷ b ∷ c ∷ d ∷ []) ≡ n
    → joined_decimals a b c d ≡ addr_text n
addr_text_of n a b c d ha hb hc hd is =
    let small = small_at (a ∷ b ∷ c ∷ d ∷ []) (ha, (hb, (hc, (hd, tt)))) in
    let octets = be_bytes_4 (a ∷ b ∷ c ∷ d ∷ []) n refl small (omega (arith, is)) in
    let three : byte_at 3 n ≡ a = cc octets in
    let two : byte_at 2 n ≡ b = cc octets in
    let one : byte_at 1 n ≡ c = cc octets in
    let zeroth : byte_at 0 n ≡ d = cc octets in
    (λ i. joined_decimals (sym three i) (sym two i) (sym one i) (sym zeroth i)) ∙ sym (addr_text-joined n)

pub addr_of_text-spelt : (s : List ℕ) (n : ℕ) → addr_of_text s ≡ Some n → s ≡ addr_text n
unfolding addr_of_text
addr_of_text-spelt s n is =
    option_and_then_some _ _ n is λ p p_is e1. option_and_then_some _ _ n e1 λ a a_is e2.
    option_and_then_some _ _ n e2 λ q q_is e3. option_and_then_some _ _ n e3 λ b b_is e4.
    option_and_then_some _ _ n e4 λ r r_is e5. option_and_then_some _ _ n e5 λ c c_is e6.
    option_and_then_some _ _ n e6 λ d d_is e7.
    let a_octet = octet_spelt p.0 a a_is in
    let b_octet = octet_spelt q.0 b b_is in
    let c_octet = octet_spelt r.0 c c_is in
    let d_octet = octet_spelt r.1 d d_is in
    let text = addr_text_of n a b c d a_octet.1 b_octet.1 c_octet.1 d_octet.1 (same_Some _ _ e7) in
    let p_joined = joined-parted 46 s p p_is in
    let q_joined = joined-parted 46 p.1 q q_is in
    let r_joined = joined-parted 46 q.1 r r_is in
    rw (p_joined, a_octet.0, q_joined, b_octet.0, r_joined, c_octet.0, d_octet.0) text

-- ---- the meaning of an answer

pub IfSome-from : {X : Type 0} (o : Option X) (p : Option X) (P : X → Type 0) → o ≡ p → ((x : X) → p ≡ Some x → P x)
    → IfSome o P
IfSome-from None p P is h = tt
IfSome-from (Some x) p P is h = h x (sym is)

pub at_err : {T E : Type 0} (r : Result T E) (P : T → Type 0) (Q : E → Type 0) (X : Type 0) → result_ok r ≡ None
    → MatchResult r P Q → ((e : E) → Q e → X) → X
at_err (Ok x) P Q X none m f = absurd (none-some x (sym none))
at_err (Err e) P Q X none m f = f e m

pub at_ok : {T E : Type 0} (r : Result T E) (P : T → Type 0) (Q : E → Type 0) (x : T) → result_ok r ≡ Some x
    → MatchResult r P Q → P x
at_ok (Ok y) P Q x some m = subst P (same_Some y x some) m
at_ok (Err e) P Q x some m = absurd (none-some x some)
