-- Numbers and addresses as they are read back from text, each in the one spelling in which it is printed.
use Rattle.std.specs.Prelude.{ℕ, ◌+◌, ◌-◌, ◌*◌, ◌^◌, Bool, ◌&&◌, ◌||◌, not, ◌==◌, nat_le, if◌then◌else◌, List, [], ◌∷◌}
use Rattle.std.specs.Prelude.{length, take, drop, slice_index, position, Option, Some, None, option_map}
use Rattle.std.specs.Prelude.{option_and_then}
use Rattle.std.specs.Char.{is_ascii_digit}
use Rattle.std.specs.List.{list_all}
use Rattle.std.specs.Str.Parse.{digits_value}
use Rattle.byteorder.specs.Endian.{big_number}

-- in a `do` block, the effect of Rust's `?` on an `Option`
infixl 10 ◌>>=◌
abbrev pub ◌>>=◌ : {X Y : Type 0} → Option X → (X → Option Y) → Option Y
o >>= f = option_and_then f o

-- the octets before the first octet b, and those after it
unfoldable pub parted : ℕ → List ℕ → Option (List ℕ × List ℕ)
parted b s = option_map (λ i. (take i s, drop (i + 1) s)) (position (λ x. x == b) s)

-- decimal digits, at least one, and no zero in front of others
unfoldable pub is_decimal : List ℕ → Bool
is_decimal s = list_all is_ascii_digit s && not (length s == 0) && (nat_le (length s) 1 || not (slice_index s 0 == 48))

-- a decimal number of at most max
unfoldable pub decimal_of_text : ℕ → List ℕ → Option ℕ
decimal_of_text max s = if is_decimal s && nat_le (digits_value 10 s) max then Some (digits_value 10 s) else None

-- the value of a lower case hexadecimal digit
abbrev pub hex_value : ℕ → Option ℕ
hex_value b =
    if nat_le 48 b && nat_le b 57 then Some (b - 48)
    else (if nat_le 97 b && nat_le b 102 then Some (b - 87) else None)

-- the octet of two lower case hexadecimal digits
unfoldable pub pair_of_text : List ℕ → Option ℕ
pair_of_text [] = None
pair_of_text (high ∷ []) = None
pair_of_text (high ∷ low ∷ []) = do
  h ← hex_value high
  l ← hex_value low
  Some (16 * h + l)
pair_of_text (high ∷ low ∷ x ∷ xs) = None

-- a VXLAN network identifier in decimal
abbrev pub vni_of_text : List ℕ → Option ℕ
vni_of_text s = decimal_of_text (2 ^ 24 - 1) s

-- six pairs of lower case hexadecimal digits with colons
unfoldable pub mac_of_text : List ℕ → Option ℕ
mac_of_text s = do
  p ← parted 58 s
  a ← pair_of_text p.0
  q ← parted 58 p.1
  b ← pair_of_text q.0
  r ← parted 58 q.1
  c ← pair_of_text r.0
  t ← parted 58 r.1
  d ← pair_of_text t.0
  u ← parted 58 t.1
  e ← pair_of_text u.0
  f ← pair_of_text u.1
  Some (big_number 6 (a ∷ b ∷ c ∷ d ∷ e ∷ f ∷ []))

-- four decimal numbers with dots
unfoldable pub addr_of_text : List ℕ → Option ℕ
addr_of_text s = do
  p ← parted 46 s
  a ← decimal_of_text 255 p.0
  q ← parted 46 p.1
  b ← decimal_of_text 255 q.0
  r ← parted 46 q.1
  c ← decimal_of_text 255 r.0
  d ← decimal_of_text 255 r.1
  Some (big_number 4 (a ∷ b ∷ c ∷ d ∷ []))
