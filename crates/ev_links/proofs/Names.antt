-- The text of a device's name is the text that the name was read from.
use Rattle.std.proofs.Common.{◌≡◌, ℕ, zero, suc, ◌-◌, ◌≤◌, Bool, true, false, ◌&&◌, ◌==◌, nat_lt, nat_le}
use Rattle.std.proofs.Common.{List, [], ◌∷◌, ◌++◌, length, take, replicate, position, Some, None}
use Rattle.std.proofs.Common.{refl, sym, ◌∙◌, ap, arith, length-append, if◌then◌else◌}
use Rattle.std.proofs.lemmas.Bool.{false≢true, and_parts, eqb-true, false_from_ne_true}
use Rattle.std.proofs.lemmas.Bool.Decides.{nat_tests}
use Rattle.std.proofs.lemmas.Option.{same_Some, none-some}
use Rattle.std.proofs.Math.Seq.{take-append_seam}
use Rattle.std.specs.List.{position_or_len, list_all}
use Rattle.std.specs.Option.{unwrap_or}
use Rattle.ev_links.specs.declared.device_name.DeviceName.{DeviceName}
use Rattle.ev_links.specs.DeviceName.{is_name_octet, is_device_name, padded, device_of_text, text_of}

-- an octet of a name is not zero
no_zero : (b : ℕ) → is_name_octet b ≡ true → (b == 0) ≡ false
no_zero zero named = absurd (false≢true named)
no_zero (suc b) named =
    false_from_ne_true (suc b == 0) (λ is. let e = eqb-true (suc b) 0 is in absurd (omega (arith, e)))

first_zero : (text more : List ℕ) → list_all is_name_octet text ≡ true
    → position_or_len (λ b. b == 0) (text ++ 0 ∷ more) ≡ length text
first_zero [] more all = refl
first_zero (b ∷ text) more all =
    let both = and_parts (is_name_octet b) (list_all is_name_octet text) all in
    let other = no_zero b both.0 in
    rw other (omega (arith, first_zero text more both.1))

place : (text more : List ℕ) → list_all is_name_octet text ≡ true
    → position (λ b. b == 0) (text ++ 0 ∷ more) ≡ Some (length text)
place text more all =
    let at = first_zero text more all in
    let long : nat_lt (length text) (length (text ++ 0 ∷ more)) ≡ true =
    simp length-append (grind (arith, nat_tests)) in
    rw (at, long) refl

text_of_padded : (text more : List ℕ) → list_all is_name_octet text ≡ true
    → take (unwrap_or (position (λ b. b == 0) (text ++ 0 ∷ more)) 16) (text ++ 0 ∷ more) ≡ text
text_of_padded text more all = rw (place text more all) (take-append_seam text (0 ∷ more))

zeros : (n : ℕ) → 1 ≤ n → replicate {A = ℕ} n 0 ≡ 0 ∷ replicate (n - 1) 0
zeros zero few = absurd (omega (arith, few))
zeros (suc n) few = let less : suc n - 1 ≡ n = omega arith in rw less refl

text_kept : (text : List ℕ) → is_device_name text ≡ true
    → take (unwrap_or (position (λ b. b == 0) (padded text)) 16) (padded text) ≡ text
text_kept text named =
    let parts = and_parts (nat_le 1 (length text) && nat_le (length text) 15) (list_all is_name_octet text) named in
    let lens = and_parts (nat_le 1 (length text)) (nat_le (length text) 15) parts.0 in
    let room : 1 ≤ 16 - length text = grind (arith, nat_tests, lens.1) in
    let pad = zeros (16 - length text) room in
    rw pad (text_of_padded text (replicate (16 - length text - 1) 0) parts.1)

pub name_keeps_its_text : (text : List ℕ) (name : DeviceName) → device_of_text text ≡ Some name → text_of name ≡ text
name_keeps_its_text text name read = go (is_device_name text) refl read
  where
    go : (is_name : Bool) → is_device_name text ≡ is_name
        → (if is_name then Some (record { octets = padded text }) else None) ≡ Some name → text_of name ≡ text
    go false is read = absurd (none-some name read)
    go true is read =
        let same = same_Some (record { octets = padded text }) name read in
        sym (ap text_of same) ∙ text_kept text is
