-- Decimal texts of few digits, and the last four digits of longer ones.
use Rattle.std.proofs.Common.{◌≡◌, ℕ, ◌+◌, ◌/◌, ◌%◌, ◌<◌, ◌≤◌, ◌^◌, List, [], ◌∷◌, ◌++◌, ap, sym, ◌∙◌, arith}
use Rattle.std.proofs.Common.{append_assoc}
use Rattle.std.specs.Fmt.{decimal}
use Rattle.std.proofs.lemmas.Fmt.{decimal_digit, decimal_step}
use Rattle.itoa.proofs.Decimal.{decimal_four}
use Rattle.ether_wire.specs.Inner.Decimals.{four_digits}

-- digits of parts are those of the whole
same_digits : (m n : ℕ) → m ≡ n → (48 + m) ∷ [] ≡ (48 + n) ∷ []
same_digits m n e = ap (λ k. (48 + k) ∷ []) e

pub one_digit : (n : ℕ) → n < 10 → decimal n ≡ (48 + n % 10) ∷ []
one_digit n small = decimal_digit n small ∙ same_digits n (n % 10) (omega arith)

pub two_digits : (n : ℕ) → 10 ≤ n → n < 100 → decimal n ≡ (48 + n / 10 % 10) ∷ (48 + n % 10) ∷ []
two_digits n least small = rw (decimal_step n least (omega arith), one_digit (n / 10) (omega arith))

pub three_digits : (n : ℕ) → 100 ≤ n → n < 1000 → decimal n ≡ (48 + n / 100 % 10) ∷ (48 + n / 10 % 10) ∷ (48 + n % 10)
    ∷ []
three_digits n least small =
    let e : n / 10 / 10 ≡ n / 100 = omega arith in
    rw (decimal_step n (omega arith) (omega arith), two_digits (n / 10) (omega arith) (omega arith), e)

-- like `three_digits`, with the last two digits at once
pub three_by_pair : (n : ℕ) → 100 ≤ n → n < 1000 → decimal n ≡ (48 + n / 100 % 10) ∷ (48 + n % 100 / 10 % 10)
    ∷ (48 + n % 100 % 10) ∷ []
three_by_pair n least small =
    let a : n / 10 % 10 ≡ n % 100 / 10 % 10 = omega arith in
    let b : n % 10 ≡ n % 100 % 10 = omega arith in
    three_digits n least small ∙ λ i. (48 + n / 100 % 10) ∷ (48 + a i) ∷ (48 + b i) ∷ []

pub four_by_pairs : (n : ℕ) → n < 10000 → (48 + n / 100 / 10 % 10) ∷ (48 + n / 100 % 10) ∷ (48 + n % 100 / 10 % 10)
    ∷ (48 + n % 100 % 10) ∷ [] ≡ four_digits n
four_by_pairs n small =
    let a : n / 100 / 10 ≡ n / 1000 = omega arith in
    let b : n % 100 / 10 % 10 ≡ n / 10 % 10 = omega arith in
    let c : n % 100 % 10 ≡ n % 10 = omega arith in
    λ i. (48 + a i % 10) ∷ (48 + n / 100 % 10) ∷ (48 + b i) ∷ (48 + c i) ∷ []

pub as_four_digits : (n : ℕ) → 1000 ≤ n → n < 10000 → decimal n ≡ four_digits n
as_four_digits n least small =
    let a : n / 10 / 10 ≡ n / 100 = omega arith in
    let b : n / 10 / 100 ≡ n / 1000 = omega arith in
    rw (decimal_step n (omega arith) (omega arith), three_digits (n / 10) (omega arith) (omega arith), a, b)

-- a longer number: its digits but for the last four, and these
pub four_last : (n : ℕ) → 10000 ≤ n → n < 2 ^ 64 → decimal n ≡ decimal (n / 10000) ++ four_digits (n % 10000)
four_last n least small =
    let a : n % 10000 / 100 / 10 ≡ n % 10000 / 1000 % 10 = omega arith in
    let c : n % 10000 % 100 / 10 ≡ n % 10000 / 10 % 10 = omega arith in
    let d : n % 10000 % 100 % 10 ≡ n % 10000 % 10 = omega arith in
    rw (decimal_four n least small, a, c, d)

-- like the lemma before, after other octets
pub four_behind : (xs : List ℕ) (n : ℕ) → 10000 ≤ n → n < 2 ^ 64
    → (xs ++ decimal (n / 10000)) ++ four_digits (n % 10000) ≡ xs ++ decimal n
four_behind xs n least small =
    append_assoc xs (decimal (n / 10000)) (four_digits (n % 10000)) ∙ ap (λ x. xs ++ x) (sym (four_last n least small))

-- a longer number: its digits without the last eight, and these
pub eight_behind : (xs : List ℕ) (n : ℕ) → 100000000 ≤ n → n < 2 ^ 64
    → ((xs ++ decimal (n / 100000000)) ++ four_digits (n / 10000 % 10000)) ++ four_digits (n % 10000) ≡ xs ++ decimal n
eight_behind xs n least small =
    let a : n / 100000000 ≡ n / 10000 / 10000 = omega arith in
    ap (λ m. ((xs ++ decimal m) ++ four_digits (n / 10000 % 10000)) ++ four_digits (n % 10000)) a
    ∙ ap (λ x. x ++ four_digits (n % 10000)) (four_behind xs (n / 10000) (omega (arith, least)) (omega (arith, small)))
    ∙ four_behind xs n (omega (arith, least)) small
