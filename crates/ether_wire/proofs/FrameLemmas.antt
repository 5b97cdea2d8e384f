-- A frame of 60 octets that is written in three parts: 17 octets, n more, and zeros.
use Rattle.std.proofs.Common.{◌≡◌, ℕ, ◌+◌, ◌-◌, ◌≤◌, List, [], ◌++◌, length, take, drop, replicate, ap, ◌∙◌}
use Rattle.std.proofs.Common.{append_assoc, append-nil, length-append, length-drop, arith}
use Rattle.std.proofs.lemmas.List.{drop_all, length-take-le}
use Rattle.std.proofs.lemmas.Slice.{take-put_mid}
use Rattle.std.proofs.Math.Seq.{take-append_seam}
use borrow.Rule.Slice.PartMut.{put_mid, post_of, mid_of, same_len_mid}

-- the frame once the first two parts are written
abbrev pub begun : List ℕ → List ℕ → List ℕ → ℕ → List ℕ
begun old header body n = put_mid 17 (17 + n - 17) (header ++ post_of 0 17 old) body

pub three_parts : (old header body zeros : List ℕ) (n : ℕ) → length old ≡ 60 → length header ≡ 17 → length body ≡ n
    → n ≤ 43
    → zeros ≡ replicate (length (mid_of (17 + n) (60 - (17 + n)) (begun old header body n))) 0
    → put_mid (17 + n) (60 - (17 + n)) (begun old header body n) zeros ≡ header ++ (body ++ replicate (43 - n) 0)
three_parts old header body zeros n old_len header_len body_len most zeros_are =
    let first : List ℕ = header ++ post_of 0 17 old in
    let first_len : length first ≡ 60 = simp (length-append, length-drop) (omega arith) in
    let front : take 17 first ≡ header = rw header_len at (take-append_seam header (post_of 0 17 old)) in
    let room : 17 + n - 17 ≤ length (drop 17 first) = rw length-drop (omega arith) in
    let part_len : length (mid_of 17 (17 + n - 17) first) ≡ 17 + n - 17 =
    length-take-le (17 + n - 17) (drop 17 first) room in
    let more : List ℕ = put_mid 17 (17 + n - 17) first body in
    let more_len : length more ≡ 60 = same_len_mid 17 (17 + n - 17) first body (omega arith) ∙ first_len in
    let start : take (17 + n) more ≡ take 17 first ++ body =
    take-put_mid 17 (17 + n - 17) first body (17 + n) (omega arith) (omega arith) in
    let left : length (drop (17 + n) more) ≡ 60 - (17 + n) = length-drop (17 + n) more
    ∙ ap (λ k. k - (17 + n)) more_len in
    let rest : post_of (17 + n) (60 - (17 + n)) more ≡ [] =
    drop_all (60 - (17 + n)) (drop (17 + n) more) (omega arith) in
    let zeros_len : length (mid_of (17 + n) (60 - (17 + n)) more) ≡ 43 - n =
    length-take-le (60 - (17 + n)) (drop (17 + n) more) (omega arith) ∙ omega arith in
    let whole : take (17 + n) more ++ (zeros ++ post_of (17 + n) (60 - (17 + n)) more) ≡ header ++ (body ++ zeros) =
    (λ i. start i ++ (zeros ++ rest i)) ∙ ap (λ l. l ++ body ++ (zeros ++ [])) front
    ∙ simp (append_assoc, append-nil) in
    whole ∙ ap (λ z. header ++ (body ++ z)) (zeros_are ∙ ap (λ k. replicate k 0) zeros_len)
