-- A datagram that is written in two parts: the header of 8 octets, and a frame of n.
use Rattle.std.proofs.Common.{◌≡◌, ℕ, ◌+◌, ◌-◌, List, ◌++◌, length, take, drop, ◌∙◌, arith}
use Rattle.std.proofs.lemmas.List.{drop-drop}
use Rattle.std.proofs.Math.Seq.{take-append_seam, drop-append_seam}
use borrow.Rule.Slice.PartMut.{put_mid, post_of}

pub two_parts : (old header body : List ℕ) (n : ℕ) → length header ≡ 8
    → put_mid 8 (8 + n - 8) (header ++ post_of 0 8 old) body ≡ header ++ (body ++ drop (8 + n) old)
two_parts old header body n header_len =
    let front : take 8 (header ++ drop 8 old) ≡ header = rw header_len at (take-append_seam header (drop 8 old)) in
    let back : drop 8 (header ++ drop 8 old) ≡ drop 8 old = rw header_len at (drop-append_seam header (drop 8 old)) in
    let size : 8 + n - 8 ≡ n = omega arith in
    let rest : drop (8 + n - 8) (drop 8 (header ++ drop 8 old)) ≡ drop (8 + n) old =
    (λ i. drop (size i) (back i)) ∙ drop-drop n 8 old in
    λ i. front i ++ (body ++ rest i)
