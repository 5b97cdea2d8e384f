-- A line after one more frame is put on it, or after its first frame is taken.
use Rattle.std.proofs.Common.{◌≡◌, ◌≢◌, ℕ, zero, suc, ◌+◌, ◌-◌, ◌^◌, ◌≤◌, ◌<◌, min, Bool, true, false, cond, eqb}
use Rattle.std.proofs.Common.{◌&&◌, ◌||◌}
use Rattle.std.proofs.Common.{nat_lt, nat_le, List, [], ◌∷◌, ◌++◌, length, take, drop, replicate, refl, sym, ap}
use Rattle.std.proofs.Common.{◌∙◌, arith}
use Rattle.std.proofs.Common.{Option, Some, None}
use Rattle.std.specs.Prelude.{slice_get, slice_set, IfSome}
use Rattle.std.specs.Option.{option_map_or}
use Rattle.std.proofs.lemmas.Bool.{eq-eqb}
use Rattle.std.proofs.lemmas.Bool.Decides.{nat_tests}
use Rattle.std.proofs.lemmas.Option.{slice_get_within}
use Rattle.std.proofs.lemmas.List.{length-append, length-take-le, length-drop, take_all, take-append-le, drop-append-le}
use Rattle.ev_links.specs.Links.{packet}
use Rattle.ev_links.specs.declared.line.Head.{Head}
use Rattle.ev_links.specs.declared.parts.SourceQueue.{SourceQueue}
use Rattle.ev_links.specs.Line.{sourced, octets_of, from_source, fits_part, waiting_of, after_frame}
use Rattle.ev_links.specs.Line.{after_drop}
use Rattle.ev_links.specs.Line.{cut, sizes, NoneTooLong, heads_of, AreCounted, IsLine}
use Rattle.ev_links.specs.Inner.Parts.{no_part, fits_in, one_more, one_less, with_one, without_one}

-- a number moves to the other side of a test
pub le_moved : (a c r : ℕ) → c ≤ r → nat_le a (r - c) ≡ nat_le (a + c) r
le_moved a c r few = go (nat_le a (r - c)) (nat_le (a + c) r) refl refl
  where
    go : (x y : Bool) → nat_le a (r - c) ≡ x → nat_le (a + c) r ≡ y → x ≡ y
    go true true p q = refl
    go true false p q = grind (arith, nat_tests)
    go false true p q = grind (arith, nat_tests)
    go false false p q = refl

pub le_past : (a c r : ℕ) → r < c → false ≡ nat_le (a + c) r
le_past a c r more = go (nat_le (a + c) r) refl
  where
    go : (y : Bool) → nat_le (a + c) r ≡ y → false ≡ y
    go true q = grind (arith, nat_tests)
    go false q = refl

-- there are as many frames as heads
pub cut_length : (heads : List Head) (xs : List ℕ) → length (cut heads xs) ≡ length heads
cut_length [] xs = refl
cut_length (h ∷ heads) xs = ap suc (cut_length heads (drop h.size xs))

-- the frames have as many octets as the heads count
pub cut_octets : (heads : List Head) (xs : List ℕ) → sizes heads ≡ length xs → octets_of (cut heads xs) ≡ sizes heads
cut_octets [] xs e = refl
cut_octets (h ∷ heads) xs e =
    let one = length-take-le h.size xs (omega (arith, e)) in
    let left = length-drop h.size xs in
    let more = cut_octets heads (drop h.size xs) (omega (arith, e, left)) in
    omega (arith, one, more)

-- octets appended to the others are one more frame
pub cut_put : (heads : List Head) (h : Head) (xs ys : List ℕ) → sizes heads ≡ length xs → h.size ≡ length ys
    → cut (heads ++ h ∷ []) (xs ++ ys) ≡ cut heads xs ++ sourced h.source (packet h.to ys) ∷ []
cut_put [] h [] ys e same =
    ap (λ (zs : List ℕ). sourced h.source (packet h.to zs) ∷ []) (take_all h.size ys (omega (arith, same)))
cut_put [] h (x ∷ xs) ys e same = absurd (omega (arith, e))
cut_put (g ∷ heads) h xs ys e same =
    let within : g.size ≤ length xs = omega (arith, e) in
    let left = length-drop g.size xs in
    let more = cut_put heads h (drop g.size xs) ys (omega (arith, e, left)) same in
    rw (take-append-le g.size xs ys within, drop-append-le g.size xs ys within, more) refl

sizes_put : (heads : List Head) (h : Head) → sizes (heads ++ h ∷ []) ≡ sizes heads + h.size
sizes_put [] h = omega arith
sizes_put (g ∷ heads) h = let more = sizes_put heads h in omega (arith, more)

fit_put : (heads : List Head) (h : Head) → NoneTooLong heads → h.size ≤ 9026 → NoneTooLong (heads ++ h ∷ [])
fit_put [] h fit one = (one, tt)
fit_put (g ∷ heads) h fit one = (fit.0, fit_put heads h fit.1 one)

-- ---- the frames of a source

-- a source has as many frames as heads
own_length : (s : ℕ) (heads : List Head) (xs : List ℕ)
    → length (from_source s (cut heads xs)) ≡ length (heads_of s heads)
own_length s [] xs = refl
own_length s (h ∷ heads) xs = go (eqb h.source s) (own_length s heads (drop h.size xs))
  where
    go : (b : Bool) → length (from_source s (cut heads (drop h.size xs))) ≡ length (heads_of s heads)
        → length (cond b (sourced h.source (packet h.to (take h.size xs)) ∷ from_source s (cut heads (drop h.size xs)))
        (from_source s (cut heads (drop h.size xs)))) ≡ length (cond b (h ∷ heads_of s heads) (heads_of s heads))
    go true rest = ap suc rest
    go false rest = rest

-- and its frames have as many octets as its heads count
own_octets : (s : ℕ) (heads : List Head) (xs : List ℕ) → sizes heads ≡ length xs
    → octets_of (from_source s (cut heads xs)) ≡ sizes (heads_of s heads)
own_octets s [] xs e = refl
own_octets s (h ∷ heads) xs e = go (eqb h.source s)
    (own_octets s heads (drop h.size xs) (let left = length-drop h.size xs in omega (arith, e, left)))
  where
    go : (b : Bool) → octets_of (from_source s (cut heads (drop h.size xs))) ≡ sizes (heads_of s heads)
        → octets_of (cond b (sourced h.source (packet h.to (take h.size xs))
        ∷ from_source s (cut heads (drop h.size xs))) (from_source s (cut heads (drop h.size xs))))
        ≡ sizes (cond b (h ∷ heads_of s heads) (heads_of s heads))
    go true rest = let one = length-take-le h.size xs (omega (arith, e)) in omega (arith, one, rest)
    go false rest = rest

some_part : (xs : List SourceQueue) (k : ℕ) → k < length xs → slice_get xs k ≡ None → ⊥
some_part [] k less none = omega (arith, less)
some_part (x ∷ xs) zero less none = cc
some_part (x ∷ xs) (suc k) less none = some_part xs k (omega (arith, less)) none

get_past : (parts : List SourceQueue) (s : ℕ) → slice_get parts s ≡ None → nat_lt s (length parts) ≡ false
get_past parts s is = go (nat_lt s (length parts)) refl
  where
    go : (b : Bool) → nat_lt s (length parts) ≡ b → b ≡ false
    go true lt = let less : s < length parts = grind (arith, nat_tests) in absurd (some_part parts s less is)
    go false lt = refl

get_in : (parts : List SourceQueue) (s : ℕ) (p : SourceQueue) → slice_get parts s ≡ Some p
    → nat_lt s (length parts) ≡ true
get_in parts s p is = let less = slice_get_within parts s p is in grind (arith, nat_tests)

-- the counts tell whether the part of a source has room
own_room : (parts : List SourceQueue) (heads : List Head) (octets : List ℕ) (s size : ℕ) → AreCounted parts heads
    → sizes heads ≡ length octets → fits_in (length parts) (slice_get parts s) size
    ≡ (nat_lt s (length parts) && fits_part (length parts) (from_source s (cut heads octets)) size)
own_room parts heads octets s size counted all = go (slice_get parts s) refl
  where
    go : (o : Option SourceQueue) → slice_get parts s ≡ o → fits_in (length parts) o size
        ≡ (nat_lt s (length parts) && fits_part (length parts) (from_source s (cut heads octets)) size)
    go None is = sym (ap (λ b. b && fits_part (length parts) (from_source s (cut heads octets)) size)
        (get_past parts s is))
    go (Some p) is =
        let c = counted s p is in
        let frames : p.frames ≡ length (from_source s (cut heads octets)) = c.0 ∙ sym (own_length s heads octets) in
        let many : p.octets ≡ octets_of (from_source s (cut heads octets)) =
        c.1 ∙ sym (own_octets s heads octets all) in
        rw (get_in parts s p is, sym frames, sym many) refl

heads_put : (s : ℕ) (heads : List Head) (h : Head)
    → heads_of s (heads ++ h ∷ []) ≡ heads_of s heads ++ cond (eqb h.source s) (h ∷ []) []
heads_put s [] h = refl
heads_put s (g ∷ heads) h = go (eqb g.source s) (heads_put s heads h)
  where
    go : (b : Bool) → heads_of s (heads ++ h ∷ []) ≡ heads_of s heads ++ cond (eqb h.source s) (h ∷ []) []
        → cond b (g ∷ heads_of s (heads ++ h ∷ [])) (heads_of s (heads ++ h ∷ []))
        ≡ cond b (g ∷ heads_of s heads) (heads_of s heads) ++ cond (eqb h.source s) (h ∷ []) []
    go true rest = ap (λ (l : List Head). g ∷ l) rest
    go false rest = rest

-- a source has no more heads than the line, nor more octets
own_few : (s : ℕ) (heads : List Head)
    → (length (heads_of s heads) ≤ length heads) × (sizes (heads_of s heads) ≤ sizes heads)
own_few s [] = (omega arith, omega arith)
own_few s (h ∷ heads) = go (eqb h.source s) (own_few s heads)
  where
    go : (b : Bool) → (length (heads_of s heads) ≤ length heads) × (sizes (heads_of s heads) ≤ sizes heads)
        → (length (cond b (h ∷ heads_of s heads) (heads_of s heads)) ≤ length (h ∷ heads))
        × (sizes (cond b (h ∷ heads_of s heads) (heads_of s heads)) ≤ sizes (h ∷ heads))
    go true rest = let a = rest.0 in let b = rest.1 in (omega (arith, a), omega (arith, b))
    go false rest = let a = rest.0 in let b = rest.1 in (omega (arith, a), omega (arith, b))

-- ---- counts

set_here : (parts : List SourceQueue) (k : ℕ) (p q : SourceQueue) → slice_get parts k ≡ Some q
    → slice_get (slice_set parts k p) k ≡ Some p
set_here [] k p q is = cc
set_here (x ∷ xs) zero p q is = refl
set_here (x ∷ xs) (suc k) p q is = set_here xs k p q is

set_apart : (parts : List SourceQueue) (k s : ℕ) (p : SourceQueue) → k ≢ s
    → slice_get (slice_set parts k p) s ≡ slice_get parts s
set_apart [] k s p ne = refl
set_apart (x ∷ xs) zero zero p ne = absurd (ne refl)
set_apart (x ∷ xs) zero (suc s) p ne = refl
set_apart (x ∷ xs) (suc k) zero p ne = refl
set_apart (x ∷ xs) (suc k) (suc s) p ne = set_apart xs k s p (λ same. ne (ap suc same))

-- the part at a place after one part was changed
changed_at : (f : SourceQueue → SourceQueue) (parts : List SourceQueue) (k s : ℕ) (p : SourceQueue)
    → slice_get (option_map_or (λ q. slice_set parts k (f q)) (slice_get parts k) parts) s ≡ Some p
    → (k ≡ s → (q : SourceQueue) × (slice_get parts s ≡ Some q) × (p ≡ f q)) × (k ≢ s → slice_get parts s ≡ Some p)
changed_at f parts k s p is = go (slice_get parts k) refl is
  where
    go : (o : Option SourceQueue) → slice_get parts k ≡ o
        → slice_get (option_map_or (λ q. slice_set parts k (f q)) o parts) s ≡ Some p
        → (k ≡ s → (q : SourceQueue) × (slice_get parts s ≡ Some q) × (p ≡ f q)) × (k ≢ s → slice_get parts s ≡ Some p)
    go None at is = (
      λ same. (let bad : None ≡ Some p = sym at ∙ ap (slice_get parts) same ∙ is in cc),
      λ ne. is,
    )
    go (Some q) at is = (
      λ same. (
        q,
        ap (slice_get parts) (sym same) ∙ at,
        (let set = set_here parts k (f q) q at in
            let there : Some (f q) ≡ Some p = sym set ∙ ap (slice_get (slice_set parts k (f q))) same ∙ is in cc),
      ),
      λ ne. sym (set_apart parts k s (f q) ne) ∙ is,
    )

-- one more frame is counted
counted_put : (parts : List SourceQueue) (heads : List Head) (h : Head) → AreCounted parts heads
    → AreCounted (with_one h.source h.size parts) (heads ++ h ∷ [])
counted_put parts heads h counted = λ s p is. go s p (changed_at (one_more h.size) parts h.source s p is)
    (eqb h.source s) refl
  where
    go : (s : ℕ) (p : SourceQueue) → (h.source ≡ s
        → (q : SourceQueue) × (slice_get parts s ≡ Some q) × (p ≡ one_more h.size q))
        × (h.source ≢ s → slice_get parts s ≡ Some p) → (b : Bool) → eqb h.source s ≡ b
        → (p.frames ≡ length (heads_of s (heads ++ h ∷ []))) × (p.octets ≡ sizes (heads_of s (heads ++ h ∷ [])))
    go s p at true is =
        let there = at.0 (grind (arith, nat_tests)) in
        let c = counted s there.0 there.1 in
        let put : heads_of s (heads ++ h ∷ []) ≡ heads_of s heads ++ h ∷ [] =
        heads_put s heads h ∙ ap (λ b. heads_of s heads ++ cond b (h ∷ []) []) is in
        let many = length-append (heads_of s heads) (h ∷ []) in let long = sizes_put (heads_of s heads) h in
        let frames = ap (λ (x : SourceQueue). x.frames) there.2 in let octets =
        ap (λ (x : SourceQueue). x.octets) there.2 in
        let c0 = c.0 in let c1 = c.1 in let l = ap length put in let z = ap sizes put in
        (omega (arith, frames, c0, many, l), omega (arith, octets, c1, long, z))
    go s p at false is =
        let c = counted s p (at.1 (λ same. grind (arith, nat_tests))) in
        let put : heads_of s (heads ++ h ∷ []) ≡ heads_of s heads ++ [] =
        heads_put s heads h ∙ ap (λ b. heads_of s heads ++ cond b (h ∷ []) []) is in
        let many = length-append (heads_of s heads) no_heads in let l = ap length put in
        let z = ap sizes put in let none = sizes_none (heads_of s heads) in let c0 = c.0 in let c1 = c.1 in
        (omega (arith, c0, many, l), omega (arith, c1, none, z))
      where
        no_heads : List Head
        no_heads = []

        sizes_none : (hs : List Head) → sizes (hs ++ []) ≡ sizes hs
        sizes_none [] = refl
        sizes_none (x ∷ hs) = let rest = sizes_none hs in omega (arith, rest)

-- and one less
counted_left : (parts : List SourceQueue) (h : Head) (heads : List Head) → AreCounted parts (h ∷ heads)
    → AreCounted (without_one h.source h.size parts) heads
counted_left parts h heads counted = λ s p is. go s p (changed_at (one_less h.size) parts h.source s p is)
    (eqb h.source s) refl
  where
    go : (s : ℕ) (p : SourceQueue) → (h.source ≡ s
        → (q : SourceQueue) × (slice_get parts s ≡ Some q) × (p ≡ one_less h.size q))
        × (h.source ≢ s → slice_get parts s ≡ Some p) → (b : Bool) → eqb h.source s ≡ b
        → (p.frames ≡ length (heads_of s heads)) × (p.octets ≡ sizes (heads_of s heads))
    go s p at true is =
        let there = at.0 (grind (arith, nat_tests)) in
        let c = counted s there.0 there.1 in
        let took : heads_of s (h ∷ heads) ≡ h ∷ heads_of s heads =
        ap (λ b. cond b (h ∷ heads_of s heads) (heads_of s heads)) is in
        let frames = ap (λ (x : SourceQueue). x.frames) there.2 in let octets =
        ap (λ (x : SourceQueue). x.octets) there.2 in
        let c0 = c.0 in let c1 = c.1 in let l = ap length took in let z = ap sizes took in
        (omega (arith, frames, c0, l), omega (arith, octets, c1, z))
    go s p at false is =
        let c = counted s p (at.1 (λ same. grind (arith, nat_tests))) in
        let left : heads_of s (h ∷ heads) ≡ heads_of s heads =
        ap (λ b. cond b (h ∷ heads_of s heads) (heads_of s heads)) is in
        (c.0 ∙ ap length left, c.1 ∙ ap sizes left)

-- none are counted if nothing waits
pub counted_none : (n : ℕ) → AreCounted (replicate n no_part) []
counted_none zero = λ s p is. cc
counted_none (suc n) = λ s. at (counted_none n) s
  where
    at : AreCounted (replicate n no_part) [] → (s : ℕ) (p : SourceQueue)
        → slice_get (no_part ∷ replicate n no_part) s ≡ Some p → (p.frames ≡ 0) × (p.octets ≡ 0)
    at rest zero p is = let same : no_part ≡ p = cc in
        (sym (ap (λ (x : SourceQueue). x.frames) same), sym (ap (λ (x : SourceQueue). x.octets) same))
    at rest (suc s) p is = rest s p is

-- the counts are small
pub counted_few : (parts : List SourceQueue) (heads : List Head) (octets : List ℕ) (size s : ℕ) → AreCounted parts heads
    → sizes heads ≡ length octets → length heads < 2048 → length octets + size ≤ 524288
    → IfSome (slice_get parts s) (λ p. (p.frames + 1 < 2 ^ 64) × (p.octets + size < 2 ^ 64))
counted_few parts heads octets size s counted all many long = go (slice_get parts s) refl
  where
    go : (o : Option SourceQueue) → slice_get parts s ≡ o
        → IfSome o (λ p. (p.frames + 1 < 2 ^ 64) × (p.octets + size < 2 ^ 64))
    go None is = tt
    go (Some p) is =
        let c = counted s p is in let few = own_few s heads in
        let c0 = c.0 in let c1 = c.1 in let f0 = few.0 in let f1 = few.1 in
        (omega (arith, c0, f0, many), omega (arith, c1, f1, all, long))

-- the first head is among those of its source
pub counted_first : (parts : List SourceQueue) (h : Head) (heads : List Head) → AreCounted parts (h ∷ heads)
    → IfSome (slice_get parts h.source) (λ p. (1 ≤ p.frames) × (h.size ≤ p.octets))
counted_first parts h heads counted = go (slice_get parts h.source) refl
  where
    go : (o : Option SourceQueue) → slice_get parts h.source ≡ o → IfSome o (λ p. (1 ≤ p.frames) × (h.size ≤ p.octets))
    go None is = tt
    go (Some p) is =
        let c = counted h.source p is in
        let own : heads_of h.source (h ∷ heads) ≡ h ∷ heads_of h.source heads =
        ap (λ b. cond b (h ∷ heads_of h.source heads) (heads_of h.source heads)) (eq-eqb h.source h.source refl) in
        let c0 = c.0 in let c1 = c.1 in let l = ap length own in let z = ap sizes own in
        (omega (arith, c0, l), omega (arith, c1, z))

-- ---- the invariant

-- the invariant holds with one more frame
pub line_put : (heads : List Head) (octets : List ℕ) (places1 places2 : ℕ) (parts : List SourceQueue) (h : Head)
    (more : List ℕ) → IsLine heads octets places1 places2 parts → h.size ≡ length more → h.size ≤ 9026
    → IsLine (heads ++ h ∷ []) (octets ++ more) places1 places2 (with_one h.source h.size parts)
line_put heads octets p1 p2 parts h more line size fits =
    let long = length-append octets more in
    let one = sizes_put heads h in
    let all = line.all in
    record {
      all = omega (arith, long, one, all, size);
      fit = fit_put heads h line.fit fits;
      for_heads = line.for_heads;
      for_bpdus = line.for_bpdus;
      counted = counted_put parts heads h line.counted;
    }

-- the invariant holds without the first frame
pub line_left : (h : Head) (heads : List Head) (octets : List ℕ) (places1 places2 : ℕ) (parts : List SourceQueue)
    → IsLine (h ∷ heads) octets places1 places2 parts
    → IsLine heads (drop h.size octets) places1 places2 (without_one h.source h.size parts)
line_left h heads octets p1 p2 parts line =
    let all = line.all in
    let left = length-drop h.size octets in
    record {
      all = omega (arith, all, left);
      fit = line.fit.1;
      for_heads = line.for_heads;
      for_bpdus = line.for_bpdus;
      counted = counted_left parts h heads line.counted;
    }

-- whether there is room, by the counts and by the frames
abbrev by_counts : ℕ → ℕ → ℕ → Bool → Bool
by_counts frames waiting size own =
    nat_le size 9026 && ((nat_lt frames 2048 && nat_le (waiting + size) 524288)
    && ((nat_lt frames 1024 && nat_le (waiting + size) 262144) || own))

-- the line after a frame is put, if there is room for it
pub put_view : (parts : List SourceQueue) (n : ℕ) (bpdus : List (List ℕ)) (heads : List Head) (octets : List ℕ)
    (dropped : ℕ)
    (ended : Bool) (source to : ℕ) (more : List ℕ) (h : Head) (frames waiting : ℕ) (own : Bool)
    → n ≡ length parts → AreCounted parts heads → sizes heads ≡ length octets → h.source ≡ source → h.to ≡ to
    → h.size ≡ length more
    → frames ≡ length heads → waiting ≡ length octets
    → own ≡ fits_in (length parts) (slice_get parts source) (length more)
    → by_counts frames waiting (length more) own ≡ true
    → waiting_of n bpdus (cut (heads ++ h ∷ []) (octets ++ more)) dropped ended
    ≡ after_frame (sourced source (packet to more)) (waiting_of n bpdus (cut heads octets) dropped ended)
put_view parts n bpdus heads octets dropped ended source to more h frames waiting own parts_are counted all from_is
    to_is size many long own_is room =
    let count : length (cut heads octets) ≡ frames = cut_length heads octets ∙ sym many in
    let octets_are : octets_of (cut heads octets) ≡ waiting = cut_octets heads octets all ∙ all ∙ sym long in
    let part : (nat_lt source n && fits_part n (from_source source (cut heads octets)) (length more)) ≡ own =
    ap (λ k. nat_lt source k && fits_part k (from_source source (cut heads octets)) (length more)) parts_are
    ∙ sym (own_room parts heads octets source (length more) counted all) ∙ sym own_is in
    rw (count, octets_are, part, room, cut_put heads h octets more all size, to_is, from_is) refl

-- the line after a frame is put, if there is no room for it
pub dropped_view : (parts : List SourceQueue) (n : ℕ) (bpdus : List (List ℕ)) (heads : List Head) (octets : List ℕ)
    (dropped dropped' : ℕ) (ended : Bool) (source to : ℕ) (more : List ℕ) (frames waiting : ℕ) (own : Bool)
    → n ≡ length parts → AreCounted parts heads → sizes heads ≡ length octets
    → dropped' ≡ min (dropped + 1) (2 ^ 64 - 1) → frames ≡ length heads → waiting ≡ length octets
    → own ≡ fits_in (length parts) (slice_get parts source) (length more)
    → by_counts frames waiting (length more) own ≡ false
    → waiting_of n bpdus (cut heads octets) dropped' ended
    ≡ after_frame (sourced source (packet to more)) (waiting_of n bpdus (cut heads octets) dropped ended)
dropped_view parts n bpdus heads octets dropped dropped' ended source to more frames waiting own parts_are counted all e
    many long own_is room =
    let count : length (cut heads octets) ≡ frames = cut_length heads octets ∙ sym many in
    let octets_are : octets_of (cut heads octets) ≡ waiting = cut_octets heads octets all ∙ all ∙ sym long in
    let part : (nat_lt source n && fits_part n (from_source source (cut heads octets)) (length more)) ≡ own =
    ap (λ k. nat_lt source k && fits_part k (from_source source (cut heads octets)) (length more)) parts_are
    ∙ sym (own_room parts heads octets source (length more) counted all) ∙ sym own_is in
    rw (count, octets_are, part, room, e) refl

-- the line after all that waits is dropped
pub drop_view : (parts : ℕ) (bpdus : List (List ℕ)) (heads : List Head) (octets : List ℕ)
    (dropped few dropped' : ℕ) (ended : Bool) (b f : ℕ) → b ≡ length bpdus → f ≡ length heads
    → few ≡ min (dropped + b) (2 ^ 64 - 1)
    → dropped' ≡ min (few + f) (2 ^ 64 - 1)
    → waiting_of parts [] [] dropped' ended ≡ after_drop (waiting_of parts bpdus (cut heads octets) dropped ended)
drop_view parts bpdus heads octets dropped few dropped' ended b f bs fs one two =
    let count = cut_length heads octets in
    let many : dropped' ≡ min (dropped + (length bpdus + length (cut heads octets))) (2 ^ 64 - 1) =
    omega (arith, count, bs, fs, one, two) in
    ap (λ (n : ℕ). waiting_of parts [] [] n ended) many
