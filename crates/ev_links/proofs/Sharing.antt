-- A line drops a frame that isn't too long only if the part of its source is full.
use Rattle.std.proofs.Common.{◌≡◌, ◌≢◌, ℕ, zero, suc, ◌+◌, ◌-◌, ◌*◌, ◌/◌, ◌^◌, ◌≤◌, ◌<◌, min, Bool, true, false, cond}
use Rattle.std.proofs.Common.{eqb}
use Rattle.std.proofs.Common.{◌&&◌, ◌||◌, nat_lt, nat_le, List, [], ◌∷◌, ◌++◌, length, drop, refl, sym, ap, subst}
use Rattle.std.proofs.Common.{◌∙◌, arith}
use Rattle.std.proofs.lemmas.Bool.{false≢true, and_parts, eq-eqb}
use Rattle.std.proofs.lemmas.Bool.Decides.{nat_tests}
use Rattle.std.proofs.Math.Nat.{mul-div-le, suc-mul}
use Rattle.ev_links.specs.Line.{Sourced, Waiting, waiting_of, nothing_waits, octets_of, from_source, fits_half}
use Rattle.ev_links.specs.Line.{fits_part}
use Rattle.ev_links.specs.Line.{fits_line, has_room, after_frame, after_bpdu, frames_left}
use Rattle.ev_links.specs.DirectLine.{Direct, is_free}
use Rattle.ev_links.specs.Laws.{Step, passes, puts, takes, ends, drops_rest, after_step, after_steps}
use Rattle.ev_links.specs.Laws.{OnlyAFullPartDrops}
use Rattle.ev_links.proofs.Orders.{same_line}

-- ---- tests

lt_of : (a b : ℕ) → nat_lt a b ≡ true → a < b
lt_of a b is = grind (arith, nat_tests)

le_of : (a b : ℕ) → nat_le a b ≡ true → a ≤ b
le_of a b is = grind (arith, nat_tests)

lt_is : (a b : ℕ) → a < b → nat_lt a b ≡ true
lt_is a b less = grind (arith, nat_tests)

le_is : (a b : ℕ) → a ≤ b → nat_le a b ≡ true
le_is a b less = grind (arith, nat_tests)

-- ---- sums

abbrev sum_to : ℕ → (ℕ → ℕ) → ℕ
sum_to zero f = 0
sum_to (suc n) f = sum_to n f + f n

sum_same : (n : ℕ) (f g : ℕ → ℕ) → ((t : ℕ) → t < n → g t ≡ f t) → sum_to n g ≡ sum_to n f
sum_same zero f g same = refl
sum_same (suc n) f g same =
    let rest = sum_same n f g (λ t less. same t (omega (arith, less))) in let last = same n (omega arith) in
    omega (arith, rest, last)

sum_fewer : (n : ℕ) (f g : ℕ → ℕ) → ((t : ℕ) → t < n → f t ≤ g t) → sum_to n f ≤ sum_to n g
sum_fewer zero f g less = omega arith
sum_fewer (suc n) f g less =
    let rest = sum_fewer n f g (λ t below. less t (omega (arith, below))) in let last = less n (omega arith) in
    omega (arith, rest, last)

-- no more than the bound for each
sum_bound : (n p : ℕ) (f : ℕ → ℕ) → ((t : ℕ) → f t ≤ p) → sum_to n f ≤ n * p
sum_bound zero p f few = omega arith
sum_bound (suc n) p f few =
    let rest = sum_bound n p f few in let last = few n in let more = suc-mul n p in omega (arith, rest, last, more)

-- one of them has more
sum_more : (n s k : ℕ) (f g : ℕ → ℕ) → s < n → ((t : ℕ) → t ≢ s → g t ≡ f t) → g s ≡ f s + k
    → sum_to n g ≡ sum_to n f + k
sum_more zero s k f g less same more = absurd (omega (arith, less))
sum_more (suc n) s k f g less same more = go (eqb n s) refl (λ less. sum_more n s k f g less same more)
  where
    go : (b : Bool) → eqb n s ≡ b → (s < n → sum_to n g ≡ sum_to n f + k) → sum_to (suc n) g ≡ sum_to (suc n) f + k
    go true is before =
        let here : n ≡ s = grind (arith, nat_tests) in
        let rest = sum_same n f g (λ t below. same t (λ bad. absurd (omega (arith, below, here, bad)))) in
        let last : g n ≡ f n + k = ap g here ∙ more ∙ ap (λ t. f t + k) (sym here) in omega (arith, rest, last)
    go false is before =
        let ne : n ≢ s = (λ bad. grind (arith, nat_tests)) in
        let rest = before (omega (arith, less, ne)) in
        let last = same n ne in omega (arith, rest, last)

-- one of them has less, by this much at most
sum_less : (n s k : ℕ) (f g : ℕ → ℕ) → ((t : ℕ) → t ≢ s → f t ≤ g t) → f s ≤ g s + k → sum_to n f ≤ sum_to n g + k
sum_less zero s k f g same more = omega arith
sum_less (suc n) s k f g same more = go (eqb n s) refl (sum_less n s k f g same more)
  where
    go : (b : Bool) → eqb n s ≡ b → sum_to n f ≤ sum_to n g + k → sum_to (suc n) f ≤ sum_to (suc n) g + k
    go true is before =
        let here : n ≡ s = grind (arith, nat_tests) in
        let rest = sum_fewer n f g (λ t less. same t (λ bad. absurd (omega (arith, less, here, bad)))) in
        let last : f n ≤ g n + k = subst (λ t. f t ≤ g t + k) (sym here) more in omega (arith, rest, last)
    go false is before =
        let ne : n ≢ s = (λ bad. grind (arith, nat_tests)) in
        let last = same n ne in omega (arith, before, last)

-- none is above a bound, and one of them is below it by this much
sum_below : (n s k p : ℕ) (f : ℕ → ℕ) → s < n → ((t : ℕ) → f t ≤ p) → f s + k ≤ p → sum_to n f + k ≤ n * p
sum_below zero s k p f less few one = absurd (omega (arith, less))
sum_below (suc n) s k p f less few one = go (eqb n s) refl (λ less. sum_below n s k p f less few one)
  where
    go : (b : Bool) → eqb n s ≡ b → (s < n → sum_to n f + k ≤ n * p) → sum_to (suc n) f + k ≤ suc n * p
    go true is before =
        let here : n ≡ s = grind (arith, nat_tests) in
        let last : f n + k ≤ p = subst (λ t. f t + k ≤ p) (sym here) one in
        let rest = sum_bound n p f few in let more = suc-mul n p in omega (arith, rest, last, more)
    go false is before =
        let ne : n ≢ s = (λ bad. grind (arith, nat_tests)) in
        let rest = before (omega (arith, less, ne)) in let last = few n in
        let more = suc-mul n p in omega (arith, rest, last, more)

-- ---- the waiting frames, by a measure

module _ (m : Sourced → ℕ) where
  abbrev amount : List Sourced → ℕ
  amount [] = 0
  amount (f ∷ frames) = m f + amount frames

  abbrev used : List Sourced → ℕ → ℕ
  used frames s = amount (from_source s frames)

  amount_put : (frames : List Sourced) (f : Sourced) → amount (frames ++ f ∷ []) ≡ amount frames + m f
  amount_put [] f = omega arith
  amount_put (g ∷ frames) f = let rest = amount_put frames f in omega (arith, rest)

  used_put : (frames : List Sourced) (f : Sourced) (s : ℕ)
      → used (frames ++ f ∷ []) s ≡ used frames s + cond (eqb f.source s) (m f) 0
  used_put [] f s = go (eqb f.source s)
    where
      go : (b : Bool) → amount (cond b (f ∷ []) []) ≡ 0 + cond b (m f) 0
      go true = omega arith
      go false = omega arith
  used_put (g ∷ frames) f s = go (eqb g.source s) (used_put frames f s)
    where
      go : (b : Bool) → used (frames ++ f ∷ []) s ≡ used frames s + cond (eqb f.source s) (m f) 0
          → amount (cond b (g ∷ from_source s (frames ++ f ∷ [])) (from_source s (frames ++ f ∷ [])))
          ≡ amount (cond b (g ∷ from_source s frames) (from_source s frames)) + cond (eqb f.source s) (m f) 0
      go true rest = omega (arith, rest)
      go false rest = rest

  used_first : (f : Sourced) (frames : List Sourced) (s : ℕ)
      → used (f ∷ frames) s ≡ cond (eqb f.source s) (m f) 0 + used frames s
  used_first f frames s = go (eqb f.source s)
    where
      go : (b : Bool) → amount (cond b (f ∷ from_source s frames) (from_source s frames))
          ≡ cond b (m f) 0 + used frames s
      go true = refl
      go false = omega arith

  -- the used part of a source
  abbrev share : ℕ → List Sourced → ℕ → ℕ
  share part frames s = min (used frames s) part

  -- beside the shared half there is no more than the used parts of the sources
  abbrev IsFair : ℕ → ℕ → ℕ → List Sourced → Type 0
  IsFair half part n frames = amount frames ≤ half + sum_to n (share part frames)

  fair_half : (half part n : ℕ) (frames : List Sourced) (f : Sourced) → amount frames + m f ≤ half
      → IsFair half part n (frames ++ f ∷ [])
  fair_half half part n frames f fits = let put = amount_put frames f in omega (arith, put, fits)

  other_source : (f : Sourced) (t : ℕ) → t ≢ f.source → cond (eqb f.source t) (m f) 0 ≡ 0
  other_source f t ne = go (eqb f.source t) refl
    where
      go : (b : Bool) → eqb f.source t ≡ b → cond b (m f) 0 ≡ 0
      go true is = absurd (let same : f.source ≡ t = grind (arith, nat_tests) in ne (sym same))
      go false is = refl

  own_source : (f : Sourced) → cond (eqb f.source f.source) (m f) 0 ≡ m f
  own_source f = ap (λ b. cond b (m f) 0) (eq-eqb f.source f.source refl)

  fair_part : (half part n : ℕ) (frames : List Sourced) (f : Sourced) → f.source < n
      → used frames f.source + m f ≤ part → IsFair half part n frames → IsFair half part n (frames ++ f ∷ [])
  fair_part half part n frames f less fits fair =
      let put = amount_put frames f in
      let all = sum_more n f.source (m f) (share part frames) (share part (frames ++ f ∷ [])) less
      (λ t ne. (let u = used_put frames f t in let none = other_source f t ne in
      ap (λ k. min k part) (let same : used (frames ++ f ∷ []) t ≡ used frames t = omega (arith, u, none) in same)))
      (let u = used_put frames f f.source in let own = own_source f in omega (arith, u, own, fits)) in
      omega (arith, put, all, fair)

  fair_left : (half part n : ℕ) (f : Sourced) (frames : List Sourced) → IsFair half part n (f ∷ frames)
      → IsFair half part n frames
  fair_left half part n f frames fair =
      let all = sum_less n f.source (m f) (share part (f ∷ frames)) (share part frames)
      (λ t ne. (let u = used_first f frames t in let none = other_source f t ne in omega (arith, u, none)))
      (let u = used_first f frames f.source in let own = own_source f in omega (arith, u, own)) in
      omega (arith, all, fair)

  -- so a frame that fits a part fits the line
  fair_fits : (half n s k : ℕ) (frames : List Sourced) → s < n → used frames s + k ≤ half / n
      → IsFair half (half / n) n frames → amount frames + k ≤ half + half
  fair_fits half n s k frames less fits fair =
      let all = sum_below n s k (half / n) (share (half / n) frames) less
      (λ t. omega arith) (omega (arith, fits)) in
      let most = mul-div-le half n in omega (arith, all, most, fair)

-- ---- frames and octets are such measures

abbrev one : Sourced → ℕ
one f = 1

abbrev size : Sourced → ℕ
size f = length f.packet.octets

count_is : (frames : List Sourced) → length frames ≡ amount one frames
count_is [] = refl
count_is (f ∷ frames) = let rest = count_is frames in omega (arith, rest)

octets_are : (frames : List Sourced) → octets_of frames ≡ amount size frames
octets_are [] = refl
octets_are (f ∷ frames) = ap (λ (n : ℕ). length f.packet.octets + n) (octets_are frames)

-- ---- a line

pub record IsFairLine (n : ℕ) (w : Waiting) : Type 0 where
  pub parts : w.parts ≡ n
  pub frames : IsFair one 1024 (1024 / n) n w.frames
  pub octets : IsFair size 262144 (262144 / n) n w.frames

with_frames : (n : ℕ) (w : Waiting) (frames : List Sourced) → w.parts ≡ n
    → IsFair one 1024 (1024 / n) n frames → IsFair size 262144 (262144 / n) n frames
    → (dropped : ℕ) → IsFairLine n (waiting_of w.parts w.bpdus frames dropped w.has_ended)
with_frames n w frames is counts octets dropped = record { parts = is; frames = counts; octets = octets }

-- a frame that has room keeps the line fair
fair_room : (n : ℕ) (frames : List Sourced) (f : Sourced) → has_room n frames f.source (size f) ≡ true
    → IsFair one 1024 (1024 / n) n frames → IsFair size 262144 (262144 / n) n frames
    → IsFair one 1024 (1024 / n) n (frames ++ f ∷ []) × IsFair size 262144 (262144 / n) n (frames ++ f ∷ [])
fair_room n frames f room counts octets = either (fits_half frames (size f)) refl
    (and_parts (fits_line frames (size f)) _ (and_parts (nat_le (size f) 9026) _ room).1).1
  where
    count : length frames ≡ amount one frames
    count = count_is frames

    all : octets_of frames ≡ amount size frames
    all = octets_are frames

    own : List Sourced
    own = from_source f.source frames

    in_part : (nat_lt f.source n && (nat_lt (length own) (1024 / n)
        && nat_le (octets_of own + size f) (262144 / n))) ≡ true
        → IsFair one 1024 (1024 / n) n (frames ++ f ∷ []) × IsFair size 262144 (262144 / n) n (frames ++ f ∷ [])
    in_part is =
        let there : nat_lt f.source n ≡ true = (and_parts (nat_lt f.source n) _ is).0 in
        let fits = (and_parts (nat_lt f.source n) _ is).1 in
        let few : nat_lt (length own) (1024 / n) ≡ true = (and_parts (nat_lt (length own) (1024 / n)) _ fits).0 in
        let short : nat_le (octets_of own + size f) (262144 / n) ≡ true =
        (and_parts (nat_lt (length own) (1024 / n)) _ fits).1 in
        let less : f.source < n = lt_of f.source n there in
        let few' : length own < 1024 / n = lt_of (length own) (1024 / n) few in
        let short' : octets_of own + size f ≤ 262144 / n =
        le_of (octets_of own + size f) (262144 / n) short in
        let c = count_is own in let o = octets_are own in (
          fair_part one 1024 (1024 / n) n frames f less (omega (arith, few', c)) counts,
          fair_part size 262144 (262144 / n) n frames f less (omega (arith, short', o)) octets,
        )

    either : (b : Bool) → fits_half frames (size f) ≡ b
        → (b || (nat_lt f.source n && fits_part n own (size f))) ≡ true
        → IsFair one 1024 (1024 / n) n (frames ++ f ∷ []) × IsFair size 262144 (262144 / n) n (frames ++ f ∷ [])
    either true half is =
        let few : nat_lt (length frames) 1024 ≡ true = (and_parts (nat_lt (length frames) 1024) _ half).0 in
        let short : nat_le (octets_of frames + size f) 262144 ≡ true =
        (and_parts (nat_lt (length frames) 1024) _ half).1 in
        let few' : length frames < 1024 = lt_of (length frames) 1024 few in
        let short' : octets_of frames + size f ≤ 262144 = le_of (octets_of frames + size f) 262144 short in
        let c = count in let o = all in (
          fair_half one 1024 (1024 / n) n frames f (omega (arith, few', c)),
          fair_half size 262144 (262144 / n) n frames f (omega (arith, short', o)),
        )
    either false half is = in_part is

fair_put : (n : ℕ) (f : Sourced) (w : Waiting) → IsFairLine n w → IsFairLine n (after_frame f w)
fair_put n f w fair = go (has_room w.parts w.frames f.source (size f)) refl
  where
    go : (b : Bool) → has_room w.parts w.frames f.source (size f) ≡ b
        → IsFairLine n (cond b (waiting_of w.parts w.bpdus (w.frames ++ f ∷ []) w.dropped w.has_ended)
        (waiting_of w.parts w.bpdus w.frames (min (w.dropped + 1) (2 ^ 64 - 1)) w.has_ended))
    go true room =
        let both = fair_room n w.frames f (ap (λ p. has_room p w.frames f.source (size f)) (sym fair.parts) ∙ room)
        fair.frames fair.octets in
        with_frames n w (w.frames ++ f ∷ []) fair.parts both.0 both.1 w.dropped
    go false room = with_frames n w w.frames fair.parts fair.frames fair.octets (min (w.dropped + 1) (2 ^ 64 - 1))

fair_left_of : (n : ℕ) (bpdus : List (List ℕ)) (frames : List Sourced)
    → IsFair one 1024 (1024 / n) n frames → IsFair size 262144 (262144 / n) n frames
    → IsFair one 1024 (1024 / n) n (frames_left bpdus frames)
    × IsFair size 262144 (262144 / n) n (frames_left bpdus frames)
fair_left_of n (b ∷ bpdus) frames counts octets = (counts, octets)
fair_left_of n [] [] counts octets = (counts, octets)
fair_left_of n [] (f ∷ frames) counts octets =
    (fair_left one 1024 (1024 / n) n f frames counts, fair_left size 262144 (262144 / n) n f frames octets)

fair_step : (n : ℕ) (s : Step) (d : Direct) → IsFairLine n d.line → IsFairLine n (after_step s d).line
fair_step n (passes true f) d fair = fair
fair_step n (passes false f) d fair =
    fair_put n f _ (subst (IsFairLine n) (sym (same_line f d (is_free d))) fair)
fair_step n (puts bpdu) d fair = go (nat_lt (length d.line.bpdus) 16) refl
  where
    go : (b : Bool) → nat_lt (length d.line.bpdus) 16 ≡ b → IsFairLine n (after_bpdu bpdu d.line)
    go true is = rw is (with_frames n (waiting_of d.line.parts (d.line.bpdus ++ bpdu ∷ []) d.line.frames d.line.dropped
        d.line.has_ended) d.line.frames fair.parts fair.frames fair.octets d.line.dropped)
    go false is = rw is (with_frames n (waiting_of d.line.parts (drop 1 d.line.bpdus ++ bpdu ∷ []) d.line.frames
        d.line.dropped d.line.has_ended) d.line.frames fair.parts fair.frames fair.octets
        (min (d.line.dropped + 1) (2 ^ 64 - 1)))
fair_step n takes d fair =
    let both = fair_left_of n d.line.bpdus d.line.frames fair.frames fair.octets in
    record { parts = fair.parts; frames = both.0; octets = both.1 }
fair_step n ends d fair = record { parts = fair.parts; frames = fair.frames; octets = fair.octets }
fair_step n drops_rest d fair = record { parts = fair.parts; frames = omega arith; octets = omega arith }

fair_steps : (n : ℕ) (steps : List Step) (d : Direct) → IsFairLine n d.line → IsFairLine n (after_steps steps d).line
fair_steps n [] d fair = fair
fair_steps n (s ∷ steps) d fair = fair_steps n steps (after_step s d) (fair_step n s d fair)

fair_new : (n : ℕ) → IsFairLine n (nothing_waits n)
fair_new n = record { parts = refl; frames = omega arith; octets = omega arith }

-- a frame that fits the part of its source has room
part_has_room : (n : ℕ) (w : Waiting) (f : Sourced) → IsFairLine n w → f.source < n → size f ≤ 9026
    → fits_part n (from_source f.source w.frames) (size f) ≡ true → has_room w.parts w.frames f.source (size f) ≡ true
part_has_room n w f fair less short fits =
    ap (λ p. has_room p w.frames f.source (size f)) fair.parts ∙ rw (is_short, few, little, there, fits) last
  where
    own : List Sourced
    own = from_source f.source w.frames

    count : length own < 1024 / n
    count = lt_of (length own) (1024 / n) (and_parts (nat_lt (length own) (1024 / n)) _ fits).0

    octets : octets_of own + size f ≤ 262144 / n
    octets = le_of (octets_of own + size f) (262144 / n) (and_parts (nat_lt (length own) (1024 / n)) _ fits).1

    is_short : nat_le (size f) 9026 ≡ true
    is_short = le_is (size f) 9026 short

    there : nat_lt f.source n ≡ true
    there = lt_is f.source n less

    few : nat_lt (length w.frames) 2048 ≡ true
    few = let c = count in let o = count_is own in let a = count_is w.frames in
        let all = fair_fits one 1024 n f.source 1 w.frames less (omega (arith, c, o)) fair.frames in
        lt_is (length w.frames) 2048 (omega (arith, all, a))

    little : nat_le (octets_of w.frames + size f) 524288 ≡ true
    little = let c = octets in let o = octets_are own in let a = octets_are w.frames in
        let all = fair_fits size 262144 n f.source (size f) w.frames less (omega (arith, c, o)) fair.octets in
        le_is (octets_of w.frames + size f) 524288 (omega (arith, all, a))

    or_true : (b : Bool) → (b || true) ≡ true
    or_true true = refl
    or_true false = refl

    last : (fits_half w.frames (size f) || true) ≡ true
    last = or_true (fits_half w.frames (size f))

pub only_a_full_part_drops : OnlyAFullPartDrops
only_a_full_part_drops steps d parts f new are less short none =
    go (fits_part parts (from_source f.source w.frames) (size f)) refl
  where
    w : Waiting
    w = (after_steps steps d).line

    fair : IsFairLine parts w
    fair = fair_steps parts steps d (subst (IsFairLine parts) (sym new) (fair_new parts))

    no_room : (b : Bool) → cond b (f ∷ []) [] ≡ [] → b ≡ false
    no_room true bad = cc
    no_room false bad = refl

    go : (b : Bool) → fits_part parts (from_source f.source w.frames) (size f) ≡ b → b ≡ false
    go true fits = absurd (false≢true (sym (no_room (has_room w.parts w.frames f.source (size f)) none)
        ∙ part_has_room parts w f fair less short fits))
    go false fits = refl
