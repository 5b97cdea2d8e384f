-- A link with its line: frames keep their order, and each drop is counted.
use Rattle.std.proofs.Common.{◌≡◌, ℕ, ◌+◌, ◌-◌, ◌^◌, ◌≤◌, ◌==◌, min, Bool, true, false, ◌&&◌, not, nat_lt}
use Rattle.std.proofs.Common.{if◌then◌else◌}
use Rattle.std.proofs.Common.{List, [], ◌∷◌, ◌++◌, length, refl, sym, ap, ◌∙◌, append_assoc, arith}
use Rattle.std.proofs.lemmas.Bool.{and_parts, eqb-true}
use Rattle.std.proofs.lemmas.List.{append-nil}
use Rattle.ev_links.specs.Line.{Sourced, Waiting, waiting_of, has_room, after_frame, after_bpdu, frames_in_front}
use Rattle.ev_links.specs.Line.{frames_left}
use Rattle.ev_links.specs.DirectLine.{Direct, is_free, after_try}
use Rattle.ev_links.specs.Laws.{Step, passes, puts, takes, ends, drops_rest, after_step, after_steps, IsStep, AreSteps}
use Rattle.ev_links.specs.Laws.{leaving, kept, drops, all_leaving, all_kept, all_drops}

none_left : (frames : List Sourced) → (length frames == 0) ≡ true → frames ≡ []
none_left [] is = refl
none_left (f ∷ frames) is = let e = eqb-true (length (f ∷ frames)) 0 is in absurd (omega (arith, e))

no_frames : (sending : Bool) (bpdus : List (List ℕ)) (frames : List Sourced)
    → (not sending && (length bpdus == 0 && length frames == 0)) ≡ true → frames ≡ []
no_frames true bpdus frames is = cc
no_frames false bpdus frames is = none_left frames (and_parts (length bpdus == 0) (length frames == 0) is).1

-- nothing waits for a free link
none_waits : (d : Direct) → is_free d ≡ true → d.line.frames ≡ []
none_waits d free = no_frames d.is_sending d.line.bpdus d.line.frames free

-- ---- frames

frames_put : (p : Sourced) (w : Waiting) (room : Bool)
    → has_room w.parts w.frames p.source (length p.packet.octets) ≡ room
    → (after_frame p w).frames ≡ w.frames ++ (if room then p ∷ [] else [])
frames_put p w true is = ap (λ (b : Bool).
    (if b then waiting_of w.parts w.bpdus (w.frames ++ p ∷ []) w.dropped w.has_ended
    else waiting_of w.parts w.bpdus w.frames (min (w.dropped + 1) (2 ^ 64 - 1)) w.has_ended).frames) is
frames_put p w false is = ap (λ (b : Bool).
    (if b then waiting_of w.parts w.bpdus (w.frames ++ p ∷ []) w.dropped w.has_ended
    else waiting_of w.parts w.bpdus w.frames (min (w.dropped + 1) (2 ^ 64 - 1)) w.has_ended).frames) is
    ∙ sym (append-nil w.frames)

pub same_line : (p : Sourced) (d : Direct) (free : Bool) → (if free then after_try p false d else d).line ≡ d.line
same_line p d true = refl
same_line p d false = refl

pub bpdu_frames : (bpdu : List ℕ) (w : Waiting) (few : Bool) → nat_lt (length w.bpdus) 16 ≡ few
    → (after_bpdu bpdu w).frames ≡ w.frames
bpdu_frames bpdu w true is = rw is refl
bpdu_frames bpdu w false is = rw is refl

parted : (bpdus : List (List ℕ)) (frames : List Sourced)
    → frames ++ [] ≡ frames_in_front bpdus frames ++ frames_left bpdus frames
parted (b ∷ bpdus) frames = append-nil frames
parted [] [] = refl
parted [] (f ∷ frames) = append-nil (f ∷ frames)

-- one call
one_step : (s : Step) (d : Direct) → IsStep s d
    → d.line.frames ++ kept s d ≡ leaving s d ++ (after_step s d).line.frames
one_step (passes true p) d free = rw (none_waits d free) refl
one_step (passes false p) d is =
    sym (frames_put p d.line (has_room d.line.parts d.line.frames p.source (length p.packet.octets)) refl)
    ∙ ap (λ (w : Waiting). (after_frame p w).frames) (sym (same_line p d (is_free d)))
one_step (puts bpdu) d is =
    append-nil d.line.frames ∙ sym (bpdu_frames bpdu d.line (nat_lt (length d.line.bpdus) 16) refl)
one_step takes d is = parted d.line.bpdus d.line.frames
one_step ends d is = append-nil d.line.frames
one_step drops_rest d is = refl

pub frames_keep_their_order : (steps : List Step) (d : Direct) → AreSteps steps d
    → d.line.frames ++ all_kept steps d ≡ all_leaving steps d ++ (after_steps steps d).line.frames
frames_keep_their_order [] d are = append-nil d.line.frames
frames_keep_their_order (s ∷ steps) d are =
    let next = after_step s d in
    let rest = all_kept steps next in
    sym (append_assoc d.line.frames (kept s d) rest)
    ∙ ap (λ (l : List Sourced). l ++ rest) (one_step s d are.0)
    ∙ append_assoc (leaving s d) next.line.frames rest
    ∙ ap (λ (l : List Sourced). leaving s d ++ l) (frames_keep_their_order steps next are.1)
    ∙ sym (append_assoc (leaving s d) (all_leaving steps next) (after_steps steps next).line.frames)

-- ---- drops

one_counted : (n : ℕ) → n ≤ 2 ^ 64 - 1 → n ≡ min (n + 0) (2 ^ 64 - 1)
one_counted n few = omega (arith, few)

frame_counted : (p : Sourced) (w : Waiting) (room : Bool)
    → has_room w.parts w.frames p.source (length p.packet.octets) ≡ room
    → w.dropped ≤ 2 ^ 64 - 1
    → (after_frame p w).dropped ≡ min (w.dropped + (if room then 0 else 1)) (2 ^ 64 - 1)
frame_counted p w true is few = rw is (one_counted w.dropped few)
frame_counted p w false is few = rw is refl

bpdu_counted : (bpdu : List ℕ) (w : Waiting) (few : Bool) → nat_lt (length w.bpdus) 16 ≡ few → w.dropped ≤ 2 ^ 64 - 1
    → (after_bpdu bpdu w).dropped ≡ min (w.dropped + (if few then 0 else 1)) (2 ^ 64 - 1)
bpdu_counted bpdu w true is most = rw is (one_counted w.dropped most)
bpdu_counted bpdu w false is most = rw is refl

one_drop : (s : Step) (d : Direct) → IsStep s d → d.line.dropped ≤ 2 ^ 64 - 1
    → (after_step s d).line.dropped ≡ min (d.line.dropped + drops s d) (2 ^ 64 - 1)
one_drop (passes true p) d is few = one_counted d.line.dropped few
one_drop (passes false p) d is few =
    ap (λ (w : Waiting). (after_frame p w).dropped) (same_line p d (is_free d))
    ∙ frame_counted p d.line (has_room d.line.parts d.line.frames p.source (length p.packet.octets)) refl few
one_drop (puts bpdu) d is few = bpdu_counted bpdu d.line (nat_lt (length d.line.bpdus) 16) refl few
one_drop takes d is few = one_counted d.line.dropped few
one_drop ends d is few = one_counted d.line.dropped few
one_drop drops_rest d is few = refl

both : (a b c n m : ℕ) → b ≡ min (a + n) (2 ^ 64 - 1) → c ≡ min (b + m) (2 ^ 64 - 1)
    → c ≡ min (a + (n + m)) (2 ^ 64 - 1)
both a b c n m first second = omega (arith, first, second)

below : (a b : ℕ) → b ≡ min a (2 ^ 64 - 1) → b ≤ 2 ^ 64 - 1
below a b is = omega (arith, is)

pub each_drop_is_counted : (steps : List Step) (d : Direct) → AreSteps steps d → d.line.dropped ≤ 2 ^ 64 - 1
    → (after_steps steps d).line.dropped ≡ min (d.line.dropped + all_drops steps d) (2 ^ 64 - 1)
each_drop_is_counted [] d are few = one_counted d.line.dropped few
each_drop_is_counted (s ∷ steps) d are few =
    let next = after_step s d in
    let one = one_drop s d are.0 few in
    both d.line.dropped next.line.dropped (after_steps steps next).line.dropped (drops s d) (all_drops steps next) one
    (each_drop_is_counted steps next are.1 (below (d.line.dropped + drops s d) next.line.dropped one))
