-- Counts of refusals, and the answers that are passed on.
use Rattle.std.proofs.Common.{◌≡◌, ◌≢◌, ℕ, ◌+◌, ◌-◌, ◌^◌, ◌<◌, ◌==◌, Bool, true, false, cond, List, [], ◌∷◌, ◌++◌}
use Rattle.std.proofs.Common.{min, length, slice_index, slice_set, Result, Ok, Err, refl, sym, ap, ◌∙◌}
use Rattle.std.proofs.Common.{append_assoc, append-nil, arith, eq-eqb}
use Rattle.std.proofs.lemmas.List.{get_or-set_other}
use Rattle.std.proofs.lemmas.Grind.{get_or-set_at}
use Rattle.std.proofs.lemmas.Map.Views.{exact_unsigned_eq}
use Rattle.route_wire.specs.Fields.{Fields}
use Rattle.ev_exchange.specs.declared.receiver.TheConstants.{KINDS}
use Rattle.ev_exchange.specs.Receiving.{times, capped, AreCounts, news_of, handed_behind, handed}

-- ---- counts
times_push : (kind : ℕ) (answers : List (Result Fields ℕ)) (a : Result Fields ℕ)
    → times kind (answers ++ a ∷ []) ≡ times kind answers + times kind (a ∷ [])
times_push kind [] a = omega arith
times_push kind (Ok u ∷ answers) a = times_push kind answers a
times_push kind (Err r ∷ answers) a = let h = times_push kind answers a in omega arith

-- an update changes no count
pub counts_entered : (counts : List ℕ) (answers : List (Result Fields ℕ)) (u : Fields) → AreCounts counts answers
    → AreCounts counts (answers ++ Ok u ∷ [])
counts_entered counts answers u h = λ kind k. h kind k
    ∙ ap capped (let e = times_push kind answers (Ok u) in omega arith)

-- a refusal raises the count of its kind
pub counts_refused : (counts : List ℕ) (answers : List (Result Fields ℕ)) (r more : ℕ) → r < length counts
    → more ≡ min (slice_index counts r + 1) (2 ^ 64 - 1) → AreCounts counts answers → r < KINDS
    → AreCounts (slice_set counts r more) (answers ++ Err r ∷ [])
counts_refused counts answers r more fits raised h known = λ kind k. go kind k (r == kind) refl
  where
    other : (kind : ℕ) → (r == kind) ≡ false → kind ≢ r
    other kind e same = let is : (r == kind) ≡ true = eq-eqb r kind (sym same) in cc

    go : (kind : ℕ) → kind < KINDS → (b : Bool) → (r == kind) ≡ b
        → slice_index (slice_set counts r more) kind ≡ capped (times kind (answers ++ Err r ∷ []))
    go kind k true e =
        let same : r ≡ kind = exact_unsigned_eq r kind e in
        let one : times kind (Err r ∷ []) ≡ 1 = ap (λ b. cond b 1 0 + 0) e in
        let before = h r known in
        let now : times kind (answers ++ Err r ∷ []) ≡ times r answers + 1 = times_push kind answers (Err r)
        ∙ ap (λ n. times kind answers + n) one ∙ ap (λ x. times x answers + 1) (sym same) in
        get_or-set_at counts r kind more 0 (sym same) fits
        ∙ (let e : more ≡ min (times r answers + 1) (2 ^ 64 - 1) = omega arith in e) ∙ ap capped (sym now)
    go kind k false e =
        let none : times kind (Err r ∷ []) ≡ 0 = ap (λ b. cond b 1 0 + 0) e in
        get_or-set_other counts r kind more 0 (other kind e) ∙ h kind k
        ∙ ap capped (sym (times_push kind answers (Err r) ∙ ap (λ n. times kind answers + n) none
        ∙ (let z : times kind answers + 0 ≡ times kind answers = omega arith in z)))

-- ---- the answers that are passed on
behind_push : (earlier answers : List (Result Fields ℕ)) (a : Result Fields ℕ)
    → handed_behind earlier (answers ++ a ∷ []) ≡ handed_behind earlier answers ++ news_of (earlier ++ answers) a
behind_push earlier [] a = append-nil (news_of earlier a) ∙ ap (λ e. news_of e a) (sym (append-nil earlier))
behind_push earlier (x ∷ answers) a =
    ap (λ more. news_of earlier x ++ more) (behind_push (earlier ++ x ∷ []) answers a
    ∙ ap (λ e. handed_behind (earlier ++ x ∷ []) answers ++ news_of e a) (append_assoc earlier (x ∷ []) answers))
    ∙ sym (append_assoc (news_of earlier x) (handed_behind (earlier ++ x ∷ []) answers)
    (news_of (earlier ++ x ∷ answers) a))

pub handed_push : (answers : List (Result Fields ℕ)) (a : Result Fields ℕ)
    → handed (answers ++ a ∷ []) ≡ handed answers ++ news_of answers a
handed_push answers a = behind_push [] answers a
