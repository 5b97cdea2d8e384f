-- Own updates by their numbers: one of each number.
use Rattle.std.proofs.Common.{◌≡◌, ℕ, ◌+◌, ◌<◌, Some, List, [], ◌∷◌, ◌++◌, length, take, get_or, ap, sym, subst, ◌∙◌}
use Rattle.std.proofs.Common.{add-one, arith}
use Rattle.std.proofs.Math.Seq.{take-suc, take-length}
use Rattle.std.proofs.lemmas.Option.{slice_get-get_or}
use Rattle.route_wire.specs.declared.update.Key.{Key}
use Rattle.route_wire.specs.Fields.{Fields}
use Rattle.route_join.specs.Table.{value_at, register_of}
use Rattle.ev_claims.specs.Speaker.{Speaker, KeepsNumbers, IsOwnAt, IsNoOwnAt, own}
use Rattle.ev_book.specs.Journal.{AreOwnSince}
use Rattle.ev_book.specs.Inner.Journal.{HasOwnSince}

-- an own update's register, by its key
by_key : (e : Speaker) (u : Fields) → u.register.originator ≡ e.address
    → u.register ≡ register_of e.address u.register.key
by_key e u h = λ i. record { originator = h i; key = u.register.key }

own_there : (e : Speaker) (n : ℕ) (u : Fields) → IsOwnAt e n u → own e u.register.key ≡ Some u.value
own_there e n u h = ap (value_at e.table) (sym (by_key e u h.own)) ∙ h.there

pub same_own : (e : Speaker) → KeepsNumbers e → (n : ℕ) (u w : Fields) → IsOwnAt e n u → IsOwnAt e n w → u ≡ w
same_own e kept n u w a b =
    let keys : u.register.key ≡ w.register.key = kept.distinct u.register.key w.register.key u.value w.value
    (own_there e n u a) (own_there e n w b) a.present b.present (a.numbered ∙ sym b.numbered) in
    let registers : u.register ≡ w.register = by_key e u a.own ∙ ap (register_of e.address) keys
    ∙ sym (by_key e w b.own) in
    let both : Some u.value ≡ Some w.value = sym a.there ∙ ap (value_at e.table) registers ∙ b.there in
    let values : u.value ≡ w.value = cc in
    (λ i. record { register = registers i; value = values i })

pub not_none : (e : Speaker) (n : ℕ) (u : Fields) → IsNoOwnAt e n → IsOwnAt e n u → ⊥
not_none e n u none h = none u.register.key u.value (own_there e n u h) h.present h.numbered

-- the next of the own updates
pub next_own : (e : Speaker) → KeepsNumbers e → (before : ℕ) (own : List Fields) → AreOwnSince e before own → (i : ℕ)
    → i < length own → (u : Fields) → IsOwnAt e (before + i + 1) u → take (i + 1) own ≡ take i own ++ u ∷ []
next_own e kept before own h i lt u at =
    let there = h.numbered i (get_or own i u) (slice_get-get_or own i u lt) in
    let number : before + (i + 1) ≡ before + i + 1 = omega arith in
    let same : get_or own i u ≡ u = same_own e kept (before + i + 1) (get_or own i u) u
    (subst (λ n. IsOwnAt e n (get_or own i u)) number there) at in
    ap (λ n. take n own) (add-one i) ∙ take-suc own i u lt ∙ ap (λ x. take i own ++ x ∷ []) same

-- each of them is there
pub no_gap : (e : Speaker) (before i : ℕ) → HasOwnSince e before → before + i < e.counter → IsNoOwnAt e (before + i + 1)
    → ⊥
no_gap e before i has lt none =
    let own = has.0 in
    let all = has.1.all in
    let low : i < length own = omega (arith, lt, all) in
    let d : Fields = get_or own i (record {
      register = record {
        originator = 0;
        key = Rattle.route_wire.specs.declared.update.Key.TheVariants.Flood 0;
      };
      value = record {
        counter = 0;
        incarnation = 0;
        content =
            Rattle.route_wire.specs.declared.update.Content.TheVariants.Withdrawn;
      };
    }) in
    let there = has.1.numbered i d (slice_get-get_or own i _ low) in
    let number : before + (i + 1) ≡ before + i + 1 = omega arith in
    not_none e (before + i + 1) d none (subst (λ n. IsOwnAt e n d) number there)

-- two lists of them are the same
pub all_taken_own : (before : ℕ) (own : List Fields) (e : Speaker) (count : ℕ) → AreOwnSince e before own
    → before + count ≡ e.counter → take count own ≡ own
all_taken_own before own e count h c = let all = h.all in let n : count ≡ length own = omega (arith, c, all) in
    ap (λ k. take k own) n ∙ take-length own
