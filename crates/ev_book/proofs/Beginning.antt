-- A history that begins.
use Rattle.std.proofs.Common.{◌≡◌, ℕ, ◌+◌, ◌<◌, Bool, true, false, List, [], ◌∷◌, length, refl, ap, sym, ◌∙◌, subst}
use Rattle.std.proofs.Common.{replicate, arith}
use Rattle.route_wire.specs.Fields.{Fields}
use Rattle.ev_book.specs.declared.log_entry.LogEntry.{LogEntry}
use Rattle.ev_book.specs.declared.log_entry.LogEntry.TheVariants.{Begins, Does}
use Rattle.ev_book.specs.Log.{World, world, count, IsHistory, IsKnown}
use Rattle.ev_book.specs.Inner.Rule.{IsKept}
use Rattle.ev_book.specs.HistoryOpening.{is_new, IsNew}
use Rattle.ev_book.proofs.Extending.{first_kept}

pub new_kept : (outside : Bool) (log : List LogEntry) (n : ℕ) → IsNew outside log n → IsKept (replicate n (0, true)) log
new_kept outside log n new = subst (λ (l : List LogEntry). IsKept (replicate n (0, true)) l) (sym new.log_is)
    (first_kept outside new.configs n new.each)

pub new_is : (outside : Bool) (log : List LogEntry) (n : ℕ) → IsNew outside log n → is_new log ≡ true
new_is outside log n new = ap is_new new.log_is

pub new_outside : (outside : Bool) (log : List LogEntry) (n : ℕ) → IsNew outside log n → (world log).outside ≡ outside
new_outside outside log n new = ap (λ (l : List LogEntry). (world l).outside) new.log_is

pub new_each : (outside : Bool) (log : List LogEntry) (n : ℕ) → IsNew outside log n → length (world log).configs ≡ n
new_each outside log n new = ap (λ (l : List LogEntry). length (world l).configs) new.log_is ∙ sym new.each

pub is_legal : (log : List LogEntry) → is_new log ≡ true → IsHistory log
is_legal [] new = absurd cc
is_legal (Begins outside configs ∷ []) new = tt
is_legal (Begins outside configs ∷ e ∷ es) new = absurd cc
is_legal (Does place deed later ∷ es) new = absurd cc

pub is_none : (log : List LogEntry) (place : ℕ) → is_new log ≡ true → count place log ≡ 0
is_none [] place new = refl
is_none (Begins outside configs ∷ []) place new = omega arith
is_none (Begins outside configs ∷ e ∷ es) place new = absurd cc
is_none (Does place deed later ∷ es) n new = absurd cc

pub is_seated : (log : List LogEntry) (n place : ℕ) → length (world log).configs ≡ n → place < n
    → place < length (world log).configs
is_seated log n place each lt = omega (arith, each, lt)

pub outside_known : (log : List LogEntry) (u : Fields) → (world log).outside ≡ true
    → IsKnown (world log).outside (world log).pool u
outside_known log u is = subst (λ (b : Bool). IsKnown b (world log).pool u) (sym is) tt
