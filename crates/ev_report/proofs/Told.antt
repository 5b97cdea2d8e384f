-- The messages about the arguments.
use Rattle.std.proofs.Common.{◌≡◌, inl, inr, ℕ, Bool, true, false, cond, List, Result, Ok, Err, MatchResult, is_ok}
use Rattle.std.proofs.Common.{refl, ap, subst, ◌∙◌, arith}
use Rattle.std.proofs.lemmas.Bool.Decides.{nat_tests}
use Rattle.ether_wire.specs.declared.ends.Device.{Device}
use Rattle.ether_wire.specs.Ends.{End, Source, IsOpen, Puts}
use Rattle.ev_report.specs.declared.originators.ListFault.{ListFault}
use Rattle.ev_report.specs.Originators.{Text, list_text}
use Rattle.ev_report.specs.Ends.{devices, has_failed}
use Rattle.ev_report.specs.Usage.{IsTold, TellsUsage}
use Rattle.ev_report.specs.declared.status.Status.{Status}
use Rattle.ev_report.specs.declared.status.Status.TheVariants as statuses

pub failed_put : (a b : End) (r : Result (Unit {0}) Device) (text : Text) (n : Status) → IsOpen a → Puts a b text r
    → (if_ok : Bool)
    → if_ok ≡ is_ok r → ◌≡◌ {A = Status} (cond if_ok n statuses.Device) (cond (has_failed a b) statuses.Device n)
failed_put a b (Ok x) text n room h true e =
    let same : b.failures ≡ a.failures = ap (λ (y : End). y.failures) h in
    let none : has_failed a b ≡ false = grind (arith, nat_tests) in
    rw none refl
failed_put a b (Ok x) text n room h false e = cc
failed_put a b (Err d) text n room h true e = cc
failed_put a b (Err d) text n room h false e =
    let more = h room in
    let one : has_failed a b ≡ true = grind (arith, nat_tests) in
    rw one refl

pub told_put : (a b : End) (r : Result (Unit {0}) Device) (text : Text) (status : Status) → IsOpen a → Puts a b text r
    → ◌≡◌ {A = Status} status (cond (is_ok r) statuses.Usage statuses.Device) → IsTold text a b status
told_put a b (Ok x) text status room h is =
    record {
      noted = record { written = λ _. h; failures = inl (ap (λ (y : End). y.failures) h) };
      status_is = is ∙ failed_put a b (Ok x) text statuses.Usage room h true refl;
    }
told_put a b (Err d) text status room h is =
    let more = h room in
    record {
      noted = record { written = λ same. absurd (omega arith); failures = inr more };
      status_is = is ∙ failed_put a b (Err d) text statuses.Usage room h false refl;
    }

pub tells_usage : (input : Source) (out notes notes' : End) (text : Text) (status : Status)
    → IsTold text notes notes' status
    → TellsUsage text (devices input out notes) (devices input out notes') status
tells_usage input out notes notes' text status told = record { input = refl; out = refl; told = told }

-- a wrong list is reported
pub tells_list : (input : Source) (out notes notes' : End) (P : List ℕ
    → Type 0) (list : Result (List ℕ) (Text × ListFault)) (wrong : Text × ListFault) (status : Status)
    → Err wrong ≡ list
    → IsTold (list_text wrong) notes notes' status
    → MatchResult list P (λ w. TellsUsage (list_text w) (devices input out notes) (devices input out notes') status)
tells_list input out notes notes' P list wrong status is told =
    subst (λ (l : Result (List ℕ) (Text × ListFault)). MatchResult l P
    (λ w. TellsUsage (list_text w) (devices input out notes) (devices input out notes') status)) is
    (tells_usage input out notes notes' (list_text wrong) status told)
