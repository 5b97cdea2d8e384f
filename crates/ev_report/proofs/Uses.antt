-- The uses of a stream of records.
use Rattle.std.proofs.Common.{◌≡◌, ℕ, List, Result, Ok, MatchResult, subst}
use Rattle.route_join.specs.Report.{report_of}
use Rattle.ev_report.specs.declared.originators.ListFault.{ListFault}
use Rattle.ev_report.specs.declared.status.Status.{Status}
use Rattle.ev_report.specs.declared.usage.StreamUse.{StreamUse}
use Rattle.ev_report.specs.declared.usage.StreamUse.TheVariants.{Report, Migrate}
use Rattle.ev_report.specs.Originators.{Text, list_text, originators_of_text}
use Rattle.ev_report.specs.Ends.{Devices, Passes}
use Rattle.ev_report.specs.Usage.{TellsUsage, uses, OfList}
use Rattle.ev_report.proofs.Finishing.{passed_renders}
use Rattle.ev_report.proofs.Migrating.{passed_migrates}

-- output to buffering devices reaches the inner devices in the end
pub passed_uses : (wanted : StreamUse) (originators : List ℕ) (before held after : Devices) (status last : Status)
    → Passes before.out.failures before.notes.failures held after status last
    → uses wanted originators before held status → uses wanted originators before after last
passed_uses Report originators before held after status last p =
    passed_renders before held after status last p 3 (λ ending outcomes t. report_of t) originators
passed_uses Migrate originators before held after status last p =
    passed_migrates originators before held after status last p

-- the originators of a list are used
pub uses_list : (does : List ℕ → Devices → Devices → Status → Type 0) (list : Text) (originators : List ℕ)
    (before after : Devices) (status : Status) → Ok originators ≡ originators_of_text list
    → does originators before after status → OfList does list before after status
uses_list does list originators before after status is h =
    subst (λ (l : Result (List ℕ) (Text × ListFault)). MatchResult l (λ os. does os before after status)
    (λ wrong. TellsUsage (list_text wrong) before after status)) is h
