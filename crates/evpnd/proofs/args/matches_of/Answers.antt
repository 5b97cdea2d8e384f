use Rattle.std.proofs.Common.{◌≡◌, List, true, map, Result, Ok, Err, IfOk, refl, sym, subst}
use Rattle.std.specs.Prelude.{string_bytes}
use Rattle.clap.specs.Words.{App, Text, app_of, fault_of, FailsBy, HasMatchesOf, is_simple_and_free}
use Rattle.clap.specs.declared.error.Error.{Error}
use Rattle.clap.specs.declared.parser.matches.ArgMatches.{ArgMatches}
use Rattle.evpnd.specs.Args.{program, IsAnswer}
use Rattle.evpnd.proofs.args.matches_of.Goals as goal

answered : (words : List Text) (r : Result ArgMatches Error) → FailsBy (fault_of program words) r
    → IfOk r (HasMatchesOf program words) → IsAnswer words r
answered words (Ok m) fails matches = (fails, (matches refl).1)
answered words (Err e) fails matches = fails

pub returns : goal.returns
returns c =
    let is : app_of c.in_ok-program.field-0 ≡ program = c.in_ok-program.ensures in
    let words = map string_bytes c.args.words.now in
    let r = c.try_get_matches_from.result in
    let simple : is_simple_and_free (app_of c.in_ok-program.field-0) ≡ true =
    subst (λ (a : App). is_simple_and_free a ≡ true) (sym is) refl in
    answered words r (subst (λ (a : App). FailsBy (fault_of a words) r) is
    (c.try_get_matches_from.ensures.kinds simple))
    (subst (λ (a : App). IfOk r (HasMatchesOf a words)) is c.try_get_matches_from.ensures.matches)
