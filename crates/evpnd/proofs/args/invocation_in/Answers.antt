use Rattle.std.proofs.Common.{rules, sym, ap, List, Option, Some, None, option_map, ◌≡◌, ◌∙◌, refl}
use Rattle.clap.specs.Words.{Row, Text, rows_of, found_of, subcommand_rows_of}
use Rattle.evpnd.specs.declared.args.Invocation.{Invocation}
use Rattle.evpnd.specs.Args.{needs_of, takes_of, needed_in, given_in, aim_in}
use Rattle.evpnd.specs.Inner.Args.{parts_of}
use Rattle.evpnd.proofs.Given.{found_as, invocation_found}
use Rattle.evpnd.proofs.args.invocation_in.Goals as goal

after : {X Y Z : Type 0} (f : X → Y) (g : Y → Z) (o : Option X)
    → option_map g (option_map f o) ≡ option_map (λ x. g (f x)) o
after f g None = refl
after f g (Some x) = refl

found_at : (n : Text) (w : List Row) (o : Option (Text × List Row)) → Some n ≡ option_map (λ p. p.0) o
    → Some w ≡ option_map (λ p. p.1) o → o ≡ found_as n w
found_at n w None a b = cc
found_at n w (Some p) a b =
    let one : n ≡ p.0 = cc in
    let two : w ≡ p.1 = cc in
    rw (one, two)

pub returns-in_err-required : goal.returns-in_err-required
returns-in_err-required c =
    let all = subcommand_rows_of c.args.matches.now in
    let rows = rows_of (found_of c.in_ok-name.inner.now) in
    let s = c.in_ok-subcommand.subcommand in
    let name : Some c.in_ok-name.name.now ≡ option_map (λ (p : Text × List Row). p.0) all = c.in_ok-name.ensures.name
    ∙ sym (after _ _ _) in
    let is : all ≡ found_as c.in_ok-name.name.now rows = found_at _ _ _ name c.in_ok-name.ensures.rows in
    let none : c.from_residual-in_err-required.result ≡ None = search rules in
    let text : None ≡ needed_in (needs_of s) rows = c.in_err-required.ensures
    ∙ ap (λ o. needed_in o rows) c.needs.ensures in
    ap (λ (o : Option Invocation). option_map parts_of o) none
    ∙ invocation_found all c.in_ok-name.name.now rows s None (given_in (takes_of s) rows) (aim_in s rows)
    is
    c.in_ok-subcommand.ensures text refl refl

pub returns : goal.returns
returns c =
    let all = subcommand_rows_of c.args.matches.now in
    let rows = rows_of (found_of c.in_ok-name.inner.now) in
    let s = c.in_ok-subcommand.subcommand in
    let name : Some c.in_ok-name.name.now ≡ option_map (λ (p : Text × List Row). p.0) all = c.in_ok-name.ensures.name
    ∙ sym (after _ _ _) in
    let is : all ≡ found_as c.in_ok-name.name.now rows = found_at _ _ _ name c.in_ok-name.ensures.rows in
    let text : Some c.in_ok-required.required.now ≡ needed_in (needs_of s) rows = c.in_ok-required.ensures
    ∙ ap (λ o. needed_in o rows) c.needs.ensures in
    let more : option_map (λ text. text.now) c.given_in-optional.result ≡ given_in (takes_of s) rows =
    c.given_in-optional.ensures ∙ ap (λ o. given_in o rows) c.takes.ensures in
    invocation_found all c.in_ok-name.name.now rows s (Some c.in_ok-required.required.now) _ _ is
    c.in_ok-subcommand.ensures
    text
    more c.aim_in-aim.ensures
