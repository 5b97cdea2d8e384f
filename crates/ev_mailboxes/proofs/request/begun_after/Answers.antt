use Rattle.std.proofs.Common.{◌≡◌, Bool, true, false, Option, Result, Ok, Err, sym, ◌∙◌}
use Rattle.std.specs.Prelude.{IfOk, MatchResult}
use Rattle.std.specs.declared.alloc.AllocError.{AllocError}
use Rattle.route_wire.specs.declared.update.Register.{Register}
use Rattle.route_join.specs.After.{PageView, is_same_place}
use Rattle.route_join.proofs.Afters.{same_place}
use Rattle.ev_mailboxes.proofs.request.begun_after.Goals as goal

-- the result of a comparison
abbrev IsCompared : Result PageView AllocError → Option Register → Bool → Type 0
IsCompared answer after b = MatchResult answer (λ (page : PageView). b ≡ is_same_place page.after after)
    (λ refused. b ≡ true)

begins_there : (answer : Result PageView AllocError) (after : Option Register) (b : Bool)
    → IsCompared answer after b → b ≡ true → IfOk answer (λ (page : PageView). page.after ≡ after)
begins_there (Ok page) after b is t = same_place page.after after (sym is ∙ t)
begins_there (Err refused) after b is t = tt

begins_elsewhere : (answer : Result PageView AllocError) (after : Option Register) (b : Bool)
    → IsCompared answer after b → b ≡ false
    → MatchResult answer (λ (page : PageView). is_same_place page.after after ≡ false) (λ refused. ⊥)
begins_elsewhere (Ok page) after b is f = sym is ∙ f
begins_elsewhere (Err refused) after b is f = let no = sym is ∙ f in cc

pub returns-then-is_after-clause-after : goal.returns-then-is_after-clause-after
returns-then-is_after-clause-after c = begins_there c.args.answer c.args.after.now c.is_after.result c.is_after.ensures
    c.if-is_after.true

pub returns-else-is_after-clause-none : goal.returns-else-is_after-clause-none
returns-else-is_after-clause-none c = begins_elsewhere c.args.answer c.args.after.now c.is_after.result
    c.is_after.ensures c.if-is_after.false
