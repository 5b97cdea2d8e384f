-- The sweep in a form that is cheap to compute: antt evaluates both branches of an `if`, but only one case of an
-- `elim`.
use Rattle.std.proofs.Common.{◌≡◌, ℕ, zero, suc, ◌&&◌, ◌==◌, Bool, true, false, List, [], ◌∷◌, length, refl, ◌∙◌, ap}
use Rattle.std.proofs.Common.{if◌then◌else◌}
use Rattle.std.specs.Prelude.{nat_lt}
use Rattle.rstp_run.specs.declared.rule.Rule.{Rule}
use Rattle.rstp_run.specs.Rules.{Tree, guard}
use Rattle.rstp_run.specs.Sweep.{Going, Walk, main_order, sending_order, fired, tries, tries_all, tries_below, pass}
use Rattle.rstp_run.specs.Sweep.{until_idle, passes, round, swept}

choice : (b : Bool) (x y : Going) → (elim b as (λ c. Going) [ true ↦ x | false ↦ y ]) ≡ (if b then x else y)
choice true x y = refl
choice false x y = refl

abbrev try_rule : Rule → ℕ → Walk
try_rule rule p limit g =
    elim (nat_lt (length g.firings) limit && guard rule g.tree p) as (λ c. Going) [ true ↦ fired rule p g | false ↦ g ]

try_rule-is : (rule : Rule) (p limit : ℕ) (g : Going) → try_rule rule p limit g ≡ tries rule p limit g
try_rule-is rule p limit g =
    choice (nat_lt (length g.firings) limit && guard rule g.tree p) (fired rule p g) g

abbrev try_rules : List Rule → ℕ → Walk
try_rules [] p limit g = g
try_rules (rule ∷ rules) p limit g = try_rules rules p limit (try_rule rule p limit g)

try_rules-is : (rules : List Rule) (p limit : ℕ) (g : Going) → try_rules rules p limit g ≡ tries_all rules p limit g
try_rules-is [] p limit g = refl
try_rules-is (rule ∷ rules) p limit g =
    (rw (try_rule-is rule p limit g)) ∙ try_rules-is rules p limit (tries rule p limit g)

abbrev try_ports : List Rule → ℕ → Walk
try_ports rules zero limit g = g
try_ports rules (suc n) limit g = try_rules rules n limit (try_ports rules n limit g)

try_ports-is : (rules : List Rule) (n limit : ℕ) (g : Going) → try_ports rules n limit g ≡ tries_below rules n limit g
try_ports-is rules zero limit g = refl
try_ports-is rules (suc n) limit g =
    (rw (try_ports-is rules n limit g))
    ∙ try_rules-is rules n limit (tries_below rules n limit g)

abbrev one_pass : List Rule → Walk
one_pass rules limit g = try_ports rules (length g.tree.ports) limit g

one_pass-is : (rules : List Rule) (limit : ℕ) (g : Going) → one_pass rules limit g ≡ pass rules limit g
one_pass-is rules limit g = try_ports-is rules (length g.tree.ports) limit g

-- repeats f up to the first time that it fires nothing, or n times; next is the result of the first time
abbrev repeat_from : ℕ → (Going → Going) → Going → Going → Going
repeat_from zero f g next = g
repeat_from (suc n) f g next =
    elim (length next.firings == length g.firings) as (λ c. Going)
    [ true ↦ next | false ↦ repeat_from n f next (f next) ]

repeat_from-is : (n : ℕ) {f f' : Going → Going} → ((g : Going) → f g ≡ f' g) → (g : Going)
    → repeat_from n f g (f g) ≡ until_idle n f' g
repeat_from-is zero same g = refl
repeat_from-is (suc n) {f} {f'} same g =
    choice (length (f g).firings == length g.firings) (f g) (repeat_from n f (f g) (f (f g)))
    ∙ (rw (repeat_from-is n same (f g)))
    ∙ ap (λ (next : Going). if length next.firings == length g.firings then next else until_idle n f' next) (same g)

abbrev some_passes : List Rule → Walk
some_passes rules limit g = repeat_from limit (one_pass rules limit) g (one_pass rules limit g)

some_passes-is : (rules : List Rule) (limit : ℕ) (g : Going) → some_passes rules limit g ≡ passes rules limit g
some_passes-is rules limit g =
    repeat_from-is limit (one_pass-is rules limit) g

abbrev one_round : Walk
one_round limit g = some_passes sending_order limit (some_passes main_order limit g)

one_round-is : (limit : ℕ) (g : Going) → one_round limit g ≡ round limit g
one_round-is limit g =
    (rw (some_passes-is main_order limit g))
    ∙ some_passes-is sending_order limit (passes main_order limit g)

-- the whole sweep
abbrev pub sweep : ℕ → Tree → Going
sweep limit s =
    let g : Going = record { tree = s; firings = [] } in repeat_from limit (one_round limit) g (one_round limit g)

pub sweep-is : (limit : ℕ) (s : Tree) → sweep limit s ≡ swept limit s
sweep-is limit s =
    repeat_from-is limit (one_round-is limit) (record { tree = s; firings = [] })
