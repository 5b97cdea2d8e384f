-- Runs of a bridge, and the possible results of an event.
use Rattle.std.specs.Prelude.{ℕ, Bool, true, false, ◌≡◌, ◌+◌, ◌<◌, if◌then◌else◌, List, [], ◌∷◌, length}
use Rattle.std.specs.List.{list_any}
use Rattle.ether_wire.specs.Ports.{with_port}
use Rattle.rstp_run.specs.Rules.{Tree, guard, after}
use Rattle.rstp_run.specs.declared.rule.Rule.{Rule}
use Rattle.rstp_run.specs.declared.rule.Rule.TheVariants.{Topology}
use Rattle.rstp_run.specs.declared.rule.TopologyRule.TheVariants.{Flush}

-- a rule that fires, and the place of its port
pub record Firing : Type 0 where
  pub rule : Rule
  pub place : ℕ

-- the rule may fire at the port at place p
abbrev pub IsEnabled : Rule → ℕ → Tree → Type 0
IsEnabled rule p s = guard rule s p ≡ true

-- the rule may fire in s, and leads to t
abbrev pub Fires : Firing → Tree → Tree → Type 0
Fires f s t = IsEnabled f.rule f.place s × (t ≡ after f.rule s f.place)

-- these firings, the newest first, lead from s to t
abbrev pub Run : List Firing → Tree → Tree → Type 0
Run [] s t = t ≡ s
Run (f ∷ earlier) s t = (mid : Tree) × Run earlier s mid × Fires f mid t

-- no rule is enabled at any port
abbrev pub IsSettled : Tree → Type 0
IsSettled s = (rule : Rule) (p : ℕ) → guard rule s p ≡ false

abbrev pub is_flush : Rule → Bool
is_flush (Topology Flush) = true
is_flush _ = false

-- the flushed ports after one more firing
abbrev pub flush_after : Rule → ℕ → ℕ → ℕ
flush_after rule p before = if is_flush rule then with_port before (p + 1) else before

-- the flushed ports, including earlier ones
abbrev pub flushed : List Firing → ℕ → ℕ
flushed [] before = before
flushed (f ∷ earlier) before = flush_after f.rule f.place (flushed earlier before)

-- none of the rules is enabled at port p
abbrev pub AreOffAt : List Rule → ℕ → Tree → Type 0
AreOffAt rules p s = list_any (λ rule. guard rule s p) rules ≡ false

-- none of the rules is enabled at a port below n
abbrev pub AreOffBelow : List Rule → ℕ → Tree → Type 0
AreOffBelow rules n s = (p : ℕ) → p < n → AreOffAt rules p s

-- none of the rules is enabled
abbrev pub AreOff : List Rule → Tree → Type 0
AreOff rules s = AreOffBelow rules (length s.ports) s
