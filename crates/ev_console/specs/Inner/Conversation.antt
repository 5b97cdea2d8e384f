-- A conversation: the lines that were received, in their order. The requests of each line are made once, and it is
-- answered once.
use Rattle.std.specs.Prelude.{◌≡◌, ℕ, List, [], ◌++◌}
use Rattle.std.specs.Prelude.{Option, Result, Ok, Err}
use Rattle.ether_wire.specs.declared.ends.Device.{Device}
use Rattle.ether_wire.specs.Ends.{End, with_text}
use Rattle.ev_links.specs.Coming.{behind}
use Rattle.ev_console.specs.Asking.{Asked}
use Rattle.ev_console.specs.Conversation.{IsLine, kept, Exchange, asked_of, said_of, AreExchanges, missing_feed}
use Rattle.ev_console.specs.Conversation.{BreaksOff}

-- These octets were received. Each whole line was answered, and `held` is kept of the line that has begun.
pub record SoFar (count : ℕ) (octets held : List ℕ) (before after : Option (List Asked)) (old new : End) : Type 0 where
  pub exchanges : List Exchange
  pub pending : List ℕ
  pub begun : IsLine pending
  pub held_is : held ≡ kept pending
  pub are : AreExchanges count octets exchanges pending
  pub told : after ≡ behind before (asked_of exchanges)
  pub written : new ≡ with_text old (said_of exchanges)

-- the state after these octets, or the failed write that ended them
abbrev pub ToOctets : ℕ → List ℕ → List ℕ → Option (List Asked) → Option (List Asked) → End → End
    → Result (Unit {0}) Device → Type 0
ToOctets count octets held before after old new (Ok done) = SoFar count octets held before after old new
ToOctets count octets held before after old new (Err device) = BreaksOff count octets before after old new

-- After any octets before them, these octets were processed.
abbrev pub TakesOctets : ℕ → List ℕ → List ℕ → List ℕ → Option (List Asked) → Option (List Asked) → End → End
    → Result (Unit {0}) Device → Type 0
TakesOctets count more held held' middle after mid new result =
    (octets : List ℕ) (before : Option (List Asked)) (old : End) → SoFar count octets held before middle old mid
    → ToOctets count (octets ++ more) held' before after old new result

-- at the end, the line that has begun is answered
abbrev pub TakesEnd : ℕ → List ℕ → Option (List Asked) → Option (List Asked) → End → End
    → Result (Unit {0}) Device → Type 0
TakesEnd count held middle after mid new result =
    (octets : List ℕ) (before : Option (List Asked)) (old : End) → SoFar count octets held before middle old mid
    → ToOctets count (octets ++ missing_feed octets) [] before after old new result
