-- The requests that a line of the console makes to edges that run, and its answer.
use Rattle.std.specs.Prelude.{◌≡◌, ℕ, if◌then◌else◌, List, ◌++◌, codes, Option, None, Result, Ok, Err}
use Rattle.ether_wire.specs.Ends.{End, Puts}
use Rattle.ether_wire.specs.declared.ends.Device.{Device}
use Rattle.route_wire.specs.declared.update.Register.{Register}
use Rattle.route_join.specs.After.{is_last, last_from, IsPage}
use Rattle.ev_links.specs.Coming.{behind}
use Rattle.ev_console.specs.Asking.{Asked, PageSeen}
use Rattle.ev_console.specs.Answers.{AnswersLine}

-- an answer that is a page is at most 256 updates in order, after the register at which it begins
abbrev pub IsShown : PageSeen → Type 0
IsShown (Ok (Ok page)) = IsPage page.after page.updates
IsShown (Ok (Err refused)) = Unit {0}
IsShown (Err unreached) = Unit {0}

-- the register after which the next page begins, if a page follows
abbrev pub next_after : PageSeen → Option Register
next_after (Ok (Ok page)) = if is_last page.updates then None else last_from page.after page.updates
next_after (Ok (Err refused)) = None
next_after (Err unreached) = None

-- These requests were made and answered, and no others; this text was written, or a call of the writer failed.
pub record Does (says : List Asked → List ℕ → Type 0) (before after : Option (List Asked)) (old new : End)
    (result : Result (Unit {0}) Device) : Type 0 where
  pub asked : List Asked
  pub text : List ℕ
  pub said : says asked text
  pub told : after ≡ behind before asked
  pub written : Puts old new text result

-- a line was answered, with an empty line after the answer
pub record Replies (count : ℕ) (line : List ℕ) (before after : Option (List Asked)) (old new : End)
    (result : Result (Unit {0}) Device) : Type 0 where
  pub asked : List Asked
  pub text : List ℕ
  pub said : AnswersLine count line asked text
  pub told : after ≡ behind before asked
  pub written : Puts old new (text ++ codes "\n") result
