-- A conversation: the lines that were received, in their order. The requests of each line are made once, and it is
-- answered once.
use Rattle.std.specs.Prelude.{◌≡◌, ◌⊎◌, ℕ, ◌+◌, ◌^◌, Bool, false, not, ◌==◌, if◌then◌else◌, List, [], ◌∷◌, ◌++◌}
use Rattle.std.specs.Prelude.{take, codes, Option, None, Result, Ok, Err}
use Rattle.std.specs.List.{All, flat_map}
use Rattle.ether_wire.specs.declared.ends.Device.{Device}
use Rattle.ether_wire.specs.Ends.{End, Source, IsOpen, with_text}
use Rattle.ev_report.specs.Input.{ReadsWhole, Gathers}
use Rattle.ev_links.specs.Coming.{behind}
use Rattle.ev_console.specs.Asking.{Asked}
use Rattle.ev_console.specs.Answers.{AnswersLine}

-- ---- lines

-- a line feed
abbrev pub feed : List ℕ
feed = codes "\n"

abbrev pub is_feed : ℕ → Bool
is_feed octet = octet == 10

-- octets without a line feed
abbrev pub IsLine : List ℕ → Type 0
IsLine octets = All (λ octet. is_feed octet ≡ false) octets

-- the octets of a line that are processed: one more than a line may have
abbrev pub kept : List ℕ → List ℕ
kept line = take 20001 line

-- a line that was received, the requests that were made for it, and its answer
pub record Exchange : Type 0 where
  pub line : List ℕ
  pub asked : List Asked
  pub text : List ℕ

-- exactly the requests of the line were made, and the answer is exactly their result
pub record IsExchange (count : ℕ) (x : Exchange) : Type 0 where
  pub whole : IsLine x.line
  pub answers : AnswersLine count (kept x.line) x.asked x.text

-- the lines with their line feeds
abbrev pub lines_of : List Exchange → List ℕ
lines_of xs = flat_map (λ (x : Exchange). x.line ++ feed) xs

-- all requests that were made
abbrev pub asked_of : List Exchange → List Asked
asked_of xs = flat_map (λ (x : Exchange). x.asked) xs

-- all answers, each with an empty line after it
abbrev pub said_of : List Exchange → List ℕ
said_of xs = flat_map (λ (x : Exchange). x.text ++ feed) xs

-- the octets are the lines of these exchanges, and the rest after them
pub record AreExchanges (count : ℕ) (octets : List ℕ) (xs : List Exchange) (rest : List ℕ) : Type 0 where
  pub are : octets ≡ lines_of xs ++ rest
  pub each : All (IsExchange count) xs

-- ---- the end

-- the octets end within a line
abbrev pub is_cut : List ℕ → Bool
is_cut [] = false
is_cut (octet ∷ []) = not (is_feed octet)
is_cut (octet ∷ next ∷ rest) = is_cut (next ∷ rest)

-- the line feed that the last line lacks
abbrev pub missing_feed : List ℕ → List ℕ
missing_feed octets = if is_cut octets then feed else []

-- The end was reached. Each line, the last one with or without its line feed, was answered.
pub record ToTheEnd (count : ℕ) (source source' : Source) (before after : Option (List Asked)) (old new : End) :
    Type 0 where
  pub input : List ℕ
  pub read : ReadsWhole source source' (Ok input)
  pub exchanges : List Exchange
  pub are : AreExchanges count (input ++ missing_feed input) exchanges []
  pub told : after ≡ behind before (asked_of exchanges)
  pub written : new ≡ with_text old (said_of exchanges)

-- a read after `turns` reads failed, or there were 2^40 reads
abbrev pub StopsReading : ℕ → Source → Source → Type 0
StopsReading turns last source' =
    (source' ≡ record last { failures = last.failures + 1; reads = last.reads + 1 })
    ⊎ (source' ≡ last) × (turns ≡ 2 ^ 40)

-- A read failed, or 2^40 reads didn't reach the end. Each line that was received whole was answered.
pub record ToAFailedRead (count : ℕ) (source source' : Source) (before after : Option (List Asked)) (old new : End) :
    Type 0 where
  pub turns : ℕ
  pub last : Source
  pub input : List ℕ
  pub read : Gathers turns source last input
  pub stops : StopsReading turns last source'
  pub exchanges : List Exchange
  pub rest : List ℕ
  pub begun : IsLine rest
  pub are : AreExchanges count input exchanges rest
  pub told : after ≡ behind before (asked_of exchanges)
  pub written : new ≡ with_text old (said_of exchanges)

-- octets that were read are processed as they are, or, at the end, with the line feed that is missing
abbrev pub AreLookedAt : Source → Source → List ℕ → List ℕ → Type 0
AreLookedAt last source' input octets = (source' ≡ last) × (octets ≡ input)
    ⊎ (source' ≡ record last { reads = last.reads + 1 }) × (octets ≡ input ++ missing_feed input)

-- The octets are lines that were answered, one whose answer couldn't be written, and a rest that wasn't processed.
pub record BreaksOff (count : ℕ) (octets : List ℕ) (before after : Option (List Asked)) (old new : End) : Type 0 where
  pub exchanges : List Exchange
  pub last : Exchange
  pub last_is : IsExchange count last
  pub rest : List ℕ
  pub are : AreExchanges count octets exchanges (last.line ++ feed ++ rest)
  pub told : after ≡ behind before (asked_of exchanges ++ last.asked)
  pub failed : IsOpen old → new.failures ≡ old.failures + 1

-- A call of the writer failed. The requests of the line whose answer was lost were made, once, and none after them.
pub record ToAFailedWrite (count : ℕ) (source source' : Source) (before after : Option (List Asked)) (old new : End) :
    Type 0 where
  pub turns : ℕ
  pub last : Source
  pub input : List ℕ
  pub read : Gathers turns source last input
  pub octets : List ℕ
  pub looked : AreLookedAt last source' input octets
  pub breaks : BreaksOff count octets before after old new

-- the result of a conversation with `count` edges
abbrev pub Converses : ℕ → Source → Source → Option (List Asked) → Option (List Asked) → End → End
    → Result (Unit {0}) Device → Type 0
Converses count source source' before after old new (Ok done) = ToTheEnd count source source' before after old new
Converses count source source' before after old new (Err device) =
    ToAFailedRead count source source' before after old new ⊎ ToAFailedWrite count source source' before after old new

-- ---- edges of this process

-- A conversation with some number of edges: their history of requests is unknown, but each line was answered by its
-- words.
pub record Talks (source source' : Source) (old new : End) (result : Result (Unit {0}) Device) : Type 0 where
  pub count : ℕ
  pub is : Converses count source source' None None old new result
