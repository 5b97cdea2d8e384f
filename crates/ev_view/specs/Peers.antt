-- The other edges that an edge lists, and whether they are away.
use Rattle.std.specs.Prelude.{ℕ, eqb, ◌==◌, nat_lt, Bool, true, false, if◌then◌else◌, List, [], ◌∷◌, ◌++◌, length}
use Rattle.std.specs.Prelude.{codes, decimal}
use Rattle.std.specs.List.{list_any}
use Rattle.ether_wire.specs.Addr.{addr_text}
use Rattle.ev_edge.specs.Edge.{Edge, table_of, address_of}
use Rattle.ev_view.specs.declared.view.EdgeQuestion.{EdgeQuestion}
use Rattle.ev_view.specs.declared.view.EdgeQuestion.TheVariants.{Owner, Counts, Stations, Peers, Links}

abbrev pub state_words : Bool → List ℕ
state_words true = codes " away\n"
state_words false = codes " up\n"

-- `E peer ADDR up`, or `away`
abbrev pub peer_line : ℕ → ℕ → Bool → List ℕ
peer_line number originator away =
    decimal number ++ codes " peer " ++ addr_text originator ++ state_words away

-- nothing for the edge itself
abbrev pub peer_text : ℕ → Edge → ℕ → List ℕ
peer_text number e originator =
    if originator == address_of e then []
    else peer_line number originator (list_any (λ a. eqb a originator) e.away)

-- a line for each of these that is another edge
abbrev pub lines_of : ℕ → Edge → List ℕ → List ℕ
lines_of number e [] = []
lines_of number e (originator ∷ more) = peer_text number e originator ++ lines_of number e more

abbrev pub peers_text : ℕ → Edge → List ℕ
peers_text number e = lines_of number e (table_of e).originators

-- ---- edges that the configuration doesn't name

-- `E peer ADDR unlisted`
abbrev pub unlisted_line : ℕ → ℕ → List ℕ
unlisted_line number originator = decimal number ++ codes " peer " ++ addr_text originator ++ codes " unlisted\n"

abbrev pub unlisted_lines : ℕ → List ℕ → List ℕ
unlisted_lines number [] = []
unlisted_lines number (originator ∷ more) = unlisted_line number originator ++ unlisted_lines number more

-- `E unlisted 64 or more`
abbrev pub more_line : ℕ → List ℕ
more_line number = decimal number ++ codes " unlisted 64 or more\n"

-- if there is no place for another name
abbrev pub full_text : ℕ → List ℕ → List ℕ
full_text number unlisted = if nat_lt (length unlisted) 64 then [] else more_line number

abbrev pub unlisted_text : ℕ → List ℕ → List ℕ
unlisted_text number unlisted = unlisted_lines number unlisted ++ full_text number unlisted

-- the text after an edge's answer to a query
abbrev pub text_after : ℕ → List ℕ → EdgeQuestion → List ℕ
text_after number unlisted (Owner s) = []
text_after number unlisted Counts = []
text_after number unlisted (Stations vni) = []
text_after number unlisted Peers = unlisted_text number unlisted
text_after number unlisted Links = []
