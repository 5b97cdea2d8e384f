-- The originators that a command line lists.
use Rattle.std.specs.Prelude.{ℕ, Bool, false, ◌&&◌, ◌==◌, nat_lt, if◌then◌else◌, List, [], ◌∷◌, ◌++◌, length, codes}
use Rattle.std.specs.Prelude.{eqb, Option, Some, None, Result, Ok, Err}
use Rattle.std.specs.List.{list_any, slice_split}
use Rattle.ether_wire.specs.Parse.{addr_of_text}
use Rattle.ev_report.specs.declared.originators.ListFault.{ListFault}
use Rattle.ev_report.specs.declared.originators.ListFault.TheVariants.{NotAnAddress, LeadingZero, Twice, TooMany}
use Rattle.ev_report.specs.declared.originators.WrongPart.{WrongPart}
use Rattle.arrayvec.specs.ArrayVec.{ArrayVec}
use Rattle.ether_wire.specs.declared.addr.Addr.{Addr}

abbrev pub Text : Type 0
Text = List ℕ

-- a text's parts between these octets
abbrev pub parts : ℕ → Text → List Text
parts octet text = slice_split (λ x. x == octet) text

-- several digits, the first of them 0
abbrev pub is_zero_led : Text → Bool
is_zero_led [] = false
is_zero_led (digit ∷ digits) = digit == 48 && nat_lt 0 (length digits)

-- a number between the dots (46) begins with 0
abbrev pub has_leading_zero : Text → Bool
has_leading_zero text = list_any is_zero_led (parts 46 text)

-- why a text is no address
abbrev pub spelling_fault : Text → ListFault
spelling_fault text = if has_leading_zero text then LeadingZero else NotAnAddress

-- one originator more, of at most 64 that all differ
abbrev pub with_originator : List ℕ → ℕ → Result (List ℕ) ListFault
with_originator before o =
    if list_any (λ x. eqb x o) before then Err Twice else if nat_lt (length before) 64 then Ok
    (before ++ o ∷ []) else Err TooMany

-- one part more
abbrev pub with_address : List ℕ → Text → Option ℕ → Result (List ℕ) ListFault
with_address before text None = Err (spelling_fault text)
with_address before text (Some o) = with_originator before o

-- a part with its fault
abbrev pub at_part : Text → Result (List ℕ) ListFault → Result (List ℕ) (Text × ListFault)
at_part text (Ok originators) = Ok originators
at_part text (Err fault) = Err (text, fault)

abbrev pub with_part : List ℕ → Text → Result (List ℕ) (Text × ListFault)
with_part before text = at_part text (with_address before text (addr_of_text text))

-- each part is an address that occurs in none before it; or the first that is not, and why
abbrev pub and_then : Result (List ℕ) (Text × ListFault) → (List ℕ → Result (List ℕ) (Text × ListFault))
    → Result (List ℕ) (Text × ListFault)
and_then (Ok originators) next = next originators
and_then (Err wrong) next = Err wrong

abbrev pub originators_from : List ℕ → List Text → Result (List ℕ) (Text × ListFault)
originators_from before [] = Ok before
originators_from before (text ∷ texts) = and_then (with_part before text)
    (λ originators. originators_from originators texts)

-- 1 to 64 addresses that all differ, with commas (44); or the first part that is wrong, and why
abbrev pub originators_of_text : Text → Result (List ℕ) (Text × ListFault)
originators_of_text text = originators_from [] (parts 44 text)

-- the list, or its wrong part
abbrev pub listed : Result (ArrayVec Addr) WrongPart → Result (List ℕ) (Text × ListFault)
listed (Ok originators) = Ok originators.items
listed (Err wrong) = Err (wrong.part.now, wrong.fault)

-- ---- the message for a wrong list

abbrev pub reason_of : ListFault → Text
reason_of NotAnAddress = codes "' isn't an IPv4 address\n"
reason_of LeadingZero = codes "' has a number that begins with 0\n"
reason_of Twice = codes "' stands there twice\n"
reason_of TooMany = codes "' is one more than the 64 that there may be\n"

-- the wrong part, why, and what was expected
abbrev pub list_text : Text × ListFault → Text
list_text wrong = codes "error: --originators: '" ++ wrong.0 ++ reason_of wrong.1
    ++ codes "expected 1 to 64 different IPv4 addresses with commas between them, as in 10.0.0.1,10.0.0.2\n"
