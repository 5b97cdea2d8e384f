-- The number of datagrams that the system has dropped at a socket for lack of room, as Linux reports it in
-- `/proc/net/udp`.
use Rattle.std.specs.Prelude.{ℕ, ◌-◌, ◌/◌, ◌%◌, ◌^◌, max, Bool, true, false, not, ◌==◌, if◌then◌else◌}
use Rattle.std.specs.Prelude.{List, [], ◌∷◌, ◌++◌, length, Option, Some, None}
use Rattle.std.specs.Int.{byte_at}
use Rattle.std.specs.Fmt.{digit_glyph}
use Rattle.std.specs.Str.{bytes_eq}
use Rattle.std.specs.Option.{unwrap_or}
use Rattle.std.specs.List.{fold, filter, slice_split, slice_get}
use Rattle.ether_wire.specs.Parse.{decimal_of_text}
use Rattle.ev_config.specs.declared.endpoint.Endpoint.{Endpoint}
use Rattle.ev_report.specs.Originators.{Text}
use Rattle.ev_run.specs.LinkEnds.{LinkEnd, Udp, Device}

-- two upper case hexadecimal digits
abbrev pub upper_pair : ℕ → Text
upper_pair octet = digit_glyph true (octet / 16) ∷ digit_glyph true (octet % 16) ∷ []

-- A socket's address and port: 127.0.0.1:20001 is `0100007F:4E21`, the address's last octet first.
abbrev pub local_text : Endpoint → Text
local_text at =
    upper_pair (byte_at 0 at.address) ++ upper_pair (byte_at 1 at.address) ++ upper_pair (byte_at 2 at.address)
    ++ upper_pair (byte_at 3 at.address) ++ 58 ∷ (upper_pair (byte_at 1 at.port) ++ upper_pair (byte_at 0 at.port))

-- the rows of the text, which line feeds separate
abbrev pub rows_of : Text → List Text
rows_of text = slice_split (λ c. c == 10) text

-- the words of a row, which spaces separate
abbrev pub words_of : Text → List Text
words_of row = filter (λ word. not (length word == 0)) (slice_split (λ c. c == 32) row)

-- this word is the socket's
abbrev pub names : Text → Option Text → Bool
names local None = false
names local (Some word) = bytes_eq word local

-- the number that a word spells in decimal; 0 if it spells none, or none below 2^64
abbrev pub count_of : Option Text → ℕ
count_of None = 0
count_of (Some word) = unwrap_or (decimal_of_text (2 ^ 64 - 1) word) 0

-- how many datagrams a row reports as dropped at a socket: the number of its thirteenth word, if its second one is the
-- socket's
abbrev pub row_drops : Text → Text → ℕ
row_drops local row = if names local (slice_get (words_of row) 1) then count_of (slice_get (words_of row) 12) else 0

-- how many datagrams the text reports as dropped at a socket: the greatest number of a row; 0 if it has no row of it
abbrev pub dropped_at : Text → Endpoint → ℕ
dropped_at text at = fold (λ most row. max most (row_drops (local_text at) row)) 0 (rows_of text)

-- how many datagrams the text reports as dropped at an end: the system's table has none of a device
abbrev pub dropped_at_end : Text → LinkEnd → ℕ
dropped_at_end text (Udp at) = dropped_at text at
dropped_at_end text (Device name) = 0
