-- The numbers of an edge's links, one line a link.
use Rattle.std.specs.Prelude.{ℕ, ◌==◌, if◌then◌else◌, Option, Some, None, List, [], ◌++◌, codes, decimal}
use Rattle.ev_view.specs.declared.link_lines.LinkRow.{LinkRow}

-- a number after the word for it
abbrev pub amount_words : List ℕ → ℕ → List ℕ
amount_words word amount = word ++ decimal amount

-- ` link tunnel`, or ` link P` for port P
abbrev pub place_words : ℕ → List ℕ
place_words place = if place == 0 then codes " link tunnel" else codes " link " ++ decimal place

-- ` in N octets N failed N idle N`: received datagrams and their octets, failed reads, and the seconds since the last
-- datagram
abbrev pub in_words : LinkRow → List ℕ
in_words row =
    amount_words (codes " in ") row.received ++ amount_words (codes " octets ") row.received_octets
    ++ amount_words (codes " failed ") row.failed_reads ++ amount_words (codes " idle ") row.idle_in

-- ` long N malformed N unlisted N network N storm N memory N`: dropped datagrams, by cause
abbrev pub refused_words : LinkRow → List ℕ
refused_words row =
    amount_words (codes " long ") row.too_long ++ amount_words (codes " malformed ") row.malformed
    ++ amount_words (codes " unlisted ") row.unlisted ++ amount_words (codes " network ") row.other_network
    ++ amount_words (codes " storm ") row.storm ++ amount_words (codes " memory ") row.no_memory

-- ` system N`: datagrams that the system dropped, if their number is known
abbrev pub system_words : Option ℕ → List ℕ
system_words None = []
system_words (Some drops) = amount_words (codes " system ") drops

abbrev pub dropped_words : LinkRow → List ℕ
dropped_words row = refused_words row ++ system_words row.system_drops

-- ` out N octets N dropped N failed N idle N`: sent datagrams and their octets, frames without room, failed sends, and
-- the seconds since the last datagram
abbrev pub out_words : LinkRow → List ℕ
out_words row =
    amount_words (codes " out ") row.sent ++ amount_words (codes " octets ") row.sent_octets
    ++ amount_words (codes " dropped ") row.no_room ++ amount_words (codes " failed ") row.failed_sends
    ++ amount_words (codes " idle ") row.idle_out ++ codes "\n"

-- the line of the link at a place: the tunnel's at 0, and that of a port at the port's number
abbrev pub link_line : ℕ → ℕ → LinkRow → List ℕ
link_line number place row =
    decimal number ++ place_words place ++ in_words row ++ dropped_words row ++ out_words row
