-- Requests to an edge that doesn't exist.
use Rattle.std.specs.Prelude.{◌≡◌, ℕ, Err}
use Rattle.ev_console.specs.declared.operated.Unreached.TheVariants.{NoEdge}
use Rattle.ev_console.specs.Asking.{Asked, entered, page_seen, port_seen, view_seen, served_seen}

-- the number of the edge that the request names
abbrev pub edge_of : Asked → ℕ
edge_of (entered e step answer) = e
edge_of (page_seen e after answer) = e
edge_of (port_seen e port answer) = e
edge_of (view_seen e question answer) = e
edge_of (served_seen e answer) = e

-- the answer is that no edge has the number
abbrev pub IsUnknown : Asked → Type 0
IsUnknown (entered e step answer) = answer ≡ Err NoEdge
IsUnknown (page_seen e after answer) = answer ≡ Err NoEdge
IsUnknown (port_seen e port answer) = answer ≡ Err NoEdge
IsUnknown (view_seen e question answer) = answer ≡ Err NoEdge
IsUnknown (served_seen e answer) = answer ≡ Err NoEdge
