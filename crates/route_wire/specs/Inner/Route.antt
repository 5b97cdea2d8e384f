-- The parts of a route (RFC 7432, sections 7.2, 7.3 and 7.7; RFC 8365 for the first label), from its type octet on.
use Rattle.std.specs.Prelude.{◌≡◌, ◌⊎◌, ℕ, ◌+◌, ◌≤◌, if◌then◌else◌, List, length}
use Rattle.route_wire.specs.Numbers.{MAC_ROUTE, FLOOD_ROUTE, LABEL2_PLACE}
use Rattle.route_wire.specs.Route.{route_type, route_len, ip_len, has_label2}

-- the properties of a route that isn't refused as bad
pub record HasRoute (r : List ℕ) : Type 0 where
  pub known : (route_type r ≡ MAC_ROUTE) ⊎ (route_type r ≡ FLOOD_ROUTE)
  pub flood : 19 ≤ length r
  pub mac : route_type r ≡ MAC_ROUTE → LABEL2_PLACE + ip_len r + (if has_label2 r then 3 else 0) ≤ length r
  pub whole : 2 + route_len r ≤ length r
