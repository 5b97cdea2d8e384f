-- The refusals of a whole record: the first test that is met decides.
use Rattle.std.specs.Prelude.{◌≡◌, ◌⊎◌, ℕ, ◌<◌, true, false}
use Rattle.std.specs.Prelude.{List, length}
use Rattle.route_wire.specs.declared.record.Header.{Header}
use Rattle.route_wire.specs.Route.{tail_of}
use Rattle.route_wire.specs.Inner.Route.{HasRoute}
use Rattle.route_wire.specs.Refusal.{is_mac_advert, has_bad_mac}

-- the properties of a record that isn't refused
pub record IsReadable (h : Header) (r : List ℕ) : Type 0 where
  pub route : HasRoute r
  pub tail : is_mac_advert h r ≡ true → (length (tail_of r) ≡ 0) ⊎ (length (tail_of r) ≡ 8)
  pub individual : has_bad_mac r ≡ false
  pub counted : 0 < h.counter
