-- which of two values is newer, by their lives
use Rattle.std.proofs.Common.{◌≡◌, ◌<◌, false}
use Rattle.route_wire.specs.declared.update.Value.{Value}
use Rattle.route_wire.specs.Order.{is_newer}
use Rattle.route_wire.proofs.Newer.{not_newer_earlier as earlier_not}

-- an update of an earlier incarnation is not newer
pub not_newer_earlier : (v w : Value) → w.incarnation < v.incarnation → is_newer w v ≡ false
not_newer_earlier v w less = earlier_not w v less
