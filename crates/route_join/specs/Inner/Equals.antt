-- Registers that are equal by `==` are the same.
use Rattle.std.proofs.Common.{◌≡◌, true, sym, ◌∙◌}
use Rattle.route_wire.specs.declared.update.Register.{Register}
use Rattle.route_wire.specs.contracts.update.RegisterPartialEq.TheImpl as register
use Rattle.route_wire.specs.Order.{register_cmp}
use Rattle.route_wire.specs.Inner.Ties.{equal_from, tied_registers}
use Rattle.route_wire.specs.Inner.Totals.{register_exact}

pub equal_registers : (x y : Register) → register.eq-value.it x y ≡ true → x ≡ y
equal_registers x y e = register_exact x y (equal_from (register_cmp x y) (sym (tied_registers x y) ∙ e))
