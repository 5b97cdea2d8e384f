-- Edge and NotEdge don't enable each other at a port that Discard has processed.
use Rattle.rstp_run.proofs.Basics.{neither, Off, On}
use Rattle.rstp_run.proofs.Names.{arith, Bool, eqb-true, false, finds_no_bridge, not, not-false, refl, true, ◌&&◌, ◌==◌}
use Rattle.rstp_run.proofs.Names.{◌||◌, ◌≡◌}
use Rattle.rstp_run.specs.Laws.{EdgeRests}

-- if the port is down and finds no bridge, neither of the two rules enables the other
choose : (oper enabled admin finds : Bool) → Off enabled → Off finds
    → (On (oper && not enabled && not admin) → Off (not false && ((not enabled && admin) || finds)))
    × (On (not oper && ((not enabled && admin) || finds)) → Off (true && not enabled && not admin))
choose oper enabled admin finds down none = grind arith

without_down : (x enabled : Bool) → Off enabled → Off (x && not enabled) → Off x
without_down x enabled down h = grind arith

pub edge_rests : EdgeRests
edge_rests port down off =
    let delay = without_down _ port.enabled down off in
    let three = eqb-true port.edge_delay_while 3 (not-false _ (neither delay).1) in
    let finds : Off (finds_no_bridge port) = rw three refl in
    choose port.oper_edge port.enabled port.admin_edge _ down finds
