use Rattle.std.proofs.Common.{subst}
use Rattle.ev_mobility.specs.Moves.{Moves, ArePlaced}
use Rattle.ev_mobility.proofs.Placing.{all_placed}
use Rattle.ev_mobility.proofs.moves.Moves.always_placed.Goals as goal

pub returns : goal.returns
returns c =
    let P : Moves → Type 0 = ArePlaced in subst P c.self.view_is (all_placed c.self.inside.places.entries)
