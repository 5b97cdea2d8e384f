-- A station moves in a fabric whose edges agree.
use Rattle.std.specs.Prelude.{◌≡◌, ℕ, suc, ◌++◌, None, IsSome, Result, List, [], ◌∷◌}
use Rattle.route_wire.specs.declared.update.Value.{Value}
use Rattle.route_wire.specs.Fields.{Fields}
use Rattle.route_join.specs.Table.{register_of}
use Rattle.route_join.specs.Owner.{advert_in}
use Rattle.mac_arena.specs.declared.station.Station.{Station}
use Rattle.mac_arena.specs.Learning.{entry_at}
use Rattle.ev_claims.specs.LocalRoutes.{key_of}
use Rattle.ev_edge.specs.declared.reply.Reply.{Reply}
use Rattle.ev_edge.specs.Edge.{Edge}
use Rattle.ev_fabric.specs.declared.refusal.FabricRefusal.{FabricRefusal}
use Rattle.ev_fabric.specs.declared.step.LocalEvent.{LocalEvent}
use Rattle.ev_fabric.specs.declared.step.Step.TheVariants.{Local}
use Rattle.ev_fabric.specs.Fabric.{Fabric, IsEdge}
use Rattle.ev_fabric.specs.Steps.{FabricSteps}
use Rattle.ev_fabric.specs.Sound.{update_of}
use Rattle.ev_fabric.specs.Agreed.{AllAgree, Advertises}

-- All agree, the edge at place i advertises the station, and something comes from outside to the edge at place j, which
-- hasn't learnt the station, and has then, by a frame or by a pin. Places are counted from 0.
pub record StationMoves (old : Fabric) (i j : ℕ) (s : Station) (new : Fabric) : Type 0 where
  pub agree : AllAgree old
  pub from : Edge
  pub to : Edge
  pub at_from : IsEdge old i from
  pub at_to : IsEdge old j to
  pub had : Advertises from s
  pub unknown : entry_at to.routes.learned s ≡ None
  pub event : LocalEvent
  pub result : Result Reply FabricRefusal
  pub step : FabricSteps old (Local (suc j) event) result new
  pub after : Edge
  pub at_after : IsEdge new j after
  pub learnt : IsSome (entry_at after.routes.learned s)

-- the pool has got two updates: an advert of the station by one originator, then a withdrawal by the other
pub record IsMoved (old : List Fields) (s : Station) (from to : ℕ) (new : List Fields) : Type 0 where
  pub advert : Value
  pub withdrawal : Value
  pub is_advert : IsSome (advert_in advert.content)
  pub is_withdrawal : advert_in withdrawal.content ≡ None
  pub is : new ≡ old
      ++ update_of (register_of to (key_of s)) advert ∷ update_of (register_of from (key_of s)) withdrawal ∷ []
