-- The effect of an event on an edge, and its answer: a table by event and answer.
use Rattle.std.specs.Prelude.{Some, Result}
use Rattle.std.specs.Prelude.{Ok, Err}
use Rattle.route_join.specs.declared.table.Taken.{Taken}
use Rattle.ev_claims.specs.declared.speaker.OwnError.{OwnError}
use Rattle.ev_claims.specs.declared.speaker.OwnError.TheVariants.{Ahead, Spent, NoMemory as Unroomed}
use Rattle.ev_edge.specs.declared.reply.Reply.{Reply}
use Rattle.ev_edge.specs.declared.refusal.Refusal.{Refusal}
use Rattle.ev_edge.specs.declared.refusal.Refusal.TheVariants.{Edge as OfEdge}
use Rattle.ev_edge.specs.declared.refusal.EdgeRefusal.TheVariants.{OwnNameAhead, NoMemory}
use Rattle.ev_edge.specs.declared.refusal.EdgeRefusal.TheVariants.{OwnSpent}
use Rattle.ev_edge.specs.Steps.{nothing}

abbrev pub own_result : Result Taken OwnError → Result Reply Refusal
own_result (Ok taken) = Ok (record nothing { taken = Some taken })
own_result (Err Ahead) = Err (OfEdge OwnNameAhead)
own_result (Err Spent) = Err (OfEdge OwnSpent)
own_result (Err Unroomed) = Err (OfEdge NoMemory)
