-- The slot of an edge: the answer to the operator's request waits there.
use Rattle.std.specs.Prelude.{Bool, true, false, Option, Some, None}
use Rattle.ev_mailboxes.specs.declared.request.Response.{Response}
use Rattle.ev_mailboxes.specs.declared.request_slot.RequestState.{RequestState}
use Rattle.ev_mailboxes.specs.declared.request_slot.RequestState.TheVariants.{Free, Asked, Answered}

-- a request takes the slot if the slot is free
abbrev pub ask_on : RequestState → Bool × RequestState
ask_on Free = (true, Asked)
ask_on Asked = (false, Asked)
ask_on (Answered answer) = (false, Answered answer)

-- an answer is collected once, and then the next request has room
abbrev pub collect_from : RequestState → Option Response × RequestState
collect_from Free = (None, Free)
collect_from Asked = (None, Asked)
collect_from (Answered answer) = (Some answer, Free)
