-- It owns nothing, so it may go to any thread.
use denote.Param.Send.{IsSend, owning_send}
use Rattle.route_join.specs.contracts.seen_update.SeenUpdate.{the_row, the_type}

pub send : IsSend the_row
send = owning_send the_type tt (λ _. tt) (λ k x w. tt)
