-- It owns nothing, so any threads may share it.
use denote.Param.Send.{IsSync, part_keyless}
use Rattle.route_join.specs.contracts.seen_update.SeenUpdate.{the_row}
use Rattle.route_join.proofs.seen_update.SeenUpdate.TheSendSync.Send.{send}

pub sync : IsSync the_row
sync = record { shared = λ d b o κ q. part_keyless the_row send q d b o }
