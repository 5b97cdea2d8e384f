-- The end of a stream, by the next result of a feed.
use Rattle.std.specs.Prelude.{ℕ, List}
use Rattle.route_wire.specs.declared.stream.Whole.TheVariants.{Rest}
use Rattle.route_wire.specs.declared.stream.Next.{Next}
use Rattle.route_wire.specs.declared.stream.Next.TheVariants.{More, Record, Refused, Fault as Faulted}
use Rattle.ev_exchange.specs.declared.stream_end.StreamEnd.{StreamEnd}
use Rattle.ev_exchange.specs.declared.stream_end.StreamEnd.TheVariants.{Whole as Ended, Faulty}
use Rattle.ev_exchange.specs.Receiving.{end_by}

-- the end of a stream, by the next result of a feed that holds this rest
abbrev pub end_of_next : Next → List ℕ → StreamEnd
end_of_next More rest = end_by Rest rest
end_of_next (Record u) rest = Ended
end_of_next (Refused refusal) rest = Ended
end_of_next (Faulted fault) rest = Faulty fault
