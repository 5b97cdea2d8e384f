-- The datagrams of a link in one direction, counted.
use Rattle.std.specs.Prelude.{ℕ, ◌+◌, ◌-◌, ◌^◌, min, Option, Some, None, Result, Ok, Err}
use Rattle.ether_wire.specs.declared.ends.Device.{Device}
use Rattle.ev_links.specs.declared.flow.Flow.{Flow}

-- no datagram
abbrev pub no_flow : Flow
no_flow = record { datagrams = 0; octets = 0 }

-- one more datagram, of `size` octets; both numbers stop at 2^64 - 1
abbrev pub counted : ℕ → Flow → Flow
counted size flow = record {
  datagrams = min (flow.datagrams + 1) (2 ^ 64 - 1);
  octets = min (flow.octets + size) (2 ^ 64 - 1);
}

-- after a call that receives: one more datagram, if the call brought one
abbrev pub after_received : Result (Option (ℕ × ℕ)) Device → Flow → Flow
after_received (Ok (Some got)) flow = counted got.1 flow
after_received (Ok None) flow = flow
after_received (Err failure) flow = flow

-- after a call that sends `size` octets: one more datagram, unless the call failed
abbrev pub after_sent : ℕ → Result (Unit {0}) Device → Flow → Flow
after_sent size (Ok done) flow = counted size flow
after_sent size (Err failure) flow = flow
