-- A UDP endpoint as text.
use Rattle.std.specs.Prelude.{ℕ, List, Option, Some}
use Rattle.ether_wire.specs.Parse.{◌>>=◌, parted, addr_of_text, decimal_of_text}
use Rattle.ev_config.specs.declared.endpoint.Endpoint.{Endpoint}

-- an IPv4 address, a colon (58), a UDP port
abbrev pub endpoint_of_text : List ℕ → Option Endpoint
endpoint_of_text s = do
  p ← parted 58 s
  address ← addr_of_text p.0
  port ← decimal_of_text 65535 p.1
  Some (record { address = address; port = port })
