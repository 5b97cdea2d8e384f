-- The ends of a run's links: UDP endpoints and devices.
use Rattle.std.specs.Prelude.{Option, Some, None}
use Rattle.std.specs.Option.{option_map}
use Rattle.ev_links.specs.declared.device_name.DeviceName.{DeviceName}
use Rattle.ev_config.specs.declared.endpoint.Endpoint.{Endpoint}
use Rattle.ev_config.specs.declared.endpoint.PortEndpoints.{PortEndpoints}

-- an end of a link: a UDP endpoint, or a device of this host
pub data LinkEnd : Type 0 where
  Udp : Endpoint → LinkEnd
  Device : DeviceName → LinkEnd

-- the end of this device, or else the one of the endpoint
abbrev pub end_of : Option DeviceName → Option Endpoint → Option LinkEnd
end_of None at = option_map Udp at
end_of (Some name) at = Some (Device name)

-- the end at which a port receives its frames, and the one to which it sends them
abbrev pub local_of : PortEndpoints → Option LinkEnd
local_of link = end_of link.device link.local

abbrev pub remote_of : PortEndpoints → Option LinkEnd
remote_of link = end_of link.device link.remote
