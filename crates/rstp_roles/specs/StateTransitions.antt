-- The state transitions (IEEE 802.1D-2004, 17.30): the port learns and forwards as its role requires.
use Rattle.std.specs.Prelude.{Bool, true, false, not, ◌&&◌, ◌||◌}
use Rattle.rstp_state.specs.declared.port.PortState.{PortState}

-- ToLearning

abbrev pub to_learning_guard : PortState → Bool
to_learning_guard port = port.learn && not port.learning

abbrev pub to_learning_effect : PortState → PortState
to_learning_effect port = record port { learning = true }

-- ToForwarding

abbrev pub to_forwarding_guard : PortState → Bool
to_forwarding_guard port = port.learning && port.forward && not port.forwarding

abbrev pub to_forwarding_effect : PortState → PortState
to_forwarding_effect port = record port { forwarding = true }

-- ToDiscarding

abbrev pub to_discarding_guard : PortState → Bool
to_discarding_guard port = (port.learning && not port.learn) || (port.forwarding && not port.forward)

abbrev pub to_discarding_effect : PortState → PortState
to_discarding_effect port = record port { learning = false; forwarding = false }
