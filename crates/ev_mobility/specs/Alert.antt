-- The numbers of alerts, and the ports that they name.
use Rattle.std.specs.Prelude.{ℕ, Option, Some, None}
use Rattle.ev_mobility.specs.declared.alert.Alert.{Alert}
use Rattle.ev_mobility.specs.declared.alert.Alert.TheVariants.{StaticElsewhere, SequenceSpent, Duplicate, LostStatic}
use Rattle.ev_mobility.specs.declared.alert.Alert.TheVariants.{CounterSpent, TableFull, PortFull, PortBusy, PortStorm}
use Rattle.ev_mobility.specs.declared.alert.Alert.TheVariants.{NoMemory}

abbrev pub number_of : Alert → ℕ
number_of StaticElsewhere = 1
number_of SequenceSpent = 2
number_of Duplicate = 3
number_of LostStatic = 4
number_of CounterSpent = 5
number_of TableFull = 6
number_of (PortFull port) = 7
number_of (PortBusy port) = 8
number_of (PortStorm port) = 9
number_of NoMemory = 15

-- the port whose limit caused the alert
abbrev pub port_of : Alert → Option ℕ
port_of (PortFull port) = Some port
port_of (PortBusy port) = Some port
port_of (PortStorm port) = Some port
port_of StaticElsewhere = None
port_of SequenceSpent = None
port_of Duplicate = None
port_of LostStatic = None
port_of CounterSpent = None
port_of TableFull = None
port_of NoMemory = None
