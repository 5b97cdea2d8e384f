-- The selection of a bridge's root and of its ports' roles (IEEE 802.1D-2004, 17.21.25).
use Rattle.std.specs.Prelude.{◌≡◌, length, List}
use Rattle.std.proofs.Common.{◌∙◌}
use Rattle.std.proofs.lemmas.List.{length-map}
use Rattle.std.proofs.lemmas.List.FromFn.{length-enumerate_from}
use Rattle.std.specs.List.{enumerate_from}
use Rattle.rstp_state.specs.declared.port.PortState.{PortState}
use Rattle.rstp_state.specs.declared.start.Settings.{Settings}
use Rattle.rstp_state.specs.Selection.{selected_ports}

-- selection keeps the number of ports
pub length-selected_ports : (s : Settings) (ports : List PortState) → length (selected_ports s ports) ≡ length ports
unfolding selected_ports
length-selected_ports s ports = length-map (enumerate_from 0 ports) _ ∙ length-enumerate_from 0 ports
