-- The answers to queries of one edge.
use Rattle.std.specs.Prelude.{ℕ, ◌+◌, ◌==◌, if◌then◌else◌, List, [], ◌∷◌, ◌++◌, codes, decimal}
use Rattle.ether_wire.specs.Addr.{addr_text}
use Rattle.ev_edge.specs.Edge.{Edge, address_of, table_of}
use Rattle.ev_view.specs.declared.view.EdgeQuestion.{EdgeQuestion}
use Rattle.ev_view.specs.declared.view.EdgeQuestion.TheVariants.{Owner, Counts, Stations, Peers, Links}
use Rattle.ev_view.specs.Owners.{owner_text}
use Rattle.ev_view.specs.Counts.{counts_text}
use Rattle.ev_view.specs.Stations.{stations_text}
use Rattle.ev_view.specs.Peers.{peers_text}

-- the texts of these, each with its number, which begins at this one
abbrev pub each_from : {A B : Type 0} → (ℕ → A → List B) → ℕ → List A → List B
each_from text number [] = []
each_from text number (one ∷ more) = text number one ++ each_from text (number + 1) more

-- ---- its line

-- a comma in front of each but the first
abbrev pub comma : ℕ → List ℕ
comma number = if number == 1 then [] else codes ","

-- `P:VNI`, a port and its network
abbrev pub port_words : ℕ → ℕ → List ℕ
port_words number vni = comma number ++ decimal number ++ codes ":" ++ decimal vni

abbrev pub network_words : ℕ → ℕ → List ℕ
network_words number vni = comma number ++ decimal vni

-- ` ports P:VNI,.. networks VNI,..`, the end of a line
abbrev pub served_text : List ℕ → List ℕ → List ℕ
served_text ports vnis =
    codes " ports " ++ each_from port_words 1 ports
    ++ codes " networks " ++ each_from network_words 1 vnis ++ codes "\n"

-- `E edge ADDR ports P:VNI,.. networks VNI,..`
abbrev pub edge_words : ℕ → ℕ → List ℕ → List ℕ → List ℕ
edge_words number address ports vnis =
    decimal number ++ codes " edge " ++ addr_text address ++ served_text ports vnis

abbrev pub edge_line : ℕ → Edge → List ℕ
edge_line number e = edge_words number (address_of e) e.routes.ports e.routes.vnis

-- ---- a question

-- to a question of an edge that there is
abbrev pub edge_view_text : ℕ → Edge → EdgeQuestion → List ℕ
edge_view_text number e (Owner s) = owner_text number (table_of e) s.vni s.mac
edge_view_text number e Counts = counts_text number e
edge_view_text number e (Stations vni) = stations_text number e vni
edge_view_text number e Peers = peers_text number e
edge_view_text number e Links = []
