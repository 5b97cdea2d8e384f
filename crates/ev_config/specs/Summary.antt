-- The line that sums up a valid configuration.
use Rattle.std.specs.Prelude.{ℕ, ◌+◌, ◌-◌, ◌==◌, eqb, if◌then◌else◌, List, [], ◌∷◌, ◌++◌, length, codes}
use Rattle.std.specs.Fmt.{decimal}
use Rattle.std.specs.List.{list_any, flat_map, sum_by}
use Rattle.ev_edge.specs.declared.config.EdgeConfig.{EdgeConfig}

-- ---- the numbers

abbrev pub port_count : List EdgeConfig → ℕ
port_count edges = sum_by (λ c. length c.ports.items) edges

-- how many different numbers are in a list
abbrev pub count_different : List ℕ → ℕ
count_different [] = 0
count_different (n ∷ ns) = (if list_any (λ x. eqb x n) ns then 0 else 1) + count_different ns

-- the VNIs of each edge, one edge after the other
abbrev pub all_vnis : List EdgeConfig → List ℕ
all_vnis edges = flat_map (λ c. c.vnis.items) edges

abbrev pub vni_count : List EdgeConfig → ℕ
vni_count edges = count_different (all_vnis edges)

-- the edges that run elsewhere: as many as an edge lists in addition to these edges
abbrev pub peer_count : List EdgeConfig → ℕ
peer_count [] = 0
peer_count (c ∷ cs) = length c.originators.items - length (c ∷ cs)

-- ---- the text

-- a number of things and their word, which has an s unless there is 1
abbrev pub counted : ℕ → List ℕ → List ℕ
counted n word = decimal n ++ word ++ (if n == 1 then [] else codes "s")

abbrev pub peers_text : ℕ → List ℕ
peers_text n = if n == 0 then [] else codes ", " ++ counted n (codes " peer")

-- `ok: 2 edges, 4 ports`
abbrev pub ports_text : List EdgeConfig → List ℕ
ports_text edges = codes "ok: " ++ counted (length edges) (codes " edge")
    ++ codes ", " ++ counted (port_count edges) (codes " port")

-- `, 1 VNI, 2 peers`
abbrev pub vnis_text : List EdgeConfig → List ℕ
vnis_text edges = codes ", " ++ counted (vni_count edges) (codes " VNI") ++ peers_text (peer_count edges) ++ codes "\n"

-- `ok: 2 edges, 4 ports, 1 VNI, 2 peers`, without the peers if there are none
abbrev pub summary_text : List EdgeConfig → List ℕ
summary_text edges = ports_text edges ++ vnis_text edges
