-- The originators that the edges of a configuration list.
use Rattle.std.specs.Prelude.{ℕ, List, [], ◌∷◌}
use Rattle.ev_edge.specs.declared.config.EdgeConfig.{EdgeConfig}

-- those of the first edge: each edge of a document lists the same
abbrev pub listed_by : List EdgeConfig → List ℕ
listed_by [] = []
listed_by (c ∷ cs) = c.originators.items
