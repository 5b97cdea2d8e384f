-- The answers to queries.
use Rattle.std.specs.Prelude.{ℕ, List, ◌++◌, codes, decimal, Option, Some, None}
use Rattle.ev_edge.specs.Edge.{Edge}
use Rattle.ev_fabric.specs.Fabric.{Fabric, nth}
use Rattle.ev_script.specs.declared.script.question.Question.{Question}
use Rattle.ev_script.specs.declared.script.question.Question.TheVariants.{Help, Edges, OfEdge}
use Rattle.ev_view.specs.declared.view.EdgeQuestion.{EdgeQuestion}
use Rattle.ev_view.specs.EdgeViews.{each_from, edge_line, edge_view_text}

-- each kind of line, one per line
abbrev pub help_text : List ℕ
help_text =
    codes "E up P\n" ++ codes "E down P\n" ++ codes "E mcheck P\n" ++ codes "E second N\n" ++ codes "E frame P HEX\n"
    ++ codes "E tunnel ADDR HEX\n" ++ codes "E pin VNI MAC P\n" ++ codes "E unpin VNI MAC\n" ++ codes "E thaw VNI MAC\n"
    ++ codes "E announce\n" ++ codes "E deliver K\n" ++ codes "E restart N\n" ++ codes "E away ADDR\n"
    ++ codes "E back ADDR\n" ++ codes "E port P\n"
    ++ codes "E report\n" ++ codes "E owner VNI MAC\n" ++ codes "E counts\n" ++ codes "E stations [VNI]\n"
    ++ codes "E peers\n" ++ codes "E links\n" ++ codes "edges\n" ++ codes "help\n"

-- ---- the edges

-- one line per edge
abbrev pub edges_text : Fabric → List ℕ
edges_text f = each_from edge_line 1 f.edges

-- ---- the answer for one edge

-- the refusal of a step of an edge that doesn't exist, as a step prints it
abbrev pub no_edge_text : ℕ → List ℕ
no_edge_text number = decimal number ++ codes " refused fabric 18\n"

abbrev pub edge_answer : ℕ → Option Edge → EdgeQuestion → List ℕ
edge_answer number None q = no_edge_text number
edge_answer number (Some e) q = edge_view_text number e q

-- ---- the answer for a fabric

abbrev pub view_text : Fabric → Question → List ℕ
view_text f Help = help_text
view_text f Edges = edges_text f
view_text f (OfEdge number q) = edge_answer number (nth f.edges number) q
