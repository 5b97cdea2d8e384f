-- The requests that a line of the console makes to edges that run, and its answer.
use Rattle.std.specs.Prelude.{◌≡◌, ◌⊎◌, ℕ, ◌^◌, List, [], ◌∷◌, ◌++◌, length, codes, Option, Some, None, Ok, Err}
use Rattle.std.specs.List.{All}
use Rattle.route_join.specs.After.{PageView}
use Rattle.ev_edge.specs.declared.refusal.EdgeRefusal.TheVariants as own
use Rattle.ev_edge.specs.declared.refusal.Refusal.TheVariants as edges
use Rattle.ev_fabric.specs.declared.refusal.FabricRefusal.TheVariants as fabric
use Rattle.ev_book.specs.declared.refusal.BookRefusal.{BookRefusal}
use Rattle.ev_book.specs.declared.refusal.BookRefusal.TheVariants.{PassStrange, PassSpent, NoRoom, Edge}
use Rattle.ev_book.specs.Refusal.{refusal_number}
use Rattle.ev_mailboxes.specs.declared.request.OperatorCommand.{OperatorCommand as Step}
use Rattle.ev_mailboxes.specs.declared.request.OperatorCommand.TheVariants as steps
use Rattle.ev_script.specs.declared.script.question.Question.{Question}
use Rattle.ev_script.specs.declared.script.question.Question.TheVariants.{Help, Edges, OfEdge}
use Rattle.ev_script.specs.Script.{Command, up, down, mcheck, second, frame, tunnel, pin, unpin, thaw, announce}
use Rattle.ev_script.specs.Script.{deliver, port, report, restart, away, back, line_of, question_of}
use Rattle.ev_script.specs.Simulation.{port_number}
use Rattle.ev_script.specs.Faults.{why_of, why_text}
use Rattle.ev_script.specs.Printing.{words_text, number_text, reply_text, refusal_text, port_text}
use Rattle.ev_view.specs.EdgeViews.{each_from, edge_words}
use Rattle.ev_console.specs.declared.operated.Unreached.{Unreached}
use Rattle.ev_console.specs.declared.operated.Unreached.TheVariants.{NoEdge, Ended}
use Rattle.ev_console.specs.Asking.{Asked, Entered, PageSeen, PortSeen, ServedSeen, entered, page_seen, port_seen}
use Rattle.ev_console.specs.Asking.{ViewSeen, view_seen, served_from}
use Rattle.ev_view.specs.declared.view.EdgeQuestion.{EdgeQuestion}
use Rattle.ev_console.specs.Table.{IsReportOf, IsFull, IsLast, pages_seen, end_of, updates_of, last_updates}

-- ---- the text of an answer

-- `E refused fabric 18`, or `E ended`
abbrev pub unreached_text : ℕ → Unreached → List ℕ
unreached_text e NoEdge = refusal_text e fabric.NoSuchEdge
unreached_text e Ended = words_text e (codes " ended\n")

-- `E refused PART N`
abbrev pub book_refusal_text : ℕ → BookRefusal → List ℕ
book_refusal_text e (Edge refusal) = refusal_text e (fabric.Edge refusal)
book_refusal_text e NoRoom = number_text e (codes " refused edge ") (refusal_number NoRoom)
book_refusal_text e PassSpent = number_text e (codes " refused edge ") (refusal_number PassSpent)
book_refusal_text e PassStrange = number_text e (codes " refused edge ") (refusal_number PassStrange)

abbrev pub entered_text : ℕ → Entered → List ℕ
entered_text e (Ok (Ok reply)) = reply_text e reply
entered_text e (Ok (Err refusal)) = book_refusal_text e refusal
entered_text e (Err unreached) = unreached_text e unreached

abbrev pub port_seen_text : ℕ → ℕ → PortSeen → List ℕ
port_seen_text e p (Ok (Some view)) = port_text e p view.state view.passes
port_seen_text e p (Ok None) = refusal_text e (fabric.Edge (edges.Edge own.NoSuchPort))
port_seen_text e p (Err unreached) = unreached_text e unreached

-- `E refused edge 15`
abbrev pub no_memory_text : ℕ → List ℕ
no_memory_text e = refusal_text e fabric.NoMemory

abbrev pub view_seen_text : ℕ → ViewSeen → List ℕ
view_seen_text e (Ok (Ok text)) = text.items
view_seen_text e (Ok (Err refused)) = no_memory_text e
view_seen_text e (Err unreached) = unreached_text e unreached

abbrev pub served_seen_text : ℕ → ServedSeen → List ℕ
served_seen_text e (Ok (Ok served)) = edge_words e served.address served.ports.items served.vnis.items
served_seen_text e (Ok (Err refused)) = no_memory_text e
served_seen_text e (Err unreached) = unreached_text e unreached

-- the words after a report: none after its last page, or why the next page is missing
abbrev pub last_words : ℕ → PageSeen → List ℕ
last_words e (Ok (Ok page)) = []
last_words e (Ok (Err refused)) = no_memory_text e
last_words e (Err unreached) = unreached_text e unreached

-- ---- a line

-- no request is made, and this is the text
abbrev pub Says : List ℕ → List Asked → List ℕ → Type 0
Says words = λ asked text. (asked ≡ []) × (text ≡ words)

-- one step of one edge, and its result
abbrev pub Steps : ℕ → Step → List Asked → List ℕ → Type 0
Steps e step = λ asked text.
    (answer : Entered) × (asked ≡ entered e step answer ∷ []) × (text ≡ entered_text e answer)

-- Full pages were requested one after the other, each after the last register of the page before, and then one that
-- isn't full or that the edge didn't give. The text is the report of the updates of all pages, in their order, and the
-- words after it.
pub record ShowsPages (e : ℕ) (asked : List Asked) (text : List ℕ) : Type 0 where
  pub full : List PageView
  pub are_full : All IsFull full
  pub last : PageSeen
  pub is_last : IsLast last
  pub asked_are : asked ≡ pages_seen e None full ++ page_seen e (end_of None full) last ∷ []
  pub lines : List ℕ
  pub of : IsReportOf (updates_of full ++ last_updates last) lines
  pub is : text ≡ lines ++ last_words e last

-- After 2^40 full pages the report stops.
pub record StopsShowing (e : ℕ) (asked : List Asked) (text : List ℕ) : Type 0 where
  pub full : List PageView
  pub are_full : All IsFull full
  pub many : length full ≡ 2 ^ 40
  pub asked_are : asked ≡ pages_seen e None full
  pub lines : List ℕ
  pub of : IsReportOf (updates_of full) lines
  pub is : text ≡ lines ++ no_memory_text e

abbrev pub ShowsTable : ℕ → List Asked → List ℕ → Type 0
ShowsTable e = λ asked text. ShowsPages e asked text ⊎ StopsShowing e asked text

abbrev pub ShowsPort : ℕ → ℕ → List Asked → List ℕ → Type 0
ShowsPort e p = λ asked text.
    (answer : PortSeen) × (asked ≡ port_seen e p answer ∷ []) × (text ≡ port_seen_text e p answer)

-- the answer to a line of a simulation
abbrev pub simulated_text : List ℕ
simulated_text = codes "bad: only a simulation takes this line\n"

-- the request of a command to the edge that it names, and the answer
abbrev pub AnswersCommand : ℕ → Command → List Asked → List ℕ → Type 0
AnswersCommand e (up p) = Steps e (steps.PortUp (port_number p))
AnswersCommand e (down p) = Steps e (steps.PortDown (port_number p))
AnswersCommand e (mcheck p) = Steps e (steps.Mcheck (port_number p))
AnswersCommand e (pin s p) = Steps e (steps.Pin s (port_number p))
AnswersCommand e (unpin s) = Steps e (steps.Unpin s)
AnswersCommand e (thaw s) = Steps e (steps.Thaw s)
AnswersCommand e (away a) = Steps e (steps.Away a)
AnswersCommand e (back a) = Steps e (steps.Back a)
AnswersCommand e (port p) = ShowsPort e (port_number p)
AnswersCommand e report = ShowsTable e
AnswersCommand e (second n) = Says simulated_text
AnswersCommand e (frame p octets) = Says simulated_text
AnswersCommand e (tunnel from octets) = Says simulated_text
AnswersCommand e announce = Says simulated_text
AnswersCommand e (deliver k) = Says simulated_text
AnswersCommand e (restart n) = Says simulated_text

-- `bad: WHY`
abbrev pub bad_text : List ℕ → List ℕ
bad_text line = codes "bad" ++ why_text (why_of line)

-- a line that is no question: a command, or a bad one
abbrev pub AnswersWords : List ℕ → Option (ℕ × Command) → List Asked → List ℕ → Type 0
AnswersWords line None = Says (bad_text line)
AnswersWords line (Some found) = AnswersCommand found.0 found.1

-- the lines of the console, one a line
abbrev pub help_text : List ℕ
help_text =
    codes "E up P\n" ++ codes "E down P\n" ++ codes "E mcheck P\n" ++ codes "E pin VNI MAC P\n"
    ++ codes "E unpin VNI MAC\n" ++ codes "E thaw VNI MAC\n" ++ codes "E away ADDR\n" ++ codes "E back ADDR\n"
    ++ codes "E port P\n" ++ codes "E report\n"
    ++ codes "E owner VNI MAC\n" ++ codes "E counts\n" ++ codes "E stations [VNI]\n" ++ codes "E peers\n"
    ++ codes "E links\n" ++ codes "edges\n" ++ codes "help\n"

abbrev pub ShowsView : ℕ → EdgeQuestion → List Asked → List ℕ → Type 0
ShowsView e q = λ asked text.
    (answer : ViewSeen) × (asked ≡ view_seen e q answer ∷ []) × (text ≡ view_seen_text e answer)

-- each edge is queried once, the first one first, and has a line
abbrev pub ShowsEdges : ℕ → List Asked → List ℕ → Type 0
ShowsEdges count = λ asked text. (answers : List ServedSeen) × (length answers ≡ count)
    × (asked ≡ served_from 1 answers) × (text ≡ each_from served_seen_text 1 answers)

-- a question to `count` edges
abbrev pub AnswersQuestion : ℕ → Question → List Asked → List ℕ → Type 0
AnswersQuestion count Help = Says help_text
AnswersQuestion count Edges = ShowsEdges count
AnswersQuestion count (OfEdge e q) = ShowsView e q

abbrev pub AnswersAsked : ℕ → List ℕ → Option Question → List Asked → List ℕ → Type 0
AnswersAsked count line None = AnswersWords line (line_of line)
AnswersAsked count line (Some question) = AnswersQuestion count question

-- a line, if there are `count` edges
abbrev pub AnswersLine : ℕ → List ℕ → List Asked → List ℕ → Type 0
AnswersLine count line = AnswersAsked count line (question_of line)
