-- The report of a table that an edge has shown page by page.
use Rattle.std.specs.Prelude.{◌≡◌, ℕ, true, false, Option, List, [], ◌∷◌, Ok, Err}
use Rattle.std.specs.List.{flat_map}
use Rattle.route_wire.specs.declared.update.Register.{Register}
use Rattle.route_wire.specs.Fields.{Fields}
use Rattle.route_join.specs.Table.{Table, IsTableOf}
use Rattle.route_join.specs.Report.{report_of}
use Rattle.route_join.specs.After.{PageView, is_last, last_from}
use Rattle.ev_console.specs.Asking.{Asked, PageSeen, page_seen}

-- The text is the report of the table of these updates.
pub record IsReportOf (updates : List Fields) (text : List ℕ) : Type 0 where
  pub table : Table
  pub of : IsTableOf updates table
  pub is : text ≡ report_of table

-- ---- pages

abbrev pub IsFull : PageView → Type 0
IsFull page = is_last page.updates ≡ false

-- the requests for these pages; each page begins after the last register of the page before, the first one after this
-- register
abbrev pub pages_seen : ℕ → Option Register → List PageView → List Asked
pages_seen e after [] = []
pages_seen e after (page ∷ pages) = page_seen e after (Ok (Ok page)) ∷ pages_seen e (last_from after page.updates) pages

-- the register after which the next page begins
abbrev pub end_of : Option Register → List PageView → Option Register
end_of after [] = after
end_of after (page ∷ pages) = end_of (last_from after page.updates) pages

-- the updates of pages
abbrev pub updates_of : List PageView → List Fields
updates_of pages = flat_map (λ (page : PageView). page.updates) pages

-- no page follows: the page isn't full, or the edge gave none
abbrev pub IsLast : PageSeen → Type 0
IsLast (Ok (Ok page)) = is_last page.updates ≡ true
IsLast (Ok (Err refused)) = Unit {0}
IsLast (Err unreached) = Unit {0}

-- the updates of the last answer
abbrev pub last_updates : PageSeen → List Fields
last_updates (Ok (Ok page)) = page.updates
last_updates (Ok (Err refused)) = []
last_updates (Err unreached) = []
