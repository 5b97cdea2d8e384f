-- The lines of an edge's links, with the datagrams that the system dropped at their sockets.
use Rattle.std.specs.Prelude.{◌≡◌, ⊤, ℕ, List, [], ◌∷◌, map, Option, None, Some, Ok, Err}
use Rattle.std.specs.Option.{unwrap_or}
use Rattle.std.specs.List.{slice_get}
use Rattle.ev_view.specs.declared.link_lines.LinkRow.{LinkRow}
use Rattle.ev_view.specs.declared.view.EdgeQuestion.{EdgeQuestion}
use Rattle.ev_view.specs.declared.view.EdgeQuestion.TheVariants.{Owner, Counts, Stations, Peers, Links}
use Rattle.ev_view.specs.EdgeViews.{each_from}
use Rattle.ev_view.specs.LinkLines.{link_line}
use Rattle.ev_console.specs.Asking.{ViewSeen, Asked, entered, page_seen, port_seen, view_seen, served_seen}

-- the drops at a place of these, or none if there is no such place
abbrev pub drops_at : List (Option ℕ) → ℕ → Option ℕ
drops_at drops place = unwrap_or (slice_get drops place) None

-- the drops at the place of each of these links
abbrev pub drops_of : {L : Type 0} → List (Option ℕ) → List L → List (Option ℕ)
drops_of drops links = each_from (λ place link. drops_at drops place ∷ []) 0 links

-- The text has a line for each of these links of the edge with this number. The system reported the drops in these
-- lines at the places of the links.
pub record ShowsLinks {L : Type 0} (IsReported : List (Option ℕ) → Type 0) (number : ℕ) (links : List L)
    (text : List ℕ) : Type 0 where
  pub drops : List (Option ℕ)
  pub are_reported : IsReported drops
  pub rows : List LinkRow
  pub are_shown : map (λ row. row.system_drops) rows ≡ drops_of drops links
  pub is_text : text ≡ each_from (link_line number) 0 rows

-- an edge whose links aren't known has no lines
abbrev pub ShowsAny : {L : Type 0} → (List (Option ℕ) → Type 0) → ℕ → Option (List L) → List ℕ → Type 0
ShowsAny IsReported number None text = text ≡ []
ShowsAny IsReported number (Some links) text = ShowsLinks IsReported number links text

-- the text of an answer, if it has one, is so
abbrev pub OnText : ViewSeen → (List ℕ → Type 0) → Type 0
OnText (Err unreached) Is = ⊤
OnText (Ok (Err refused)) Is = ⊤
OnText (Ok (Ok text)) Is = Is text.items

-- the answer to a question about links is so
abbrev pub OnLinks : EdgeQuestion → Type 0 → Type 0
OnLinks (Owner station) Is = ⊤
OnLinks Counts Is = ⊤
OnLinks (Stations vni) Is = ⊤
OnLinks Peers Is = ⊤
OnLinks Links Is = Is

-- an answer to a question about these links shows them
abbrev pub GivesLinks : {L : Type 0} → (ℕ → List (Option ℕ) → Type 0) → Option (List L) → Asked → Type 0
GivesLinks reported links (entered e step answer) = ⊤
GivesLinks reported links (page_seen e after answer) = ⊤
GivesLinks reported links (port_seen e port answer) = ⊤
GivesLinks reported links (view_seen e question answer) =
    OnLinks question (OnText answer (ShowsAny (reported e) e links))
GivesLinks reported links (served_seen e answer) = ⊤
