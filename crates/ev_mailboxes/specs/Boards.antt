-- The numbers of the links of running edges, as their boards have them.
use Rattle.std.specs.Prelude.{◌≡◌, ℕ, List, take, Option, None, Some}
use Rattle.std.specs.List.{slice_get}
use Rattle.ev_mailboxes.specs.declared.link_counts.LinkCounts.{LinkCounts}
use Rattle.ev_mailboxes.specs.declared.boards.EdgeNotices.{EdgeNotices}

-- These are the first links of the edge at this place. An atomic holds the number of links in use,
-- and others hold the numbers of each link. No clause knows the content of an atomic.
pub record AreLinksAt (all : List EdgeNotices) (place : ℕ) (links : List LinkCounts) : Type 0 where
  pub edge : EdgeNotices
  pub is_there : slice_get all place ≡ Some edge
  pub count : ℕ
  pub are : links ≡ take count edge.links.items

-- the links of the edge at this place, or no list if no edge is there
abbrev pub GivesLinks : List EdgeNotices → ℕ → Option (List LinkCounts) → Type 0
GivesLinks all place None = slice_get all place ≡ None
GivesLinks all place (Some links) = AreLinksAt all place links
