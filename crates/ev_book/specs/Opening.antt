-- A book when it is opened.
use Rattle.std.specs.Prelude.{◌≡◌, ℕ, List, None, map, replicate}
use Rattle.std.specs.List.{range_with_len}
use Rattle.ev_edge.specs.declared.config.EdgeConfig.{EdgeConfig}
use Rattle.ev_edge.specs.Opening as edges
use Rattle.ev_book.specs.Book.{BookState, PassState, unused}
use Rattle.ev_book.specs.Journal.{AreOwnSince}

-- The edge is as it opens, its adverts are the journal, and no pass has called or has a mark.
pub record IsOpened (c : EdgeConfig) (passes : ℕ) (b : BookState) : Type 0 where
  pub edge : edges.IsOpening c b.edge
  pub journal : AreOwnSince b.edge.routes.speaker 0 b.journal
  pub kept : b.kept ≡ replicate passes unused

abbrev pub opened_pass : ℕ → PassState
opened_pass n = record { number = n; count = 0; mark = None }

-- numbered from 0
abbrev pub opened_passes : ℕ → List PassState
opened_passes n = map opened_pass (range_with_len 0 n)
