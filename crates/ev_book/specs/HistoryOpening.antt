-- A history that begins.
use Rattle.std.specs.Prelude.{◌≡◌, ℕ, Bool, true, false, List, [], ◌∷◌, length}
use Rattle.ev_edge.specs.declared.config.EdgeConfig.{EdgeConfig}
use Rattle.ev_book.specs.declared.log_entry.LogEntry.{LogEntry}
use Rattle.ev_book.specs.declared.log_entry.LogEntry.TheVariants.{Begins, Does}

-- whether it contains only its beginning
abbrev pub is_new : List LogEntry → Bool
is_new [] = false
is_new (Begins outside configs ∷ []) = true
is_new (Begins outside configs ∷ e ∷ es) = false
is_new (Does place deed later ∷ es) = false

-- it contains only its beginning, for this number of edges; whether updates of other processes come in
pub record IsNew (outside : Bool) (log : List LogEntry) (edges : ℕ) : Type 0 where
  pub configs : List EdgeConfig
  pub log_is : log ≡ Begins outside configs ∷ []
  pub each : edges ≡ length configs
