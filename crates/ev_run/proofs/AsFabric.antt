-- The edges of a run are those of a fabric at the end of a run.
use Rattle.std.proofs.Common.{◌≡◌, ℕ, ◌+◌, Bool, true, false, List, [], ◌∷◌, length, refl, ap, sym, ◌∙◌, subst}
use Rattle.std.proofs.Common.{Result, Ok, Err, arith}
use Rattle.std.specs.Bool.{OnFalse}
use Rattle.ev_edge.specs.declared.config.EdgeConfig.{EdgeConfig}
use Rattle.ev_edge.specs.Edge.{Edge}
use Rattle.ev_book.specs.declared.log_entry.LogEntry.{LogEntry}
use Rattle.ev_book.specs.declared.log_entry.LogEntry.TheVariants.{Begins}
use Rattle.ev_book.specs.Standing.{Stands, AllStand}
use Rattle.ev_peers.specs.History.{RanStand, IsHistoryOf}
use Rattle.ev_sites.proofs.Running.{history_runs}
use Rattle.ev_run.specs.RunEdges.{Ended, AllRan, RunsAsFabric}

all_stand : (log : List LogEntry) (place : ℕ) (rans : List Ended) (edges : List Edge) → AllRan rans edges
    → RanStand log place rans → AllStand log place edges
all_stand log place [] [] all stand = tt
all_stand log place [] (edge ∷ edges) all stand = absurd all
all_stand log place (ran ∷ rans) [] all stand = absurd all
all_stand log place (Ok outcome ∷ rans) (edge ∷ edges) all stand =
    (subst (λ (e : Edge). Stands place log e) (sym all.0) stand.0, all_stand log (place + 1) rans edges all.1 stand.1)
all_stand log place (Err refused ∷ rans) (edge ∷ edges) all stand = absurd all

as_many : (rans : List Ended) (edges : List Edge) → AllRan rans edges → length edges ≡ length rans
as_many [] [] all = refl
as_many [] (edge ∷ edges) all = absurd all
as_many (ran ∷ rans) [] all = absurd all
as_many (Ok outcome ∷ rans) (edge ∷ edges) all = let rest = as_many rans edges all.1 in omega (arith, rest)
as_many (Err refused ∷ rans) (edge ∷ edges) all = absurd all

pub runs_as_fabric : (is_asked : Bool) (configs : List EdgeConfig) (rans : List Ended) → length rans ≡ length configs
    → IsHistoryOf is_asked configs rans → OnFalse is_asked (RunsAsFabric configs rans)
runs_as_fabric true configs rans len h = tt
runs_as_fabric false configs rans len h = λ edges all.
    history_runs configs h.entries edges h.legal (as_many rans edges all ∙ len)
    (all_stand (Begins false configs ∷ h.entries) 0 rans edges all h.stand)
