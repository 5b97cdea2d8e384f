-- The threads of edges that run, the last edge first.
use Rattle.std.specs.Prelude.{◌≡◌, ℕ, ◌+◌, List, [], ◌∷◌, length, Option, Some, None, Result}
use Rattle.std.specs.declared.alloc.AllocError.{AllocError}
use Rattle.std.specs.declared.thread.PromisedHandle.{PromisedHandle}
use Rattle.ev_book.specs.Rule.{SeatState}
use Rattle.ev_peers.specs.declared.edge_outcome.EdgeOutcome.{EdgeOutcome}
use Rattle.ev_peers.specs.declared.run.OfEdge.{OfEdge}
use Rattle.ev_peers.specs.EdgeThreads.{EdgeSetup}

-- the number of an edge and its setup
pub record Numbered (O : Type 0) : Type 0 where
  pub number : ℕ
  pub setup : EdgeSetup O

-- the thread of an edge, or none if it was refused
abbrev pub Handle : Type 0
Handle = Option (PromisedHandle (Result (EdgeOutcome × SeatState) AllocError) OfEdge)

-- the thread promises the result of the edge with this number and setup
abbrev pub IsHandle : {O : Type 0} → ℕ → EdgeSetup O → Handle → Type 0
IsHandle number setup None = Unit {0}
IsHandle number setup (Some handle) = (handle.promise.number ≡ number) × (handle.promise.address ≡ setup.config.address)
    × (handle.promise.ports ≡ length setup.outputs)

-- the threads of these edges, the last edge first; the number of the last one in the list is the one after `before`
abbrev pub AreHandles : {O : Type 0} → ℕ → List (EdgeSetup O) → List Handle → Type 0
AreHandles before [] [] = Unit {0}
AreHandles before [] (handle ∷ handles) = ⊥
AreHandles before (setup ∷ setups) [] = ⊥
AreHandles before (setup ∷ setups) (handle ∷ handles) =
    IsHandle (before + (length setups + 1)) setup handle × AreHandles before setups handles
