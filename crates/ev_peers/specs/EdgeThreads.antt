-- The setup of an edge, and the result of its thread.
use Rattle.std.specs.Prelude.{◌≡◌, ℕ, ◌+◌, List, [], ◌∷◌, length, vec_len, Result, Ok, Err}
use Rattle.std.specs.declared.alloc.AllocError.{AllocError}
use Rattle.ev_edge.specs.declared.config.EdgeConfig.{EdgeConfig}
use Rattle.ev_peers.specs.declared.edge_outcome.EdgeOutcome.{EdgeOutcome}

-- the configuration that an edge is opened with, and the links over which its ports send, port 1 first
pub record EdgeSetup (O : Type 0) : Type 0 where
  pub config : EdgeConfig
  pub outputs : List O

abbrev pub setup_of : {O : Type 0} → EdgeConfig → List O → EdgeSetup O
setup_of config outputs = record { config = config; outputs = outputs }

-- The outcome is that of the edge with this number and this address, over so many ports' links: a count of calls for
-- each worker, and a count of frames for each line.
pub record IsOutcomeOf (number address ports : ℕ) (outcome : EdgeOutcome) : Type 0 where
  pub number_is : outcome.number ≡ number
  pub address_is : outcome.address ≡ address
  pub totals : length outcome.totals ≡ ports + 3
  pub dropped : vec_len outcome.dropped ≡ ports + 1

-- the result of that edge: its outcome, or that it was refused memory or a thread
abbrev pub IsRanOf : ℕ → ℕ → ℕ → Result EdgeOutcome AllocError → Type 0
IsRanOf number address ports (Ok outcome) = IsOutcomeOf number address ports outcome
IsRanOf number address ports (Err refused) = Unit {0}

-- the results of these edges, in their order; the first edge has this number
abbrev pub AreRanFrom : {O : Type 0} → ℕ → List (EdgeSetup O) → List (Result EdgeOutcome AllocError) → Type 0
AreRanFrom number [] [] = Unit {0}
AreRanFrom number [] (ran ∷ rans) = ⊥
AreRanFrom number (setup ∷ setups) [] = ⊥
AreRanFrom number (setup ∷ setups) (ran ∷ rans) =
    IsRanOf number setup.config.address (length setup.outputs) ran × AreRanFrom (number + 1) setups rans
