-- The faults of the workers of an edge.
use Rattle.std.specs.Prelude.{ℕ, ◌+◌, ◌-◌, ◌^◌, min, ◌||◌, Bool, true, false}
use Rattle.ev_peers.specs.declared.shared_edge.Ended.{Ended}
use Rattle.ev_peers.specs.declared.shared_edge.Ended.TheVariants.{End, Device as Failed, NoMemory}
use Rattle.ev_peers.specs.declared.edge_outcome.Faults.{Faults}

abbrev pub faults_of : ℕ → Bool → Bool → Faults
faults_of lost device memory = record { lost = lost; device = device; memory = memory }

-- no worker had a fault
abbrev pub no_faults : Faults
no_faults = faults_of 0 false false

-- two counts together, as far as 64 bits count
abbrev pub both_lost : ℕ → ℕ → ℕ
both_lost n m = min (n + m) (2 ^ 64 - 1)

-- the faults of both together
abbrev pub both_faults : Faults → Faults → Faults
both_faults f g = faults_of (both_lost f.lost g.lost) (f.device || g.device) (f.memory || g.memory)

abbrev pub is_device : Ended → Bool
is_device End = false
is_device Failed = true
is_device NoMemory = false

abbrev pub is_memory : Ended → Bool
is_memory End = false
is_memory Failed = false
is_memory NoMemory = true

-- one more worker with this end
abbrev pub with_end : Ended → Faults → Faults
with_end ended f = faults_of f.lost (f.device || is_device ended) (f.memory || is_memory ended)

-- whether a call of the book was refused memory
abbrev pub with_memory : Bool → Faults → Faults
with_memory refused f = faults_of f.lost f.device (f.memory || refused)

-- one more worker that sends, with the number of frames that it lost and with its end
abbrev pub with_sent : ℕ × Ended → Faults → Faults
with_sent sent f =
    faults_of (both_lost f.lost sent.0) (f.device || is_device sent.1) (f.memory || is_memory sent.1)
