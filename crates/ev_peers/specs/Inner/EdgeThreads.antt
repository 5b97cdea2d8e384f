-- Room for the threads of an edge.
use Rattle.std.specs.Prelude.{◌≡◌, ℕ, ◌+◌, ◌≤◌}

-- There are no threads and no passes yet. There is room for a thread for each task and each output, and for the passes
-- of all tasks and one more.
pub record HasRoom (tasks outputs entering entering_room sending sending_room passes passes_room : ℕ) : Type 0 where
  pub no_entering : entering ≡ 0
  pub no_sending : sending ≡ 0
  pub no_passes : passes ≡ 0
  pub for_tasks : tasks ≤ entering_room
  pub for_outputs : outputs ≤ sending_room
  pub for_passes : tasks + 1 ≤ passes_room

-- There is that room, a flag for each thread (set if the thread is refused), a line for each output, and a pass for
-- each task.
pub record IsReady (tasks outputs entering entering_room sending sending_room passes passes_room no_entering no_sending
    lines fresh : ℕ) : Type 0 where
  pub room : HasRoom tasks outputs entering entering_room sending sending_room passes passes_room
  pub entering_words : tasks ≤ no_entering
  pub sending_words : outputs ≤ no_sending
  pub line_each : outputs ≤ lines
  pub fresh_each : fresh ≡ tasks

-- Each edge has a seat. No edge has a thread or a result yet, and there is room for the thread and the result of each,
-- and for the seat that it leaves.
pub record HasEdges (setups seats running running_room ended ended_room left left_room : ℕ) : Type 0 where
  pub each : seats ≡ setups
  pub no_running : running ≡ 0
  pub no_ended : ended ≡ 0
  pub for_running : setups ≤ running_room
  pub for_ended : setups ≤ ended_room
  pub no_left : left ≡ 0
  pub for_left : setups ≤ left_room
