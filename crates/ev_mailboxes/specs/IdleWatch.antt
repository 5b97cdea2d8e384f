-- How long nothing has come over a link, or nothing was sent over it.
use Rattle.std.specs.Prelude.{ℕ, ◌+◌, ◌-◌, ◌^◌, min, nat_lt, if◌then◌else◌}
use Rattle.ev_mailboxes.specs.declared.idle_watch.IdleWatch.{IdleWatch}

abbrev pub idle_for : ℕ → ℕ → IdleWatch
idle_for count seconds = record { count = count; seconds = seconds }

abbrev pub new_idle : IdleWatch
new_idle = idle_for 0 0

-- after a second: no second has passed since the last datagram if the number has grown, and otherwise one more
abbrev pub after_idle : ℕ → IdleWatch → IdleWatch
after_idle count w =
    idle_for count (if nat_lt w.count count then 0 else min (w.seconds + 1) (2 ^ 64 - 1))
