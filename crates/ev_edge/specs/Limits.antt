-- The limits of a port: how many stations it may have at once, and how many new ones it may bring within 60 seconds.
-- `Storms` has the third, of frames in a second.
use Rattle.std.specs.Prelude.{ℕ, ◌+◌, ◌≤◌, ◌≡◌, nat_le, nat_lt, Bool, false, Option, Some, None, if◌then◌else◌, List}
use Rattle.std.specs.Prelude.{map}
use Rattle.std.specs.Prelude.{slice_get, slice_set}
use Rattle.std.specs.Option.{unwrap_or}
use Rattle.ether_wire.specs.Ports.{place_of_port}
use Rattle.ev_edge.specs.declared.config.PortConfig.{PortConfig}
use Rattle.ev_edge.specs.declared.limits.Limits.{Limits}
use Rattle.ev_edge.specs.declared.limits.Quota.{Quota}

-- ---- a limit

abbrev pub no_limits : Limits
no_limits = record { stations = None; new_stations = None; storm = None }

-- there are as many as the limit allows, or more
abbrev pub is_met : Option ℕ → ℕ → Bool
is_met None n = false
is_met (Some limit) n = nat_le limit n

-- the limit allows this many
abbrev pub IsWithin : Option ℕ → ℕ → Type 0
IsWithin limit n = (most : ℕ) → limit ≡ Some most → n ≤ most

-- ---- the quota of a port: its limits, and its newest window

-- no limits, and nothing was counted
abbrev pub quota_of : Limits → Quota
quota_of limits = record { limits = limits; start = 0; count = 0 }

abbrev pub no_quota : Quota
no_quota = quota_of no_limits

-- a port's quota at the opening: the first window starts at second 0
abbrev pub opened_quota : PortConfig → Quota
opened_quota p = quota_of p.limits

abbrev pub quotas_of : List PortConfig → List Quota
quotas_of ports = map opened_quota ports

abbrev pub quota_in : List Quota → ℕ → Quota
quota_in qs l = unwrap_or (slice_get qs l) no_quota

-- the quota of a port, counted from 1
abbrev pub quota_at : List Quota → ℕ → Quota
quota_at qs port = quota_in qs (place_of_port port)

-- the window lasts for 60 seconds
abbrev pub runs : Quota → ℕ → Bool
runs q second = nat_lt second (q.start + 60)

-- how many new stations were counted in the window at this second: none if it is over
abbrev pub count_in : Quota → ℕ → ℕ
count_in q second = if runs q second then q.count else 0

-- the start of the window of a new station at this second: it starts a window if none runs
abbrev pub start_in : Quota → ℕ → ℕ
start_in q second = if runs q second then q.start else second

-- one more new station at this second
abbrev pub counting : Quota → ℕ → Quota
counting q second = record q { start = start_in q second; count = count_in q second + 1 }

abbrev pub with_counted : List Quota → ℕ → ℕ → List Quota
with_counted qs port second = slice_set qs (place_of_port port) (counting (quota_at qs port) second)

-- ---- the invariant of a quota at a second

-- its window has started, and the limit allows its count
pub record IsKept (q : Quota) (second : ℕ) : Type 0 where
  pub started : q.start ≤ second
  pub within : IsWithin q.limits.new_stations q.count

-- the quota of each port is so
abbrev pub AreKept : List Quota → ℕ → Type 0
AreKept qs second = (port : ℕ) → IsKept (quota_at qs port) second
