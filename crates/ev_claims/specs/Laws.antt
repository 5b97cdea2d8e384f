-- The removed stations by a test on each entry, and their withdrawals by numbers.
use Rattle.std.specs.Prelude.{◌≡◌, ℕ, None, if◌then◌else◌}
use Rattle.mac_arena.specs.declared.station.Station.{Station}
use Rattle.mac_arena.specs.Learning.{entry_at}
use Rattle.ev_claims.specs.LocalRoutes.{LocalRoutes}
use Rattle.ev_claims.specs.Leaving.{due_in, flushed_in, after_ageing, after_flush, goes_by_age, goes_by_flush}
use Rattle.ev_claims.specs.Changes.{OwnChanges, registers_of}

-- exactly the unpinned stations that were last heard at the limit or before go, and they are withdrawn in their order
pub record AgesOut (e : LocalRoutes) (limit : ℕ) : Type 0 where
  pub exactly : (s : Station) → entry_at (after_ageing e limit).learned s
      ≡ (if goes_by_age limit (entry_at e.learned s) then None else entry_at e.learned s)
  pub changes : OwnChanges e.speaker (after_ageing e limit).speaker (registers_of e.speaker (due_in e.learned limit))

-- exactly the unpinned stations behind the ports of the set go, and they are withdrawn in their order
pub record FlushesOut (e : LocalRoutes) (set : ℕ) : Type 0 where
  pub exactly : (s : Station) → entry_at (after_flush e set).learned s
      ≡ (if goes_by_flush set (entry_at e.learned s) then None else entry_at e.learned s)
  pub changes : OwnChanges e.speaker (after_flush e set).speaker (registers_of e.speaker (flushed_in e.learned set))
