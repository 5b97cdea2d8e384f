-- How much an edge holds.
use Rattle.std.specs.Prelude.{ℕ, ◌+◌, ◌-◌, ◌^◌, ◌&&◌, not, nat_lt, Bool, true, false, if◌then◌else◌, is_some, length}
use Rattle.std.specs.Prelude.{Option, Some, None, List, [], ◌∷◌, ◌++◌, codes, decimal}
use Rattle.route_wire.specs.Fields.{Fields}
use Rattle.route_join.specs.Owner.{advert_in}
use Rattle.route_join.specs.Updates.{all_updates}
use Rattle.mac_arena.specs.declared.station.Station.{Station}
use Rattle.mac_arena.specs.Learning.{entry_at, is_pinned}
use Rattle.ev_claims.specs.LocalRoutes.{entries}
use Rattle.ev_edge.specs.Edge.{Edge, table_of}
use Rattle.ev_view.specs.Stations.{is_own, own_station, is_frozen_at}
use Rattle.ev_view.specs.declared.counts.Counts.{Counts}

-- the register's value is an advert
abbrev pub advertises : Fields → Bool
advertises u = is_some (advert_in u.value.content)

-- the station is pinned at the edge
abbrev pub pinned_there : Edge → Option Station → Bool
pinned_there e None = false
pinned_there e (Some s) = is_pinned (entry_at e.routes.learned s)

-- it is frozen there
abbrev pub frozen_there : Edge → Option Station → Bool
frozen_there e None = false
frozen_there e (Some s) = is_frozen_at e s

-- one more, if it is one; a count stays at 2^64 - 1
abbrev pub one_more : ℕ → Bool → ℕ
one_more n is_one = if is_one && nat_lt n (2 ^ 64 - 1) then n + 1 else n

-- a register more, and the station that it is about, if it is an own one
abbrev pub counted : Edge → Fields → Counts → Counts
counted e u so_far = record {
  pinned = one_more so_far.pinned (pinned_there e (own_station e u));
  frozen = one_more so_far.frozen (frozen_there e (own_station e u));
  registers = one_more so_far.registers true;
  own = one_more so_far.own (is_own e u && advertises u);
  foreign = one_more so_far.foreign (not (is_own e u) && advertises u);
}

abbrev pub counted_all : Edge → List Fields → Counts → Counts
counted_all e [] so_far = so_far
counted_all e (u ∷ us) so_far = counted_all e us (counted e u so_far)

abbrev pub none_counted : Counts
none_counted = record { pinned = 0; frozen = 0; registers = 0; own = 0; foreign = 0 }

-- how many there are, behind the word for them
abbrev pub amount_words : List ℕ → ℕ → List ℕ
amount_words word amount = word ++ decimal amount

-- ` stations N pinned N frozen N`: those that are learnt and the pinned ones among them, and those that are frozen
abbrev pub stations_words : Edge → Counts → List ℕ
stations_words e counts =
    amount_words (codes " stations ") (entries e.routes) ++ amount_words (codes " pinned ") counts.pinned
    ++ amount_words (codes " frozen ") counts.frozen

-- ` registers N own N foreign N`: those of the table, and how many of them are adverts of the edge, and of others
abbrev pub registers_words : Counts → List ℕ
registers_words counts =
    amount_words (codes " registers ") counts.registers ++ amount_words (codes " own ") counts.own
    ++ amount_words (codes " foreign ") counts.foreign

-- ` pending N`, the own registers that the edge has still to announce, and the end of the line
abbrev pub pending_words : Edge → List ℕ
pending_words e = amount_words (codes " pending ") (length e.routes.speaker.pending) ++ codes "\n"

-- `E counts stations N pinned N frozen N registers N own N foreign N pending N`
abbrev pub counts_line : ℕ → Edge → Counts → List ℕ
counts_line number e counts =
    decimal number ++ codes " counts" ++ stations_words e counts ++ registers_words counts ++ pending_words e

abbrev pub counts_text : ℕ → Edge → List ℕ
counts_text number e = counts_line number e (counted_all e (all_updates (table_of e)) none_counted)
