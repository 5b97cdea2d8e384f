-- The updates of one edge in its present life, as another process knows them, or as the edge's own table has them.
use Rattle.std.specs.Prelude.{ℕ, max, Bool, true, false, ◌&&◌, nat_le, nat_lt, [], ◌∷◌}
use Rattle.std.specs.FinMap.{empty}
use Rattle.route_wire.specs.declared.update.Content.{Content}
use Rattle.route_wire.specs.declared.update.Content.TheVariants.{Withdrawn, Advert as Advertised}
use Rattle.route_wire.specs.Fields.{Fields}
use Rattle.route_join.specs.Table.{value_at, is_news}
use Rattle.route_join.specs.Table as table
use Rattle.ev_exchange.specs.declared.life.Life.{Life}
use Rattle.ev_exchange.specs.Sending.{is_own}

-- a life without updates
abbrev pub new_life : ℕ → Life
new_life o = record {
  originator = o;
  incarnation = 0;
  said = record { originators = o ∷ []; registers = empty };
}

-- with one more update; the incarnation of the life is the highest of its updates
abbrev pub with_update : Life → Fields → Life
with_update l u = record l {
  incarnation = max l.incarnation u.value.incarnation;
  said = table.with_update l.said u;
}

abbrev pub is_withdrawn : Content → Bool
is_withdrawn Withdrawn = true
is_withdrawn (Advertised advert) = false

-- the edge made the update, a withdrawal, in an earlier life
abbrev pub is_of_earlier : Life → Fields → Bool
is_of_earlier l u =
    is_own l.originator u && nat_lt u.value.incarnation l.incarnation && is_withdrawn u.value.content

-- such a withdrawal, but none of the life is as new
abbrev pub is_left_over : Life → Fields → Bool
is_left_over l u = is_of_earlier l u && is_news (value_at l.said u.register) u.value

-- the update is of the life's edge, and of no earlier incarnation
abbrev pub is_present : Life → Fields → Bool
is_present l u = is_own l.originator u && nat_le l.incarnation u.value.incarnation

-- Such an update, but none of the life is as new: the edge made it before a restart in no higher incarnation.
abbrev pub lacks : Life → Fields → Bool
lacks l u = is_present l u && is_news (value_at l.said u.register) u.value
