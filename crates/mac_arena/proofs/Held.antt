-- Each change of a table whose lists name its stations gives a table whose lists name its stations.
use Rattle.std.proofs.Common.{ℕ, ◌<◌, ◌≤◌, ◌≡◌, ◌-◌, inl, inr, true, false, Option, Some, None, length, refl, sym, ◌∙◌}
use Rattle.std.proofs.Common.{arith}
use Rattle.std.specs.Prelude.{slice_get, IsSome}
use Rattle.std.proofs.lemmas.Bool.{cases_eq, cases_Bool, eq-eqb, ne_eqb, false≢true}
use Rattle.mac_arena.specs.declared.station.Station.{Station}
use Rattle.mac_arena.specs.declared.station.Entry.{Entry}
use Rattle.mac_arena.specs.declared.table.Learnt.TheVariants.{New, Moved, Refreshed}
use Rattle.mac_arena.specs.Entry.{pinned_at}
use Rattle.mac_arena.specs.Orders.{Orders}
use Rattle.mac_arena.specs.Learning.{Learning, entry_at, learned_at, is_full, IsLatest, learnt_of, entered}
use Rattle.mac_arena.specs.Learning.{after_learn, after_pin, after_removal}
use Rattle.mac_arena.specs.Inner.Learning.{heard, held, shifted, dropped}
use Rattle.mac_arena.specs.ListsName.{ListsName}
use Rattle.mac_arena.proofs.Entries.{Slots, node_of, get_here}
use Rattle.mac_arena.proofs.Tables.{Found, slot_is, free_seen, entries_seen, first_free_cases, is_entered, is_heard}
use Rattle.mac_arena.proofs.Tables.{is_held as held_there, is_shifted, is_dropped}
use Rattle.mac_arena.proofs.Values.{latest_with, new_is, refreshed_is, moved_is, held_is, held_moves, held_goes}
use Rattle.mac_arena.proofs.Naming.{lists_named}
use Rattle.mac_arena.proofs.Placing.{IsBased, placed}

-- nodes hold the table
record IsHeld (v : Learning) : Type 0 where
  orders : Orders
  slots : Slots
  count : ℕ
  buckets : ℕ
  salt : ℕ
  found : Found orders slots count buckets salt v

held_by : {o : Orders} {slots : Slots} {count buckets salt : ℕ} {v : Learning} → Found o slots count buckets salt v
    → IsHeld v
held_by {o} {slots} {count} {buckets} {salt} found = record {
  orders = o;
  slots = slots;
  count = count;
  buckets = buckets;
  salt = salt;
  found = found;
}

-- ---- steps on one station

module _ (v : Learning) (s : Station) (h : IsHeld v) where
  entered_held : (port : ℕ) → entry_at v s ≡ None → is_full v ≡ false → 0 < port → port ≤ length v.ports
      → IsHeld (entered v s port)
  entered_held port none room some there = go (slice_get h.orders.free 0) refl
    where
      go : (r : Option ℕ) → slice_get h.orders.free 0 ≡ r → IsHeld (entered v s port)
      go None is = absurd (false≢true (sym room ∙ (first_free_cases h.found None (sym is)).1))
      go (Some n) is = held_by (is_entered h.found n (rw (free_seen h.found) at is) s port none some there)

  module _ (e : Entry) (known : entry_at v s ≡ Some e) where
    stood : (n : ℕ) × (learned_at v n ≡ Some (record { station = s; entry = e }))
    stood = (let at = node_of h.slots s e (rw (entries_seen h.found) known) in (at.0, slot_is h.found at.0 ∙ at.1))

    heard_held : (second : ℕ) → e.pinned ≡ true → IsLatest v second → IsHeld (heard v s e.port second)
    heard_held second pinned latest = held_by (is_heard h.found stood.0 stood.1 second pinned latest refl)

    held_held : IsHeld (held v s e.port)
    held_held = held_by (held_there h.found stood.0 stood.1 refl)

    shifted_held : (port : ℕ) → 0 < port → port ≤ length v.ports → IsHeld (shifted v s e port)
    shifted_held port some there = held_by (is_shifted h.found stood.0 stood.1 port some there refl)

    dropped_held : e.pinned ≡ true → IsHeld (dropped v s)
    dropped_held pinned = held_by (is_dropped h.found stood.0 stood.1 pinned)

-- ---- the calls

module _ (v : Learning) (s : Station) (named : ListsName v) (buckets : 0 < length v.chains) (based : IsBased v) where
  h : IsHeld v
  h = held_by (placed v named buckets based)

  named_by : {w : Learning} → IsHeld w → ListsName w
  named_by k = lists_named k.found

  -- a station that isn't learnt is learnt, in a table with room
  new_names : (port second : ℕ) → entry_at v s ≡ None → is_full v ≡ false → 0 < port → port ≤ length v.ports
      → IsLatest v second → ListsName (after_learn v s port second New)
  new_names port second none room some there latest = rw (new_is v s port second) at (named_by
      (heard_held (entered v s port) s (entered_held v s h port none room some there) (pinned_at port)
      (get_here v.entries s (pinned_at port)) second refl
      (latest_with v s (pinned_at port) second latest (omega arith))))

  module _ (e : Entry) (known : entry_at v s ≡ Some e) where
    held' : IsHeld (held v s e.port)
    held' = held_held v s h e known

    here : entry_at (held v s e.port) s ≡ Some (pinned_at e.port)
    here = get_here v.entries s (pinned_at e.port)

    refreshed_names : (port second : ℕ) → e.port ≡ port → IsLatest v second
        → ListsName (after_learn v s port second Refreshed)
    refreshed_names port second same latest = rw (same, refreshed_is v s port second) at (named_by
        (heard_held (held v s e.port) s held' (pinned_at e.port) here second refl
        (latest_with v s (pinned_at e.port) second latest (omega arith))))

    moved_names : (port second : ℕ) → 0 < port → port ≤ length v.ports → IsLatest v second
        → ListsName (after_learn v s port second Moved)
    moved_names port second some there latest =
        let x : Entry = record e { port = port } in
        let t = shifted v s e port in
        rw (moved_is v s e port second) at (named_by
        (heard_held (held t s port) s
        (held_held t s (shifted_held v s h e known port some there) x (get_here v.entries s x))
        (pinned_at port) (get_here t.entries s (pinned_at port)) second refl
        (latest_with t s (pinned_at port) second (latest_with v s x second latest (latest s e known)) (omega arith))))

    pinned_names : (port : ℕ) → 0 < port → port ≤ length v.ports → ListsName (after_pin v s port)
    pinned_names port some there = elim (cases_eq e.port port) [
      | inl same ↦ rw (held_is v s e port known same) at (named_by held')
      | inr other ↦ rw (held_moves v s e port known other) at (named_by
          (shifted_held (held v s e.port) s held' (pinned_at e.port) here port some there))
    ]

    gone_names : ListsName (after_removal v s)
    gone_names = rw (held_goes v s e known) at (named_by
        (dropped_held (held v s e.port) s held' (pinned_at e.port) here refl))

port_in : (port ports : ℕ) → 0 < port → port - 1 < ports → port ≤ ports
port_in port ports some there = omega arith

pub learn_names : (v : Learning) (s : Station) (port second : ℕ) → ListsName v → 0 < length v.chains → IsBased v
    → entry_at v s ≡ None → is_full v ≡ false → 0 < port → port - 1 < length v.ports → IsLatest v second
    → ListsName (after_learn v s port second New)
learn_names v s port second named buckets based none room some there latest =
    new_names v s named buckets based port second none room some (port_in port _ some there) latest

-- one that is learnt is heard again
pub hear_names : (v : Learning) (s : Station) (port second : ℕ) → ListsName v → 0 < length v.chains → IsBased v
    → 0 < port → port - 1 < length v.ports → IsLatest v second → IsSome (entry_at v s)
    → ListsName (after_learn v s port second (learnt_of v s port))
hear_names v s port second named buckets based some there latest known = go (entry_at v s) refl known
  where
    go : (o : Option Entry) → entry_at v s ≡ o → IsSome o → ListsName (after_learn v s port second (learnt_of v s port))
    go None is none = cc
    go (Some e) is known = rw is (elim (cases_Bool e.pinned) [
      | inl p ↦ rw p named
      | inr p ↦ rw p (elim (cases_eq e.port port) [
        | inl same ↦ rw (eq-eqb e.port port same) (refreshed_names v s named buckets based e is port second same latest)
        | inr ne ↦ rw (ne_eqb e.port port ne) (moved_names v s named buckets based e is port second some
            (port_in port _ some there) latest)
      ])
    ])

-- a station is pinned, new to a table with room, or known
pub pin_names : (v : Learning) (s : Station) (port : ℕ) → ListsName v → 0 < length v.chains → IsBased v → 0 < port
    → port - 1 < length v.ports → (entry_at v s ≡ None → is_full v ≡ false)
    → ListsName (after_pin v s port)
pin_names v s port named buckets based some there room = go (entry_at v s) refl
  where
    go : (o : Option Entry) → entry_at v s ≡ o → ListsName (after_pin v s port)
    go None is = rw (is, room is) (lists_named (entered_held v s (h v s named buckets based) port is (room is) some
        (port_in port _ some there)).found)
    go (Some e) is = pinned_names v s named buckets based e is port some (port_in port _ some there)

-- a station goes, known or not
pub removal_names : (v : Learning) (s : Station) → ListsName v → 0 < length v.chains → IsBased v
    → ListsName (after_removal v s)
removal_names v s named buckets based = go (entry_at v s) refl
  where
    go : (o : Option Entry) → entry_at v s ≡ o → ListsName (after_removal v s)
    go None is = rw is named
    go (Some e) is = gone_names v s named buckets based e is
