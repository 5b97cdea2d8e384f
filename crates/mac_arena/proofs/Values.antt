-- steps that follow each other, as callers see them
use Rattle.std.proofs.Common.{ℕ, ◌≤◌, ◌≡◌, ◌≢◌, inl, inr, true, false, cond, Option, Some, None, length}
use Rattle.std.proofs.Common.{ap, sym, ◌∙◌, arith}
use Rattle.std.specs.FinMap.{get-empty, insert}
use Rattle.std.proofs.lemmas.Bool.{eq-eqb, ne_eqb}
use Rattle.std.proofs.lemmas.Option.{none-some, same_Some}
use Rattle.std.proofs.lemmas.List.{length-set, length-map}
use Rattle.mac_arena.specs.declared.station.Station.{Station}
use Rattle.mac_arena.specs.declared.station.Entry.{Entry}
use Rattle.mac_arena.specs.declared.station.Learned.{Learned}
use Rattle.mac_arena.specs.declared.table.Learnt.{Learnt}
use Rattle.mac_arena.specs.declared.table.Learnt.TheVariants.{New, Moved, Refreshed, Pinned, Full}
use Rattle.mac_arena.specs.Station.{station_cmp}
use Rattle.mac_arena.specs.Entry.{pinned_at, heard_at}
use Rattle.mac_arena.specs.Learning.{Learning, nothing_learnt, left, entry_at, learned_of, learned_at, is_full}
use Rattle.mac_arena.specs.Learning.{IsLatest, entered}
use Rattle.mac_arena.specs.Learning.{after_learn, after_pin, after_pin_at, after_removal, after_removal_at}
use Rattle.mac_arena.specs.Inner.Learning.{someone, standing, heard, held, shifted, dropped}
use Rattle.mac_arena.proofs.Entries.{same_or_other, get_here, get_there, gone_here, gone_there, insert_twice}
use Rattle.mac_arena.proofs.Entries.{insert_same, remove_inserted}

-- a station at a place is in the table
learned_known : (t : Learning) (p : Option Station) (x : Learned) → learned_of t p ≡ Some x
    → entry_at t x.station ≡ Some x.entry
learned_known t None x e = cc
learned_known t (Some s) x e = grind arith

pub known_at : (t : Learning) (n : ℕ) (x : Learned) → learned_at t n ≡ Some x → entry_at t x.station ≡ Some x.entry
known_at t n x at = learned_known t _ x at

pub standing_is : (t : Learning) (n : ℕ) (x : Learned) → learned_at t n ≡ Some x → standing t n ≡ x
standing_is t n x at = ap someone at

pub stands : (t : Learning) (n : ℕ) (x : Learned) → learned_at t n ≡ Some x → learned_at t n ≡ Some (standing t n)
stands t n x at = rw at

pub latest_with : (t : Learning) (s : Station) (e : Entry) (second : ℕ) → IsLatest t second → e.last ≤ second
    → IsLatest (record t { entries = insert t.entries s e }) second
latest_with t s e second latest low q a at = elim (same_or_other q s) [
  | inl same ↦ rw (same_Some e a (sym (get_here t.entries s e) ∙ rw same at at)) at low
  | inr ne ↦ latest q a (sym (get_there t.entries s e q ne) ∙ at)
]

-- ---- learning

pub new_is : (t : Learning) (s : Station) (port second : ℕ)
    → heard (entered t s port) s port second ≡ after_learn t s port second New
new_is t s port second = rw insert_twice

pub refreshed_is : (t : Learning) (s : Station) (port second : ℕ)
    → heard (held t s port) s port second ≡ after_learn t s port second Refreshed
refreshed_is t s port second = rw insert_twice

pub moved_is : (t : Learning) (s : Station) (e : Entry) (port second : ℕ)
    → heard (held (shifted t s e port) s port) s port second ≡ after_learn t s port second Moved
moved_is t s e port second = simp insert_twice

-- ---- pinning

-- an entry that is pinned is what pinning on its port makes
pinned_is : (e : Entry) → e.pinned ≡ true → e.last ≡ 0 → e ≡ pinned_at e.port
pinned_is e p l = λ i. record { port = e.port; last = l i; pinned = p i }

pub pinned_stays : (t : Learning) (s : Station) (e : Entry) (port : ℕ) → entry_at t s ≡ Some e → e.pinned ≡ true
    → e.last ≡ 0 → left s t.ageing ≡ t.ageing → e.port ≡ port → t ≡ after_pin t s port
pinned_stays t s e port known p l still same = rw (
  known,
  eq-eqb e.port port same,
  still,
  ← same,
  insert_same t.entries s (pinned_at e.port) (known ∙ ap Some (pinned_is e p l)),
)

pub pinned_moves : (t : Learning) (s : Station) (e : Entry) (port : ℕ) → entry_at t s ≡ Some e → e.pinned ≡ true
    → e.last ≡ 0 → left s t.ageing ≡ t.ageing → e.port ≢ port → shifted t s e port ≡ after_pin t s port
pinned_moves t s e port known p l still other = rw (known, ne_eqb e.port port other, still, p, l)

pub held_is : (t : Learning) (s : Station) (e : Entry) (port : ℕ) → entry_at t s ≡ Some e → e.port ≡ port
    → held t s e.port ≡ after_pin t s port
held_is t s e port known same = rw (known, eq-eqb e.port port same, same)

pub held_moves : (t : Learning) (s : Station) (e : Entry) (port : ℕ) → entry_at t s ≡ Some e → e.port ≢ port
    → shifted (held t s e.port) s (pinned_at e.port) port ≡ after_pin t s port
held_moves t s e port known other = rw (known, ne_eqb e.port port other, insert_twice)

-- ---- removing

pub pinned_goes : (t : Learning) (s : Station) (e : Entry) → entry_at t s ≡ Some e → left s t.ageing ≡ t.ageing
    → dropped t s ≡ after_removal t s
pinned_goes t s e known still = rw (known, still)

pub held_goes : (t : Learning) (s : Station) (e : Entry) → entry_at t s ≡ Some e
    → dropped (held t s e.port) s ≡ after_removal t s
held_goes t s e known = rw (remove_inserted, known)

-- ---- the invariants that each call keeps, for its callers

pub latest_learn : (t : Learning) (s : Station) (port second : ℕ) (answer : Learnt) → IsLatest t second
    → IsLatest (after_learn t s port second answer) second
latest_learn t s port second New h = latest_with t s (heard_at port second) second h (omega arith)
latest_learn t s port second Moved h = latest_with t s (heard_at port second) second h (omega arith)
latest_learn t s port second Refreshed h = latest_with t s (heard_at port second) second h (omega arith)
latest_learn t s port second Pinned h = h
latest_learn t s port second Full h = h

pub latest_pin : (t : Learning) (s : Station) (port second : ℕ) → IsLatest t second
    → IsLatest (after_pin t s port) second
latest_pin t s port second h = elim (entry_at t s) as (λ a. IsLatest (after_pin_at t s port a) second) [
  | None ↦ elim (is_full t) as (λ full. IsLatest (cond full t (entered t s port)) second) [
    | true ↦ h
    | false ↦ latest_with t s (pinned_at port) second h (omega arith)
  ]
  | Some e ↦ latest_with t s (pinned_at port) second h (omega arith)
]

pub latest_removal : (t : Learning) (s : Station) (second : ℕ) → IsLatest t second → IsLatest (after_removal t s) second
latest_removal t s second h = elim (entry_at t s) as (λ a. IsLatest (after_removal_at t s a) second) [
  | None ↦ h
  | Some e ↦ λ q a at. elim (same_or_other q s) [
    | inl same ↦ absurd (none-some a (sym (gone_here t.entries s) ∙ rw same at at))
    | inr ne ↦ h q a (sym (gone_there t.entries s q ne) ∙ at)
  ]
]

pub latest_later : (t : Learning) (second later : ℕ) → second ≤ later → IsLatest t second → IsLatest t later
latest_later t second later more h s e is = (let low = h s e is in omega (arith, low, more))

pub ports_learn : (t : Learning) (s : Station) (port second : ℕ) (answer : Learnt)
    → length (after_learn t s port second answer).ports ≡ length t.ports
ports_learn t s port second answer = grind (arith, length-set, length-map)

pub ports_pin : (t : Learning) (s : Station) (port : ℕ) → length (after_pin t s port).ports ≡ length t.ports
ports_pin t s port = grind (arith, length-set, length-map)

pub ports_removal : (t : Learning) (s : Station) → length (after_removal t s).ports ≡ length t.ports
ports_removal t s = grind (arith, length-map)

pub chains_learn : (t : Learning) (s : Station) (port second : ℕ) (answer : Learnt)
    → length (after_learn t s port second answer).chains ≡ length t.chains
chains_learn t s port second answer = grind (arith, length-set)

pub chains_pin : (t : Learning) (s : Station) (port : ℕ) → length (after_pin t s port).chains ≡ length t.chains
chains_pin t s port = grind (arith, length-set)

pub chains_removal : (t : Learning) (s : Station) → length (after_removal t s).chains ≡ length t.chains
chains_removal t s = grind (arith, length-map)

pub latest_nothing : (capacity ports buckets salt second : ℕ)
    → IsLatest (nothing_learnt capacity ports buckets salt) second
latest_nothing capacity ports buckets salt second s e is =
    absurd (none-some e (sym (get-empty {X = Entry} station_cmp s) ∙ is))
