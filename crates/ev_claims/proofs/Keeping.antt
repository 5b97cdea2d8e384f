-- stations and own registers keep matching each other at every change
use Rattle.std.proofs.Common.{◌≡◌, ◌≢◌, inl, inr, ℕ, ◌+◌, ◌-◌, ◌≤◌, ◌<◌, ◌^◌, Bool, true, false, Option, Some, None}
use Rattle.std.proofs.Common.{Result, Ok, Err, length, refl, sym, ap, subst, ◌∙◌, arith}
use Rattle.std.specs.Prelude.{IsSome, OnOk, OnErr, ◌↔◌, ◌&&◌, nat_le}
use Rattle.std.proofs.lemmas.Bool.{false_from_ne_true}
use Rattle.std.proofs.lemmas.Bool.Decides.{nat_tests}
use Rattle.route_wire.specs.Fields.{Fields}
use Rattle.route_join.specs.declared.table.Taken.{Taken}
use Rattle.route_join.specs.declared.table.TakeError.{TakeError}
use Rattle.std.specs.Option.{option_map}
use Rattle.std.specs.FinMap.{len}
use Rattle.route_wire.specs.declared.update.Key.{Key}
use Rattle.route_wire.specs.declared.update.Key.TheVariants.{Flood, Mac}
use Rattle.route_wire.specs.declared.update.Advert.{Advert}
use Rattle.route_wire.specs.declared.update.Content.{Content}
use Rattle.route_wire.specs.declared.update.Content.TheVariants.{Withdrawn}
use Rattle.mac_arena.specs.declared.station.Station.{Station}
use Rattle.mac_arena.specs.declared.station.Entry.{Entry}
use Rattle.mac_arena.specs.Learning.{Learning, entry_at, is_full, is_pinned, after_learn, answer_of, learnt_of}
use Rattle.mac_arena.specs.Learning.{after_pin as pinned_on, after_removal as gone}
use Rattle.mac_arena.specs.declared.table.Learnt.{Learnt}
use Rattle.mac_arena.specs.declared.table.Learnt.TheVariants.{New}
use Rattle.mac_arena.specs.Entry.{pinned_at, heard_at}
use Rattle.mac_arena.proofs.Entries.{same_or_other, get_here, get_there}
use Rattle.mac_arena.proofs.Values.{ports_removal}
use Rattle.ev_claims.specs.declared.speaker.OwnError.{OwnError}
use Rattle.ev_claims.specs.declared.speaker.OwnError.TheVariants.{Ahead, Spent}
use Rattle.ev_claims.specs.Speaker.{Speaker, own_advert, KeepsNumbers, after_originating, after_importing}
use Rattle.ev_claims.specs.Speaker.{after_importing_own}
use Rattle.ev_claims.specs.Speaker.{is_ahead, is_spent, is_returning}
use Rattle.ev_claims.specs.LocalRoutes.{LocalRoutes, KeepsRoutes, key_of, entries, capacity, vni_at, moving, fixed}
use Rattle.ev_claims.specs.LocalRoutes.{after_removal}
use Rattle.ev_claims.proofs.Numbers.{own_same, key_stays, own_stays}
use Rattle.ev_claims.proofs.Hearing.{own_said, own_counter}
use Rattle.ev_claims.proofs.Learnt.{Sets, sets_new, sets_refresh, sets_pin, size_new, size_known, room_left, size_gone}
use Rattle.ev_claims.proofs.Learnt.{same_station, removal_here, removal_there, removal_places}

abbrev pins : Option Entry → Option Bool
pins o = option_map (λ (x : Entry). x.pinned) o

abbrev fixes : Option Advert → Option Bool
fixes o = option_map (λ (a : Advert). a.is_static) o

-- ---- other adverts than the edge's own change, and the counter

pub spoken_routes : (e : LocalRoutes) (v : Speaker) → KeepsRoutes e
    → ((k : Key) → own_advert v k ≡ own_advert e.speaker k)
    → v.counter + entries e ≤ 2 ^ 63 + capacity e → KeepsRoutes (record e { speaker = v })
spoken_routes e v h same left = record {
  kinds = λ s. h.kinds s ∙ rw (same (key_of s));
  bare = λ s ip. same (Mac s.vni s.mac (Some ip)) ∙ h.bare s ip;
  ports = h.ports;
  floods = λ n. (
    λ p. (h.floods n).0 (rw (same (Flood n)) at p),
    λ q. rw (same (Flood n)) ((h.floods n).1 q),
  );
  fits = h.fits;
  small = h.small;
  left = left;
  lists = h.lists;
  few = h.few;
}

-- ---- a station is set, and said

key_apart : {r s : Station} → r ≢ s → key_of r ≢ key_of s
key_apart {r} {s} ne e = ne (same_station e)

-- the station has this entry, and is advertised with it; no other advert is new
pub record Enters (e : LocalRoutes) (t : Learning) (v : Speaker) (s : Station) (x : Entry) : Type 0 where
  pub sets : Sets e.learned t s x
  pub port : vni_at e.ports x.port ≡ Some s.vni
  pub kind : Some x.pinned ≡ fixes (own_advert v (key_of s))
  pub others : (k : Key) → k ≢ key_of s → own_advert v k ≡ own_advert e.speaker k
  pub fits : len t.entries ≤ capacity e
  pub left : v.counter + len t.entries ≤ 2 ^ 63 + capacity e

entry_here : {e : LocalRoutes} {t : Learning} {v : Speaker} {s : Station} {x : Entry} → Enters e t v s x
    → entry_at t s ≡ Some x
entry_here {e} {s} {x} h = (rw h.sets.entries) ∙ get_here e.learned.entries s x

entry_there : {e : LocalRoutes} {t : Learning} {v : Speaker} {s : Station} {x : Entry} → Enters e t v s x
    → (r : Station)
    → r ≢ s → entry_at t r ≡ entry_at e.learned r
entry_there {e} {s} {x} h r ne = (rw h.sets.entries) ∙ get_there e.learned.entries s x r ne

pub entered_routes : {e : LocalRoutes} {t : Learning} {v : Speaker} {s : Station} {x : Entry} → KeepsRoutes e
    → Enters e t v s x → KeepsRoutes (record e { learned = t; speaker = v })
entered_routes {e} {t} {v} {s} {x} h n = record {
  kinds = λ r. elim (same_or_other r s) [
    | inl is ↦ rw is ((rw (entry_here n)) ∙ n.kind)
    | inr ne ↦ (rw (entry_there n r ne)) ∙ h.kinds r
        ∙ rw (n.others (key_of r) (key_apart ne))
  ];
  bare = λ r ip. n.others (Mac r.vni r.mac (Some ip)) (λ q. cc) ∙ h.bare r ip;
  ports = λ r y at. elim (same_or_other r s) [
    | inl same ↦
        let mine = sym (entry_here n) ∙ subst (λ q. entry_at t q ≡ Some y) same at in
        let is : x ≡ y = cc in
        rw is at (n.port
        ∙ ap (λ (q : Station). Some q.vni) (sym same))
    | inr ne ↦ h.ports r y (sym (entry_there n r ne) ∙ at)
  ];
  floods = λ w. let same = n.others (Flood w) (λ q. cc) in
      (λ p. (h.floods w).0 (rw same at p), λ q. rw same ((h.floods w).1 q));
  fits = omega (arith, n.sets.places, n.fits);
  small = omega (arith, n.sets.places, h.small);
  left = omega (arith, n.sets.places, n.left);
  lists = n.sets.ports ∙ h.lists;
  few = h.few;
}

-- ---- a station goes, and is withdrawn

pub removal_routes : (e : LocalRoutes) (s : Station) (x : Entry) → entry_at e.learned s ≡ Some x → KeepsRoutes e
    → KeepsRoutes (after_removal e s)
removal_routes e s x known h = record {
  kinds = λ r. elim (same_or_other r s) [
    | inl is ↦ rw is (rw (removal_here e.learned s, own_same e.speaker (key_of s) Withdrawn))
    | inr ne ↦ (rw (removal_there e.learned s r ne)) ∙ h.kinds r
        ∙ rw (stays (key_of r) (key_apart ne))
  ];
  bare = λ r ip. stays (Mac r.vni r.mac (Some ip)) (λ q. cc) ∙ h.bare r ip;
  ports = λ r y at. elim (same_or_other r s) [
    | inl same ↦ absurd (cc (subst (λ q. entry_at (gone e.learned s) q ≡ Some y) same at, removal_here e.learned s))
    | inr ne ↦ h.ports r y (sym (removal_there e.learned s r ne) ∙ at)
  ];
  floods = λ w. (
    λ p. (h.floods w).0 (rw (stays (Flood w) (λ q. cc)) at p),
    λ q. rw (stays (Flood w) (λ q. cc)) ((h.floods w).1 q),
  );
  fits = omega (arith, places, size, h.fits);
  small = omega (arith, places, h.small);
  left = omega (arith, places, size, h.left);
  lists = ports_removal e.learned s ∙ h.lists;
  few = h.few;
}
  where
    v : Speaker
    v = after_originating e.speaker (key_of s) Withdrawn

    stays : (k : Key) → k ≢ key_of s → own_advert (after_originating e.speaker (key_of s) Withdrawn) k
        ≡ own_advert e.speaker k
    stays k ne = key_stays e.speaker (key_of s) Withdrawn k e.speaker.address ne

    places : length (gone e.learned s).places ≡ length e.learned.places
    places = removal_places e.learned s

    size : len (gone e.learned s).entries + 1 ≡ len e.learned.entries
    size = size_gone e.learned s x known

-- a station that is learnt is advertised, and its withdrawal finds a number
pub known_advert : {e : LocalRoutes} (s : Station) → KeepsRoutes e → IsSome (entry_at e.learned s)
    → IsSome (own_advert e.speaker (key_of s))
known_advert {e} s h there = go (entry_at e.learned s) (own_advert e.speaker (key_of s)) (h.kinds s) there
  where
    go : (o : Option Entry) (a : Option Advert) → pins o ≡ fixes a → IsSome o → IsSome a
    go None a same some = cc
    go (Some x) None same some = absurd (cc (same))
    go (Some x) (Some a) same some = refl

pub number_left : {e : LocalRoutes} → KeepsRoutes e → 0 < entries e → e.speaker.counter + 1 < 2 ^ 64
number_left h more = omega (arith, h.left, h.small, more)

pub known_entry : (e : LocalRoutes) (s : Station) → IsSome (entry_at e.learned s)
    → (x : Entry) × (entry_at e.learned s ≡ Some x)
known_entry e s there = go (entry_at e.learned s) refl there
  where
    go : (o : Option Entry) → entry_at e.learned s ≡ o → IsSome o → (x : Entry) × (entry_at e.learned s ≡ Some x)
    go None is some = cc
    go (Some x) is some = (x, is)

-- ---- each change in turn

new_answer : (t : Learning) (s : Station) (port : ℕ) → entry_at t s ≡ None → is_full t ≡ false
    → learnt_of t s port ≡ New
new_answer t s port none room = λ i. answer_of (none i) (room i) port

said_others : (e : Speaker) (s : Station) (c : Content) (k : Key) → k ≢ key_of s
    → own_advert (after_originating e (key_of s) c) k ≡ own_advert e k
said_others e s c k ne = key_stays e (key_of s) c k e.address ne

pub advert_routes : (e : LocalRoutes) (t : Learning) (v : Speaker) (s : Station) (port second n : ℕ) (a : Learnt)
    → KeepsRoutes e → entry_at e.learned s ≡ None → is_full e.learned ≡ false → e.speaker.counter < 2 ^ 63
    → vni_at e.ports port ≡ Some s.vni
    → t ≡ after_learn e.learned s port second a → a ≡ learnt_of e.learned s port
    → v ≡ after_originating e.speaker (key_of s) (moving n) → KeepsRoutes (record e { learned = t; speaker = v })
advert_routes e t v s port second n a h none room number behind t_is a_is v_is =
    subst (λ (q : LocalRoutes). KeepsRoutes q) (λ i. record e { learned = sym whole i; speaker = sym v_is i })
    (entered_routes h (record {
      sets = sets;
      port = behind;
      kind = rw (own_same e.speaker (key_of s) (moving n));
      others = said_others e.speaker s (moving n);
      fits = omega (arith, size, room_left e.learned h.fits room);
      left = omega (arith, size, room_left e.learned h.fits room, number);
    }))
  where
    whole : t ≡ after_learn e.learned s port second New
    whole = t_is ∙ rw (a_is ∙ new_answer e.learned s port none room)

    sets : Sets e.learned (after_learn e.learned s port second New) s (heard_at port second)
    sets = sets_new e.learned s port second

    size : len (after_learn e.learned s port second New).entries ≡ len e.learned.entries + 1
    size = size_new e.learned (after_learn e.learned s port second New) s (heard_at port second) sets.entries none

-- whether a station that is learnt is pinned
pinned_is : {o : Option Entry} {x : Entry} {b : Bool} → o ≡ Some x → is_pinned o ≡ b → x.pinned ≡ b
pinned_is is pinned = (rw is) ∙ pinned

pub refresh_routes : (e : LocalRoutes) (t : Learning) (s : Station) (port second : ℕ) (a : Learnt) → KeepsRoutes e
    → IsSome (entry_at e.learned s) → is_pinned (entry_at e.learned s) ≡ false → vni_at e.ports port ≡ Some s.vni
    → t ≡ after_learn e.learned s port second a → a ≡ learnt_of e.learned s port
    → KeepsRoutes (record e { learned = t })
refresh_routes e t s port second a h there loose behind t_is a_is = go (known_entry e s there)
  where
    whole : t ≡ after_learn e.learned s port second (learnt_of e.learned s port)
    whole = t_is ∙ ap (after_learn e.learned s port second) a_is

    go : (x : Entry) × (entry_at e.learned s ≡ Some x) → KeepsRoutes (record e { learned = t })
    go (x, known) =
        let free = pinned_is known loose in
        let sets = sets_refresh port second known free in
        let size = size_known e.learned (after_learn e.learned s port second (learnt_of e.learned s port)) s
        (heard_at port second) sets.entries known in
        rw whole (entered_routes h (record {
          sets = sets;
          port = behind;
          kind = ap Some (sym free) ∙ ap pins (sym known) ∙ h.kinds s;
          others = λ k ne. refl;
          fits = omega (arith, size, h.fits);
          left = omega (arith, size, h.left);
        }))

-- how many stations are learnt after one was pinned
pin_size : {e : LocalRoutes} (s : Station) (port : ℕ) → KeepsRoutes e
    → (entry_at e.learned s ≡ None → is_full e.learned ≡ false) → len (pinned_on e.learned s port).entries ≤ capacity e
pin_size {e} s port h room = go (entry_at e.learned s) refl
  where
    sets : Sets e.learned (pinned_on e.learned s port) s (pinned_at port)
    sets = sets_pin e.learned s port room

    go : (o : Option Entry) → entry_at e.learned s ≡ o → len (pinned_on e.learned s port).entries ≤ capacity e
    go None none = omega (
      arith,
      size_new e.learned (pinned_on e.learned s port) s
          (pinned_at port) sets.entries none,
      room_left e.learned h.fits (room none),
    )
    go (Some x) known = omega (
      arith,
      size_known e.learned (pinned_on e.learned s port) s (pinned_at port) sets.entries known,
      h.fits,
    )

pub pin_routes : (e : LocalRoutes) (t : Learning) (v : Speaker) (s : Station) (port : ℕ) → KeepsRoutes e
    → (entry_at e.learned s ≡ None → is_full e.learned ≡ false) → e.speaker.counter < 2 ^ 63
    → vni_at e.ports port ≡ Some s.vni
    → t ≡ pinned_on e.learned s port → v ≡ after_originating e.speaker (key_of s) fixed
    → KeepsRoutes (record e { learned = t; speaker = v })
pin_routes e t v s port h room number behind t_is v_is =
    subst (λ (q : LocalRoutes). KeepsRoutes q) (λ i. record e { learned = sym t_is i; speaker = sym v_is i })
    (entered_routes h
    (record {
      sets = sets_pin e.learned s port room;
      port = behind;
      kind = rw (own_same e.speaker (key_of s) fixed);
      others = said_others e.speaker s fixed;
      fits = pin_size s port h room;
      left = omega (arith, pin_size s port h room, number);
    }))

pub shift_routes : (e : LocalRoutes) (t : Learning) (s : Station) (port : ℕ) → KeepsRoutes e
    → is_pinned (entry_at e.learned s) ≡ true → vni_at e.ports port ≡ Some s.vni → t ≡ pinned_on e.learned s port
    → KeepsRoutes (record e { learned = t })
shift_routes e t s port h pinned behind t_is = go (entry_at e.learned s) refl
  where
    go : (o : Option Entry) → entry_at e.learned s ≡ o → KeepsRoutes (record e { learned = t })
    go None none = absurd (cc (ap is_pinned (sym none) ∙ pinned))
    go (Some x) known =
        let sets = sets_pin e.learned s port (λ none. absurd (cc (sym none ∙ known))) in
        let size = size_known e.learned (pinned_on e.learned s port) s (pinned_at port) sets.entries known in
        rw t_is (entered_routes h (record {
          sets = sets;
          port = behind;
          kind = ap Some (sym (pinned_is known pinned)) ∙ ap pins (sym known) ∙ h.kinds s;
          others = λ k ne. refl;
          fits = omega (arith, size, h.fits);
          left = omega (arith, size, h.left);
        }))

-- another's update, or an own one of an earlier incarnation
pub heard_routes : {e : LocalRoutes} {v : Speaker} (u : Fields) (r : Result Taken TakeError)
    → u.register.originator ≢ e.speaker.address → KeepsRoutes e → OnOk r (v ≡ after_importing e.speaker u)
    → OnErr r (v ≡ e.speaker) → KeepsRoutes (record e { speaker = v })
heard_routes {e} u (Ok x) other h ok err = rw ok (spoken_routes e (after_importing e.speaker u) h (λ k. rw
    (own_stays e.speaker u other k)) h.left)
heard_routes u (Err x) other h ok err = rw err h

pub own_routes : (e : LocalRoutes) (v : Speaker) (u : Fields) (r : Result Taken OwnError)
    → u.register.originator ≡ e.speaker.address → KeepsNumbers e.speaker → KeepsRoutes e
    → OnOk r (v ≡ after_importing_own e.speaker u) → OnErr r (v ≡ e.speaker) → (r ≡ Err Ahead)
    ↔ (is_ahead e.speaker u ≡ true)
    → (r ≡ Err Spent) ↔ (is_spent e.speaker u ≡ true) → KeepsRoutes (record e { speaker = v })
own_routes e v u (Err x) mine n h ok err ahead spent = rw err h
own_routes e v u (Ok x) mine n h ok err ahead spent = rw ok (spoken_routes e (after_importing_own e.speaker u) h
    (own_said e.speaker u n mine
    (false_from_ne_true (is_ahead e.speaker u) (λ t. cc (ahead.1 t)))) bound)
  where
    few : is_returning e.speaker u ≡ true → e.speaker.counter + 1 ≤ 2 ^ 63
    few back =
        let room = sym
        (ap (λ b. b && nat_le (2 ^ 63) e.speaker.counter) back)
        ∙ (false_from_ne_true (is_spent e.speaker u) (λ t. cc (spent.1 t))) in
        grind (arith, nat_tests)

    bound : (after_importing_own e.speaker u).counter + entries e ≤ 2 ^ 63 + capacity e
    bound =
        omega (
          arith,
          (own_counter e.speaker u (2 ^ 63 + capacity e - entries e) (λ back. omega
              (arith, few back, h.fits)) (omega (arith, h.left))),
          h.left,
        )
