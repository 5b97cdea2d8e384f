-- The effect of each step on a set of registers at an edge: the registers of a station, or all others.
use Rattle.std.proofs.Common.{◌≡◌, ◌≢◌, ◌⊎◌, inl, inr, ℕ, zero, suc, ◌<◌, ◌≤◌, Bool, true, false, cond, Option, Some}
use Rattle.std.proofs.Common.{None, List, [], ◌∷◌, ◌++◌, refl, sym, ap, ◌∙◌, arith}
use Rattle.std.proofs.lemmas.Bool.{cases_Bool, cases_eq, and_parts, false_from_ne_true}
use Rattle.std.proofs.lemmas.List.{append-nil}
use Rattle.std.proofs.lemmas.List.Elements.{filter-append, Contains-push_cases, All-contains, All-filter}
use Rattle.std.proofs.lemmas.List.Elements.{All-contains_itself, filter_passes}
use Rattle.std.specs.Prelude.{Contains, IsSome, is_some, not}
use Rattle.std.specs.List.{filter}
use Rattle.route_wire.specs.declared.update.Ip.{Ip}
use Rattle.route_wire.specs.declared.update.Key.{Key}
use Rattle.route_wire.specs.declared.update.Key.TheVariants.{Flood, Mac}
use Rattle.route_wire.specs.declared.update.Register.{Register}
use Rattle.route_wire.specs.declared.update.Advert.{Advert}
use Rattle.route_wire.specs.declared.update.Content.{Content}
use Rattle.route_wire.specs.declared.update.Content.TheVariants.{Withdrawn, Advert as Advertised}
use Rattle.route_wire.specs.declared.update.Value.{Value}
use Rattle.route_wire.specs.Fields.{Fields, flood_advert}
use Rattle.route_join.specs.Table.{value_at, is_news, register_of}
use Rattle.route_join.specs.Owner.{is_about, advert_in, advert_of, owner}
use Rattle.route_join.proofs.Tables.{at_other}
use Rattle.route_join.proofs.Joins.{update_other}
use Rattle.mac_arena.specs.declared.station.Station.{Station}
use Rattle.ev_claims.specs.Pending.{marked}
use Rattle.ev_claims.specs.Speaker.{Speaker, KeepsNumbers, own_register, own, own_advert, is_at, is_newest, next_value}
use Rattle.ev_claims.specs.Speaker.{after_originating, after_importing}
use Rattle.ev_claims.specs.LocalRoutes.{LocalRoutes, key_of, after_update, after_removal}
use Rattle.ev_claims.specs.Opening.{after_floods}
use Rattle.ev_claims.proofs.Numbers.{own_same, own_other, said_joins}
use Rattle.ev_edge.specs.Edge.{OwnsAt}
use Rattle.ev_fabric.specs.Fabric.{Fabric}
use Rattle.ev_fabric.specs.Sound.{IsSound}
use Rattle.ev_fabric.specs.ConvergenceEdge.{comes_back}
use Rattle.ev_fabric.specs.Station.{is_of}
use Rattle.ev_fabric.proofs.Voices.{Talks, Quiet, Says, talks_numbers, talks_one, is_bare, marked_cases}
use Rattle.ev_fabric.proofs.Stations.{about_station, station_key}
use Rattle.ev_fabric.proofs.Agreements.{none_pending}
use Rattle.ev_fabric.proofs.ConvergingEdge.{Accepts, heard, heard_by, heard_later}
use Rattle.ev_fabric.proofs.ConvergingEdge.{others_stay_away, news_stay, comes, quieter}
use Rattle.ev_fabric.proofs.ConvergingMoves.{Taking}
use Rattle.ev_fabric.proofs.ConvergingIdle.{idle_hearing}
use Rattle.ev_fabric.proofs.ConvergingEdge.{Loses, hear_cases, advert_kept, advert_stays, idle_away}
use Rattle.route_wire.proofs.Feeding.{never as not_both}

pub some_in : (c : Option Advert) → IsSome c → (x : Advert) × (c ≡ Some x)
some_in (Some x) is = (x, refl)
some_in None is = cc

-- ---- the elements of a list that pass a test

pub filter_none : {X : Type 0} (p : X → Bool) (xs : List X) → ((x : X) → Contains xs x → p x ≡ true → ⊥)
    → filter p xs ≡ []
filter_none p [] none = refl
filter_none p (x ∷ xs) none = rw (
  false_from_ne_true (p x) (none x (0, omega arith, refl)),
  filter_none p xs (λ y in'. none y (suc in'.0, omega (arith, in'.1), in'.2)),
)

pub filter_has : {X : Type 0} (p : X → Bool) (xs : List X) (x : X) → p x ≡ true → Contains xs x
    → Contains (filter p xs) x
filter_has p [] x yes' (k, lt, is) = absurd (omega arith)
filter_has p (y ∷ ys) x yes' (zero, lt, is) = rw (ap p is ∙ yes') (0, omega arith, is)
filter_has p (y ∷ ys) x yes' (suc k, lt, is) = let rest = filter_has p ys x yes' (k, omega arith, is) in
    elim (p y) as (λ b. Contains (cond b (y ∷ filter p ys) (filter p ys)) x) [
      | true ↦ (suc rest.0, omega (arith, rest.1), rest.2)
      | false ↦ rest
    ]

-- which is one of the list, and passes
pub filter_from : {X : Type 0} (p : X → Bool) (xs : List X) (x : X) → Contains (filter p xs) x
    → Contains xs x × (p x ≡ true)
filter_from p xs x in' = (
  All-contains (Contains xs) (filter p xs) x (All-filter p (Contains xs) xs (All-contains_itself xs)) in',
  All-contains (λ y. p y ≡ true) (filter p xs) x (filter_passes p xs) in',
)

pub filter_push : {X : Type 0} (p : X → Bool) (xs : List X) (x : X) → p x ≡ true
    → filter p (xs ++ x ∷ []) ≡ filter p xs ++ x ∷ []
filter_push p xs x e = filter-append p xs (x ∷ []) ∙ ap (λ b. filter p xs ++ cond b (x ∷ []) []) e

pub filter_past : {X : Type 0} (p : X → Bool) (xs : List X) (x : X) → p x ≡ false
    → filter p (xs ++ x ∷ []) ≡ filter p xs
filter_past p xs x e = filter-append p xs (x ∷ []) ∙ ap (λ b. filter p xs ++ cond b (x ∷ []) []) e
    ∙ append-nil (filter p xs)

-- the update is of a register of the station
abbrev pub on : Station → Fields → Bool
on s u = is_of s u.register

-- ---- pending registers of a set

abbrev pub waits_of : (Register → Bool) → Speaker → List Register
waits_of these e = filter these e.pending

abbrev pub waiting : Station → Speaker → List Register
waiting s e = waits_of (is_of s) e

marked_other : (these : Register → Bool) (rs : List Register) (r : Register) → these r ≡ false
    → filter these (marked rs r) ≡ filter these rs
marked_other these rs r other = elim (marked_cases rs r) [
  | inl h ↦ ap (filter these) h.1
  | inr h ↦ rw h.1 (filter_past these rs r other)
]

pub marked_first : (s : Station) (rs : List Register) (r : Register) → filter (is_of s) rs ≡ [] → is_of s r ≡ true
    → filter (is_of s) (marked rs r) ≡ r ∷ []
marked_first s rs r none mine = elim (marked_cases rs r) [
  | inl h ↦ absurd (none_pending (rw none at (filter_has (is_of s) rs r mine h.0)))
  | inr h ↦ rw h.1 (filter_push (is_of s) rs r mine ∙ ap (λ l. l ++ r ∷ []) none)
]

-- ---- unchanged: all that an edge has of a set, and has to announce of it

pub record SameOn (these : Register → Bool) (e v : Speaker) : Type 0 where
  pub address : v.address ≡ e.address
  pub incarnation : v.incarnation ≡ e.incarnation
  pub values : (r : Register) → these r ≡ true → value_at v.table r ≡ value_at e.table r
  pub waits : waits_of these v ≡ waits_of these e

abbrev pub SameOf : Station → Speaker → Speaker → Type 0
SameOf s e v = SameOn (is_of s) e v

same_itself : (these : Register → Bool) (e : Speaker) → SameOn these e e
same_itself these e = assumption

same_trans : {these : Register → Bool} {e v w : Speaker} → SameOn these e v → SameOn these v w → SameOn these e w
same_trans h g = record {
  address = g.address ∙ h.address;
  incarnation = g.incarnation ∙ h.incarnation;
  values = λ r of. g.values r of ∙ h.values r of;
  waits = g.waits ∙ h.waits;
}

pub same_own : (s : Station) {e v : Speaker} → SameOf s e v → own v (key_of s) ≡ own e (key_of s)
same_own s {e} h = rw h.address (h.values (own_register e (key_of s)) (about_station s None))

pub same_newest : {these : Register → Bool} {e v : Speaker} (w : Fields) → SameOn these e v → these w.register ≡ true
    → is_newest v w ≡ is_newest e w
same_newest w h of = rw (h.values w.register of)

-- an own update of something else
pub says_other : (these : Register → Bool) (e : Speaker) (k : Key) (c : Content) → these (own_register e k) ≡ false
    → SameOn these e (after_originating e k c)
says_other these e k c other = record {
  address = refl;
  incarnation = refl;
  values = λ r of. at_other e.table (own_register e k) (next_value e c) r
      (λ same. not_both (rw (← same) of) other);
  waits = marked_other these e.pending (own_register e k) other;
}

pub floods_same : (s : Station) (e : Speaker) (vs : List ℕ) → SameOf s e (after_floods e vs)
floods_same s e [] = same_itself (is_of s) e
floods_same s e (v ∷ vs) =
    same_trans
    (says_other (is_of s) e (Flood v) (Advertised flood_advert) refl)
    (floods_same s (after_originating e (Flood v) (Advertised flood_advert)) vs)

-- ---- own updates of an edge

talk_counter : {e v : Speaker} → Talks e v → e.counter ≤ v.counter
talk_counter Quiet = omega arith
talk_counter (Says v k c bare t) = omega (arith, talk_counter t)

-- a value that was no news is still no news after an own update
pub said_news : {e : Speaker} (k : Key) (c : Content) → KeepsNumbers e → (u : Fields) → is_newest e u ≡ false
    → is_newest (after_originating e k c) u ≡ false
said_news {e} k c h u old = ap (λ t. is_news (value_at t u.register) u.value) (sym (said_joins e k c h))
    ∙ news_stay e.table (record { register = own_register e k; value = next_value e c }) u.register u.value old

pub talks_news : {e v : Speaker} → Talks e v → KeepsNumbers e → (u : Fields) → is_newest e u ≡ false
    → is_newest v u ≡ false
talks_news Quiet h u old = old
talks_news (Says v k c bare t) h u old = said_news k c (talks_numbers t h) u (talks_news t h u old)

-- Own updates about a station: its register has a value under a number above all earlier ones, and is pending if
-- nothing of the station was.
pub record Spoke (s : Station) (e v : Speaker) : Type 0 where
  pub address : v.address ≡ e.address
  pub value : Value
  pub there : own v (key_of s) ≡ Some value
  pub present : value.incarnation ≡ e.incarnation
  pub more : e.counter < value.counter
  pub waits : waiting s e ≡ [] → waiting s v ≡ own_register e (key_of s) ∷ []

bare_key : (s : Station) (k : Key) → is_bare k ≡ true → is_about s.vni s.mac k ≡ true → k ≡ key_of s
bare_key s k bare mine = let ip = station_key s k mine in go ip.0 ip.1
  where
    go : (ip : Option Ip) → k ≡ Mac s.vni s.mac ip → k ≡ key_of s
    go None is = is
    go (Some ip) is = cc (ap is_bare (sym is))

marked_again : (s : Station) (rs : List Register) (r : Register) → filter (is_of s) rs ≡ r ∷ []
    → filter (is_of s) (marked rs r) ≡ r ∷ []
marked_again s rs r waits = elim (marked_cases rs r) [
  | inl h ↦ ap (filter (is_of s)) h.1 ∙ waits
  | inr h ↦ absurd (h.0 (filter_from (is_of s) rs r (rw waits (0, omega arith, refl))).0)
]

pub speaks : (s : Station) {e v : Speaker} → Talks e v → SameOf s e v ⊎ Spoke s e v
speaks s {e} Quiet = inl (same_itself (is_of s) e)
speaks s {e} (Says v k c bare t) = elim (cases_Bool (is_about s.vni s.mac k)) [
  | inl mine ↦
      let one = talks_one t in
      let key = bare_key s k bare mine in
      let register : own_register v k ≡ own_register e (key_of s) = λ n. register_of (one.address n) (key n) in
      inr (record {
        address = one.address;
        value = next_value v c;
        there = rw (← key) (own_same v k c);
        present = one.incarnation;
        more = omega (arith, talk_counter t);
        waits = λ none. rw register (elim (speaks s t) [
          | inl h ↦ marked_first s v.pending (own_register e (key_of s)) (h.waits ∙ none) (about_station s None)
          | inr h ↦ marked_again s v.pending (own_register e (key_of s)) (h.waits none)
        ]);
      })
  | inr other ↦ elim (speaks s t) [
    | inl h ↦ inl (same_trans h (says_other (is_of s) v k c other))
    | inr h ↦ inr (record {
      address = h.address;
      value = h.value;
      there = own_other v k c (key_of s) (λ same. not_both (rw (← same) (about_station s None)) other) ∙ h.there;
      present = h.present;
      more = h.more;
      waits = λ none. marked_other (is_of s) v.pending (own_register v k) other ∙ h.waits none;
    })
  ]
]

-- own updates that keep the edge's own registers of the station keep all it has of the station
pub left_same : (s : Station) {e v : Speaker} → Talks e v → KeepsNumbers e
    → ((ip : Option Ip) → own v (Mac s.vni s.mac ip) ≡ own e (Mac s.vni s.mac ip)) → SameOf s e v
left_same s t n same = elim (speaks s t) [
  | inl h ↦ h
  | inr h ↦ absurd (omega (arith, n.counted (key_of s) h.value (sym (same None) ∙ h.there) h.present, h.more))
]

-- ---- an update of something else

-- a register of a station is of the set, or not, with each other register of the station
abbrev pub AreWhole : (Register → Bool) → Type 0
AreWhole these = (r : Register) (o v m : ℕ) (ip : Option Ip) → r.key ≡ Mac v m ip
    → these r ≡ these (register_of o (Mac v m None))

pub whole_station : (s : Station) → AreWhole (is_of s)
whole_station s r o v m ip key = ap (is_about s.vni s.mac) key

pub heard_other : (these : Register → Bool) → AreWhole these → (c : LocalRoutes) (w : Fields)
    → these w.register ≡ false → SameOn these c.speaker (heard c w).speaker
heard_other these whole c w other = elim (cases_Bool (comes_back c.speaker w)) [
  | inl is ↦ heard_by (λ d. SameOn these c.speaker d.speaker) c w
      (λ b. says_other these c.speaker w.register.key Withdrawn
      (ap these (λ n. register_of (sym (comes c.speaker w is).mine n) w.register.key) ∙ other))
      (λ st foreign lost. absurd (not_both is (others_stay_away c.speaker w foreign)))
      (λ never. absurd (not_both is never))
  | inr is ↦ elim (hear_cases c w is) [
    | inl h ↦ rw h hearing
    | inr h ↦ rw h.is (same_trans hearing (says_other these (after_importing c.speaker w) (key_of h.station) Withdrawn
        (sym (whole w.register c.speaker.address h.station.vni h.station.mac h.ip h.key) ∙ other)))
  ]
]
  where
    hearing : SameOn these c.speaker (after_importing c.speaker w)
    hearing = record {
      address = refl;
      incarnation = refl;
      values = λ r of. update_other c.speaker.table w.register w.value r (λ same. not_both (rw (← same) of) other);
      waits = refl;
    }

-- ---- the edges of a move

-- each update of the station in the pool is known, or new
abbrev Known : List Fields → List Fields → Station → Speaker → Type 0
Known pool extra s e = (w : Fields) → Contains pool w → is_of s w.register ≡ true
    → (is_newest e w ≡ false) ⊎ Contains extra w

-- One of the two edges of a move, of the address o: these of its registers of the station are pending, and this holds
-- of its own value of the station.
pub record HasPart (pool extra : List Fields) (s : Station) (o : ℕ) (rs : List Register) (Own : Option Value → Type 0)
    (e : Speaker) : Type 0 where
  pub name : e.address ≡ o
  pub own_is : Own (own e (key_of s))
  pub waits : waiting s e ≡ rs
  pub known : Known pool extra s e

-- it has the own value v, or it advertises the station or not
abbrev pub HasOwn : Value → Option Value → Type 0
HasOwn v o = o ≡ Some v

abbrev pub Speaks : Bool → Option Value → Type 0
Speaks says o = is_some (advert_of o) ≡ says

-- any other edge: it advertises none of these registers, and no own advert of them comes back
pub record HasNone (pool : List Fields) (these : Register → Bool) (e : Speaker) : Type 0 where
  pub quiet : (r : Register) → these r ≡ true → r.originator ≡ e.address → advert_of (value_at e.table r) ≡ None
  pub waits : waits_of these e ≡ []
  pub away : (w : Fields) → Contains pool w → these w.register ≡ true → w.register.originator ≡ e.address
      → (is_newest e w ≡ false) ⊎ (advert_in w.value.content ≡ None)

abbrev pub IsAside : List Fields → Station → Speaker → Type 0
IsAside pool s e = HasNone pool (is_of s) e

pub aside_quiet : {pool : List Fields} (s : Station) {e : Speaker} → IsAside pool s e → own_advert e (key_of s) ≡ None
aside_quiet s {e} h = h.quiet (own_register e (key_of s)) (about_station s None) refl

pub aside_same : {pool : List Fields} {these : Register → Bool} {e v : Speaker} → SameOn these e v
    → HasNone pool these e → HasNone pool these v
aside_same h t = record {
  quiet = λ r of mine. rw (h.values r of) (t.quiet r of (mine ∙ h.address));
  waits = h.waits ∙ t.waits;
  away = λ w in' of mine. elim (t.away w in' of (mine ∙ h.address)) [
    | inl old ↦ inl (same_newest w h of ∙ old)
    | inr none ↦ inr none
  ];
}

-- an announcement of something else
pub quieter_same : (these : Register → Bool) (c : LocalRoutes) {r : Register} {rs : List Register}
    → c.speaker.pending ≡ r ∷ rs → these r ≡ false → SameOn these c.speaker (quieter c rs).speaker
quieter_same these c {r} {rs} pend other = record {
  address = refl;
  incarnation = refl;
  values = λ q of. refl;
  waits = sym (ap (filter these) pend ∙ ap (λ b. cond b (r ∷ filter these rs) (filter these rs)) other);
}

pub aside_push : {pool : List Fields} {these : Register → Bool} {e : Speaker} (w : Fields)
    → (these w.register ≡ true → w.register.originator ≢ e.address) → HasNone pool these e
    → HasNone (pool ++ w ∷ []) these e
aside_push {pool} w other t = record {
  quiet = t.quiet;
  waits = t.waits;
  away = λ z in' of mine. elim (Contains-push_cases pool w z in') [
    | inl earlier ↦ t.away z earlier of mine
    | inr now ↦ absurd (other (rw now of)
        (rw now mine))
  ];
}

-- ---- an update of the set is taken

-- the known state of an edge that takes an update
pub record Hears (c : LocalRoutes) (w : Fields) : Type 0 where
  pub numbers : KeepsNumbers c.speaker
  pub owns : (s : Station) → OwnsAt c s
  pub accepts : Accepts c.speaker w

pub hears_sound : {old : Fabric} → IsSound old → (t : Taking old) → Hears t.edge.routes t.update
hears_sound sound t = let good = sound.good t.place t.edge t.at in assumption

-- only the table grows
abbrev pub Grows : LocalRoutes → Fields → Type 0
Grows c w = (comes_back c.speaker w ≡ false) × (heard c w ≡ after_update c w)

pub idle_grows : {c : LocalRoutes} {w : Fields} → Hears c w → (is_newest c.speaker w ≡ false)
    ⊎ (advert_in w.value.content ≡ None) → Grows c w
idle_grows {c} {w} h idle = (idle_away c.speaker w idle, idle_hearing c w h.owns idle)

still_known : {c : LocalRoutes} {w : Fields} (z : Fields) → Hears c w → is_newest c.speaker z ≡ false
    → is_newest (heard c w).speaker z ≡ false
still_known {c} z h old = (heard_later c h.numbers h.accepts).news z.register z.value old

known_hears : (pool extra : List Fields) (s : Station) {c : LocalRoutes} {w : Fields} → Hears c w
    → Known pool extra s c.speaker → Known pool extra s (heard c w).speaker
known_hears pool extra s h known z in' of = elim (known z in' of) [
  | inl old ↦ inl (still_known z h old)
  | inr new ↦ inr new
]

aside_grows : {pool : List Fields} {these : Register → Bool} {c : LocalRoutes} {w : Fields} → Hears c w → Grows c w
    → HasNone pool these c.speaker → HasNone pool these (heard c w).speaker
aside_grows {c} {w} h g t = record {
  quiet = λ r of mine.
      let named : r ≡ own_register c.speaker r.key = (λ n. register_of ((mine ∙ name) n) r.key) in
      rw (g.1, named) (advert_kept r.key h.numbers h.accepts g.0 ∙ t.quiet (own_register c.speaker r.key)
      (rw (← named) of) refl);
  waits = rw g.1 t.waits;
  away = λ z in' of mine. elim (t.away z in' of (mine ∙ name)) [
    | inl old ↦ inl (still_known z h old)
    | inr none ↦ inr none
  ];
}
  where
    name : (heard c w).speaker.address ≡ c.speaker.address
    name = rw g.1

-- an edge that loses a station to another originator's update has advertised it
loses_said : {c : LocalRoutes} {w : Fields} → Hears c w → comes_back c.speaker w ≡ false → (l : Loses c w)
    → is_some (own_advert c.speaker (key_of l.station)) ≡ true
loses_said {c} {w} h never l =
    ap is_some (sym (advert_kept (key_of l.station) h.numbers h.accepts never))
    ∙ (and_parts (is_some (own_advert (after_importing c.speaker w) (key_of l.station)))
    (not (is_at (owner (after_importing c.speaker w).table l.station.vni l.station.mac) c.speaker.address)) l.lost).0

-- and it is the station of that update
pub record LosesIt (s : Station) (c : LocalRoutes) (w : Fields) : Type 0 where
  pub said : is_some (own_advert c.speaker (key_of s)) ≡ true
  pub is : heard c w ≡ after_removal (after_update c w) s

pub loses_it : (s : Station) {c : LocalRoutes} {w : Fields} → Hears c w → is_of s w.register ≡ true
    → comes_back c.speaker w ≡ false → Loses c w → LosesIt s c w
loses_it s {c} {w} h of never l = record {
  said = rw station at (loses_said h never l);
  is = l.is ∙ ap (after_removal (after_update c w)) station;
}
  where
    ip : (j : Option Ip) × (w.register.key ≡ Mac s.vni s.mac j)
    ip = station_key s w.register.key of

    station : l.station ≡ s
    station =
        let vnis : l.station.vni ≡ s.vni = cc (ip.1, l.key) in
        let macs : l.station.mac ≡ s.mac = cc (ip.1, l.key) in
        λ n. record { vni = vnis n; mac = macs n }

-- an edge that advertises nothing of the set and takes an update of it still advertises nothing of it
pub aside_hears : {pool : List Fields} {these : Register → Bool} → AreWhole these → {c : LocalRoutes} {w : Fields}
    → Contains pool w → these w.register ≡ true → Hears c w → HasNone pool these c.speaker
    → HasNone pool these (heard c w).speaker
aside_hears whole {c} {w} in' of h t = aside_grows h grows t
  where
    grows : Grows c w
    grows = elim (cases_eq w.register.originator c.speaker.address) [
      | inl mine ↦ idle_grows h (t.away w in' of mine)
      | inr other ↦ foreign (others_stay_away c.speaker w other)
    ]
      where
        foreign : comes_back c.speaker w ≡ false → Grows c w
        foreign never = elim (hear_cases c w never) [
          | inl is ↦ (never, is)
          | inr l ↦ absurd (not_both (loses_said h never l) (ap is_some
              (t.quiet (own_register c.speaker (key_of l.station))
              (sym (whole w.register c.speaker.address l.station.vni l.station.mac l.ip l.key) ∙ of) refl)))
        ]

-- ---- the two edges of a move
module _ {pool extra : List Fields} {s : Station} {o : ℕ} {rs : List Register} where
  pub part_same : {Own : Option Value → Type 0} {e v : Speaker} → SameOf s e v → HasPart pool extra s o rs Own e
      → HasPart pool extra s o rs Own v
  part_same h t = record {
    name = h.address ∙ t.name;
    own_is = rw (same_own s h) t.own_is;
    waits = h.waits ∙ t.waits;
    known = λ w in' of. elim (t.known w in' of) [ inl old ↦ inl (same_newest w h of ∙ old) | inr new ↦ inr new ];
  }

  -- the pool gets an update, which is new if it is of the station
  pub part_push : {Own : Option Value → Type 0} {e : Speaker} (extra' : List Fields) (w : Fields)
      → (is_of s w.register ≡ true → Contains extra' w) → ((z : Fields) → Contains extra z → Contains extra' z)
      → HasPart pool extra s o rs Own e → HasPart (pool ++ w ∷ []) extra' s o rs Own e
  part_push extra' w new more t = record {
    name = t.name;
    own_is = t.own_is;
    waits = t.waits;
    known = λ z in' of. elim (Contains-push_cases pool w z in') [
      | inl earlier ↦ elim (t.known z earlier of) [ inl old ↦ inl old | inr here ↦ inr (more z here) ]
      | inr now ↦ inr (rw now at (new (rw now of)))
    ];
  }

  part_grows : {Own : Option Value → Type 0} {c : LocalRoutes} {w : Fields} → Hears c w → Grows c w
      → (Own (own c.speaker (key_of s)) → Own (own (after_importing c.speaker w) (key_of s)))
      → HasPart pool extra s o rs Own c.speaker
      → HasPart pool extra s o rs Own (heard c w).speaker
  part_grows h g kept t = record {
    name = rw g.1 t.name;
    own_is = rw g.1 (kept t.own_is);
    waits = rw g.1 t.waits;
    known = known_hears pool extra s h t.known;
  }

  pub to_grows : {v : Value} {c : LocalRoutes} {w : Fields} → IsSome (advert_in v.content) → Hears c w → Grows c w
      → HasPart pool extra s o rs (HasOwn v) c.speaker → HasPart pool extra s o rs (HasOwn v) (heard c w).speaker
  to_grows {v} some h g t = part_grows h g (λ is. advert_stays (key_of s) h.numbers h.accepts
      (ap advert_of is ∙ (some_in (advert_in v.content) some).1) ∙ is) t

  pub from_grows : {says : Bool} {c : LocalRoutes} {w : Fields} → Hears c w → Grows c w
      → HasPart pool extra s o rs (Speaks says) c.speaker
      → HasPart pool extra s o rs (Speaks says) (heard c w).speaker
  from_grows h g t = part_grows h g (λ is. rw (advert_kept (key_of s) h.numbers h.accepts g.0) is) t

  -- the effect of the new advert on the edge from which the station came: it stays, or withdraws the station
  pub from_hears : {says : Bool} {c : LocalRoutes} {w : Fields} → is_of s w.register ≡ true
      → w.register.originator ≢ c.speaker.address → Hears c w → HasPart pool extra s o rs (Speaks says) c.speaker
      → HasPart pool extra s o rs (Speaks says) (heard c w).speaker ⊎ ((says ≡ true)
      × (rs ≡ [] → HasPart pool extra s o (register_of o (key_of s) ∷ []) (Speaks false) (heard c w).speaker))
  from_hears {c = c} {w = w} of other h t =
      let never = others_stay_away c.speaker w other in
      elim (hear_cases c w never) [
        | inl is ↦ inl (from_grows h (never, is) t)
        | inr l ↦ let it = loses_it s h of never l in let is = it.is in inr (
          sym t.own_is ∙ it.said,
          λ none. record {
            name = rw is t.name;
            own_is = rw (is, own_same (after_importing c.speaker w) (key_of s) Withdrawn);
            waits = rw is (marked_first s c.speaker.pending (own_register c.speaker (key_of s)) (t.waits ∙ none)
                (about_station s None) ∙ ap (λ p. register_of p (key_of s) ∷ []) t.name);
            known = known_hears pool extra s h t.known;
          },
        )
      ]
