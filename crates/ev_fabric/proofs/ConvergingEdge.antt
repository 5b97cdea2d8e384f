-- The effect of a delivery on an edge's own registers and on its learning table.
use Rattle.std.proofs.Common.{◌≡◌, ◌≢◌, ◌⊎◌, inl, inr, ◌+◌, ◌≤◌, ◌<◌, Bool, true, false, cond, nat_lt, Option, Some}
use Rattle.std.proofs.Common.{None, List, length, refl, sym, ap, ◌∙◌, arith}
use Rattle.std.proofs.lemmas.Bool.Decides.{nat_tests}
use Rattle.std.proofs.lemmas.Bool.{cases_Bool, and_parts, false_from_ne_true, true_from_ne_false}
use Rattle.std.specs.Prelude.{Contains, is_some, not, ◌==◌, ◌&&◌}
use Rattle.std.specs.Option.{option_map}
use Rattle.route_wire.specs.declared.update.Ip.{Ip}
use Rattle.route_wire.specs.declared.update.Key.{Key}
use Rattle.route_wire.specs.declared.update.Key.TheVariants.{Flood, Mac}
use Rattle.route_wire.specs.declared.update.Register.{Register}
use Rattle.route_wire.specs.declared.update.Advert.{Advert}
use Rattle.route_wire.specs.declared.update.Content.TheVariants.{Withdrawn}
use Rattle.route_wire.specs.declared.update.Value.{Value}
use Rattle.route_wire.specs.Fields.{Fields}
use Rattle.route_wire.specs.Order.{is_newer}
use Rattle.route_join.specs.Table.{Table, value_at, is_listed, is_news, with_update, register_of}
use Rattle.route_join.specs.Owner.{advert_in, advert_of, owner}
use Rattle.route_join.proofs.Tables.{same_or_other, at_same, at_other, not_newer_itself}
use Rattle.route_join.proofs.Joins.{newer_trans}
use Rattle.route_join.proofs.Merging.{same_listeners}
use Rattle.mac_arena.specs.declared.station.Station.{Station}
use Rattle.mac_arena.specs.declared.station.Entry.{Entry}
use Rattle.mac_arena.specs.Learning.{entry_at}
use Rattle.ev_claims.specs.Pending.{marked}
use Rattle.ev_claims.specs.Speaker.{Speaker, own_register, own, own_advert, KeepsNumbers, is_at, next_value}
use Rattle.ev_claims.specs.Speaker.{after_originating, after_importing, is_newest, is_ahead, is_returning, is_spent}
use Rattle.ev_claims.specs.LocalRoutes.{LocalRoutes, KeepsRoutes, AreGood, key_of, after_removal, after_update}
use Rattle.ev_claims.specs.LocalRoutes.{after_own}
use Rattle.ev_edge.specs.Edge.{Edge}
use Rattle.ev_claims.specs.LocalRoutes.{is_lost, after_losing, after_take}
use Rattle.ev_claims.proofs.Values.{not_newer_earlier}
use Rattle.ev_claims.proofs.Numbers.{key_or_other, own_same, own_other, said_joins, own_stays, heard_numbers}
use Rattle.ev_claims.proofs.Hearing.{past_if_newest, refuted_is, not_said}
use Rattle.ev_claims.proofs.Learnt.{size_gone}
use Rattle.ev_fabric.specs.ConvergenceEdge.{is_latest, comes_back, returning, unsaid, unannounced, IsLater}
use Rattle.ev_fabric.proofs.Places.{push_length}
use Rattle.ev_fabric.proofs.Voices.{marked_cases}
use Rattle.ev_fabric.proofs.ConvergingNewest.{newest, newest_is, news_up}
use Rattle.ev_fabric.proofs.ConvergingSums.{count_le, count_less}

-- ---- later states
-- only the pending registers change, if anything
pub later_quiet : (a : Speaker) (rs : List Register) → IsLater a (record a { pending = rs })
later_quiet a rs = record {
  address = refl;
  incarnation = refl;
  originators = refl;
  news = λ r w h. h;
  fades = λ k. inl refl;
}

pub later_trans : {a b c : Speaker} → IsLater a b → IsLater b c → IsLater a c
later_trans h g = record {
  address = g.address ∙ h.address;
  incarnation = g.incarnation ∙ h.incarnation;
  originators = g.originators ∙ h.originators;
  news = λ r w is. g.news r w (h.news r w is);
  fades = λ k. elim (g.fades k) [
    | inl same ↦ elim (h.fades k) [
      | inl before ↦ inl (same ∙ before)
      | inr none ↦ inr (rw same none)
    ]
    | inr none ↦ inr none
  ];
}

-- an update sets its own register if it is news, and leaves all others
pub update_cases : (t : Table) (u : Fields) (r : Register)
    → ((r ≡ u.register) × (is_news (value_at t u.register) u.value ≡ true)
    × (value_at (with_update t u) r ≡ Some u.value)) ⊎ (value_at (with_update t u) r ≡ value_at t r)
update_cases t u r = elim (cases_Bool (is_news (value_at t u.register) u.value)) [
  | inl e ↦ elim (same_or_other r u.register) [
    | inl same ↦ inl (same, e, rw (e, same) (at_same t u.register u.value))
    | inr ne ↦ inr (rw e (at_other t u.register u.value r ne))
  ]
  | inr e ↦ inr (rw e)
]

-- a value that is no news for a table is no news after any update
pub news_stay : (t : Table) (u : Fields) (r : Register) (w : Value) → is_news (value_at t r) w ≡ false
    → is_news (value_at (with_update t u) r) w ≡ false
news_stay t u r w h = elim (update_cases t u r) [
  | inl c ↦ go (value_at t r) refl h c.2 (ap (λ q. is_news (value_at t q) u.value) c.0 ∙ c.1)
  | inr kept ↦ ap (λ o. is_news o w) kept ∙ h
]
  where
    go : (o : Option Value) → value_at t r ≡ o → is_news (value_at t r) w ≡ false
        → value_at (with_update t u) r ≡ Some u.value → is_news (value_at t r) u.value ≡ true
        → is_news (value_at (with_update t u) r) w ≡ false
    go None at old new more = cc (ap (λ o. is_news o w) (sym at))
    go (Some x) at old new more = rw new (false_from_ne_true (is_newer w u.value) (λ e.
        let over : is_newer u.value x ≡ true = ap (λ o. is_news o u.value) (sym at) ∙ more in
        let up : is_newer w x ≡ true = newer_trans x u.value w over e in
        cc (ap (λ o. is_news o w) (sym at))))

said_later : {e : Speaker} (k : Key) → KeepsNumbers e → IsLater e (after_originating e k Withdrawn)
said_later {e} k h = record {
  address = refl;
  incarnation = refl;
  originators = refl;
  news = λ r w is. ap (λ t. is_news (value_at t r) w) (sym (said_joins e k Withdrawn h))
      ∙ news_stay e.table (record { register = own_register e k; value = next_value e Withdrawn }) r w is;
  fades = λ j. elim (key_or_other j k) [
    | inl same ↦ inr (rw (same, own_same e k Withdrawn))
    | inr ne ↦ inl (own_other e k Withdrawn j ne)
  ];
}

-- ---- an own advert that comes back
pub record ComesBack (e : Speaker) (u : Fields) : Type 0 where
  pub mine : u.register.originator ≡ e.address
  pub newest : is_newest e u ≡ true
  pub earlier : nat_lt u.value.incarnation e.incarnation ≡ true
  pub advert : is_some (advert_in u.value.content) ≡ true

pub comes : (e : Speaker) (u : Fields) → comes_back e u ≡ true → ComesBack e u
comes e u h =
    let p = and_parts _ _ h in
    let q = and_parts _ _ p.1 in
    let r = and_parts _ _ q.1 in
    let mine : u.register.originator ≡ e.address = (let eq = p.0 in grind (arith, nat_tests)) in
    record { mine = mine; newest = q.0; earlier = r.0; advert = r.1 }

pub comes_when : (e : Speaker) (u : Fields) → ComesBack e u → comes_back e u ≡ true
comes_when e u c =
    let test : (u.register.originator == e.address) ≡ true = grind (arith, nat_tests) in
    rw (test, c.newest, c.earlier, c.advert) refl

-- an update that isn't `ComesBack` doesn't come back
stays_away : (e : Speaker) (u : Fields) → (ComesBack e u → ⊥) → comes_back e u ≡ false
stays_away e u never = false_from_ne_true (comes_back e u) (λ back. never (comes e u back))

pub others_stay_away : (e : Speaker) (u : Fields) → u.register.originator ≢ e.address → comes_back e u ≡ false
others_stay_away e u ne = stays_away e u (λ c. ne c.mine)

pub known_stays_away : (e : Speaker) (u : Fields) → is_newest e u ≡ false → comes_back e u ≡ false
known_stays_away e u none = stays_away e u (λ c. cc)

-- nor does one that is no news, or a withdrawal
pub idle_away : (e : Speaker) (u : Fields) → (is_newest e u ≡ false) ⊎ (advert_in u.value.content ≡ None)
    → comes_back e u ≡ false
idle_away e u h = elim h [
  | inl old ↦ known_stays_away e u old
  | inr none ↦ stays_away e u (λ b. cc)
]

-- ---- the updates that an edge accepts, and their effects
pub record Accepts (e : Speaker) (u : Fields) : Type 0 where
  pub listed : is_listed e.table u.register.originator ≡ true
  pub ahead : u.register.originator ≡ e.address → is_ahead e u ≡ false
  pub spent : u.register.originator ≡ e.address → is_spent e u ≡ false

abbrev pub heard : LocalRoutes → Fields → LocalRoutes
heard c u = cond (u.register.originator == c.speaker.address) (after_own c u) (after_take c u)

abbrev pub after_hearing : Edge → Fields → Edge
after_hearing a u = record a { routes = heard a.routes u }

-- an announcement makes no update and learns nothing
abbrev pub quieter : LocalRoutes → List Register → LocalRoutes
quieter c rs = record c { speaker = record c.speaker { pending = rs } }

-- the edge after it announced its first pending register
abbrev pub after_telling : Edge → List Register → Edge
after_telling a rs = record a { routes = quieter a.routes rs }

-- an own advert is withdrawn as it comes back, or a station is lost to another edge, or only the table changes
pub data Heard (c : LocalRoutes) (u : Fields) : LocalRoutes → Type 0 where
  Back : comes_back c.speaker u ≡ true → Heard c u (record c {
    speaker = after_originating c.speaker u.register.key
        Withdrawn;
  })
  Lost : (s : Station) → u.register.originator ≢ c.speaker.address → is_lost (after_update c u) s ≡ true
      → Heard c u (after_removal (after_update c u) s)
  Kept : comes_back c.speaker u ≡ false → Heard c u (after_update c u)

pub record Loses (c : LocalRoutes) (u : Fields) : Type 0 where
  pub station : Station
  pub ip : Option Ip
  pub key : u.register.key ≡ Mac station.vni station.mac ip
  pub foreign : u.register.originator ≢ c.speaker.address
  pub lost : is_lost (after_update c u) station ≡ true
  pub is : heard c u ≡ after_removal (after_update c u) station

pub hear_cases : (c : LocalRoutes) (u : Fields) → comes_back c.speaker u ≡ false → (heard c u ≡ after_update c u)
    ⊎ Loses c u
hear_cases c u never = elim (cases_Bool (u.register.originator == c.speaker.address)) [
  | inl t ↦ inl (rw (
    t,
    false_from_ne_true (is_returning c.speaker u)
        (λ e. let back : comes_back c.speaker u ≡ true = rw (t, e) refl in cc),
  ))
  | inr t ↦ losing (rw t) (grind (arith, nat_tests)) u.register.key refl
]
  where
    losing : heard c u ≡ after_take c u → u.register.originator ≢ c.speaker.address → (k : Key) → u.register.key ≡ k
        → (heard c u ≡ after_update c u) ⊎ Loses c u
    losing takes foreign (Flood v) key = inl (takes ∙ ap (after_losing (after_update c u)) key)
    losing takes foreign (Mac v m ip) key =
        let s : Station = record { vni = v; mac = m } in
        let is = takes ∙ ap (after_losing (after_update c u)) key in
        elim (cases_Bool (is_lost (after_update c u) s)) [
          | inl e ↦ inr (record {
            station = s;
            ip = ip;
            key = key;
            foreign = foreign;
            lost = e;
            is = is ∙ ap (λ b. cond b (after_removal (after_update c u) s) (after_update c u)) e;
          })
          | inr e ↦ inl (is ∙ ap (λ b. cond b (after_removal (after_update c u) s) (after_update c u)) e)
        ]

pub hears : (c : LocalRoutes) (u : Fields) → Heard c u (heard c u)
hears c u = elim (cases_Bool (comes_back c.speaker u)) [
  | inl back ↦
      let p = and_parts (u.register.originator == c.speaker.address) (is_returning c.speaker u) back in
      rw (p.0, p.1, refuted_is c.speaker u Withdrawn (comes c.speaker u back).mine) (Back back)
  | inr never ↦ elim (hear_cases c u never) [
    | inl is ↦ rw is (Kept never)
    | inr l ↦ rw l.is (Lost l.station l.foreign l.lost)
  ]
]

-- what holds in each of the three cases holds of the edge afterwards
pub heard_by : (P : LocalRoutes → Type 0) (c : LocalRoutes) (u : Fields)
    → (comes_back c.speaker u ≡ true
    → P (record c { speaker = after_originating c.speaker u.register.key Withdrawn }))
    → ((s : Station) → u.register.originator ≢ c.speaker.address → is_lost (after_update c u) s ≡ true
    → P (after_removal (after_update c u) s))
    → (comes_back c.speaker u ≡ false → P (after_update c u)) → P (heard c u)
heard_by P c u back lost kept = go (heard c u) (hears c u)
  where
    go : (d : LocalRoutes) → Heard c u d → P d
    go _ (Back is) = back is
    go _ (Lost s other is) = lost s other is
    go _ (Kept not) = kept not

-- ---- the edge afterwards is a later one

-- an own update that is accepted, is news and doesn't come back is no advert
pub silent : {e : Speaker} {u : Fields} → Accepts e u → comes_back e u ≡ false → u.register.originator ≡ e.address
    → is_newest e u ≡ true → advert_in u.value.content ≡ None
silent {e} {u} ok not mine newest = go (advert_in u.value.content) refl
  where
    go : (o : Option Advert) → advert_in u.value.content ≡ o → advert_in u.value.content ≡ None
    go None p = p
    go (Some a) p =
        let less = past_if_newest e u (ok.ahead mine) newest in
        let back = comes_when e u (record {
          mine = mine;
          newest = newest;
          earlier = grind (arith, nat_tests);
          advert = ap is_some p;
        }) in
        cc

kept_later : {e : Speaker} {u : Fields} → Accepts e u → comes_back e u ≡ false → IsLater e (after_importing e u)
kept_later {e} {u} ok not = record {
  address = refl;
  incarnation = refl;
  originators = same_listeners e.table u;
  news = λ r w is. news_stay e.table u r w is;
  fades = λ k. elim (update_cases e.table u (own_register e k)) [
    | inl c ↦ inr (rw c.2 (silent ok not (rw (← c.0)) c.1))
    | inr kept ↦ inl kept
  ];
}

-- an own register that it changes had no advert before
replaced_silent : {e : Speaker} {u : Fields} (k : Key) → KeepsNumbers e → Accepts e u → own_register e k ≡ u.register
    → is_newest e u ≡ true → own_advert e k ≡ None
replaced_silent {e} {u} k n ok same newest =
    let mine : u.register.originator ≡ e.address = ap (λ (r : Register). r.originator) (sym same) in
    ap (own_advert e) (ap (λ (r : Register). r.key) same)
    ∙ not_said e u n mine newest (past_if_newest e u (ok.ahead mine) newest)

-- own adverts stay as they are
pub advert_kept : {e : Speaker} {u : Fields} (k : Key) → KeepsNumbers e → Accepts e u → comes_back e u ≡ false
    → own_advert (after_importing e u) k ≡ own_advert e k
advert_kept {e} {u} k n ok not = elim (update_cases e.table u (own_register e k)) [
  | inl c ↦ rw c.2 (silent ok not (rw (← c.0)) c.1 ∙ sym (replaced_silent k n ok c.0 c.1))
  | inr kept ↦ ap advert_of kept
]

pub advert_stays : {e : Speaker} {u : Fields} (k : Key) {x : Advert} → KeepsNumbers e → Accepts e u
    → own_advert e k ≡ Some x → own (after_importing e u) k ≡ own e k
advert_stays {e} {u} k n ok is = elim (update_cases e.table u (own_register e k)) [
  | inl c ↦ cc (replaced_silent k n ok c.0 c.1)
  | inr kept ↦ kept
]

pub heard_later : (c : LocalRoutes) {u : Fields} → KeepsNumbers c.speaker → Accepts c.speaker u
    → IsLater c.speaker (heard c u).speaker
heard_later c {u} h ok = heard_by (λ d. IsLater c.speaker d.speaker) c u (λ back. said_later u.register.key h)
    (λ s other lost. later_trans (kept_later ok (others_stay_away c.speaker u other))
    (said_later (key_of s) (heard_numbers c.speaker u other h))) (kept_later ok)

-- ---- updates that may come back
-- what is news for a later state was news before
pub news_before : {a b : Speaker} → IsLater a b → (u : Fields) → is_newest b u ≡ true → is_newest a u ≡ true
news_before {a} h u more = true_from_ne_false (is_newest a u) (λ e. cc (h.news u.register u.value e))

pub comes_before : {a b : Speaker} → IsLater a b → (u : Fields) → comes_back b u ≡ true → comes_back a u ≡ true
comes_before {a} {b} h u back = let c = comes b u back in comes_when a u (record {
  mine = c.mine ∙ h.address;
  newest = news_before h u c.newest;
  earlier = rw (← h.incarnation) c.earlier;
  advert = c.advert;
})

abbrev pub may_return : List Fields → Speaker → Fields → Bool
may_return pool a u = comes_back a u && is_latest pool u

returns_before : (pool : List Fields) {a b : Speaker} → IsLater a b → (u : Fields) → may_return pool b u ≡ true
    → may_return pool a u ≡ true
returns_before pool {b} h u is = let t = and_parts (comes_back b u) (is_latest pool u) is in
    rw (comes_before h u t.0, t.1) refl

-- an own update of the edge in the pool is of an earlier incarnation, or is no news to it
abbrev pub KnowsOwn : List Fields → Speaker → Type 0
KnowsOwn pool e = (u : Fields) → Contains pool u → u.register.originator ≡ e.address
    → (u.value.incarnation < e.incarnation) ⊎ (is_newest e u ≡ false)

-- an update that comes back: the newest advert of its register is counted
pub record Counted (pool : List Fields) (a : Speaker) (u : Fields) : Type 0 where
  pub update : Fields
  pub inside : Contains pool update
  pub register : update.register ≡ u.register
  pub counts : may_return pool a update ≡ true

pub counted : (pool : List Fields) (a : Speaker) {u : Fields} → KnowsOwn pool a → Contains pool u → comes_back a u
    ≡ true
    → Counted pool a u
counted pool a {u} knows in' back =
    let c = comes a u back in
    let n = newest pool u c.advert in
    let inside : Contains pool n.update = elim n.from [
      | inl here ↦ here
      | inr same ↦ rw same in'
    ] in
    let mine : n.update.register.originator ≡ a.address = rw n.register c.mine in
    let news : is_newest a n.update ≡ true = rw n.register (news_up (value_at a.table u.register) u n.update c.newest
    n.order) in
    let earlier : n.update.value.incarnation < a.incarnation =
    elim (knows n.update inside mine) [
      | inl less ↦ less
      | inr none ↦ cc
    ] in
    let again = comes_when a n.update (record {
      mine = mine;
      newest = news;
      earlier = grind (arith, nat_tests);
      advert = n.advert;
    }) in
    record { update = n.update; inside = inside; register = n.register; counts = rw (again, newest_is n) refl }

returning_later : (pool : List Fields) {a b : Speaker} → IsLater a b → returning pool b ≤ returning pool a
returning_later pool {a} {b} h = count_le (may_return pool a) (may_return pool b) pool
    (λ u is. returns_before pool h u is)

-- after its withdrawal no advert of the register comes back
back_gone : (a : Speaker) (u w : Fields) → w.register ≡ u.register → u.register.originator ≡ a.address
    → comes_back (after_originating a u.register.key Withdrawn) w ≡ false
back_gone a u w same mine = stays_away (after_originating a u.register.key Withdrawn) w (λ c.
    let less : w.value.incarnation < a.incarnation = grind (arith, nat_tests) in
    let at : value_at (after_originating a u.register.key Withdrawn).table w.register ≡ Some (next_value a Withdrawn) =
    rw (same, named) (own_same a u.register.key Withdrawn) in
    let none : is_newest (after_originating a u.register.key Withdrawn) w ≡ false = ap (λ o. is_news o w.value) at
    ∙ not_newer_earlier (next_value a Withdrawn) w.value less in
    cc)
  where
    named : u.register ≡ own_register a u.register.key
    named = λ i. register_of (mine i) u.register.key

pub marked_length : (rs : List Register) (r : Register) → length (marked rs r) ≤ length rs + 1
marked_length rs r = elim (marked_cases rs r) [
  | inl h ↦ omega (arith, ap length h.1)
  | inr h ↦ omega (arith, ap length h.1 ∙ push_length rs r)
]

-- a station is learnt and advertised, or neither
pub learnt_cases : {c : LocalRoutes} (s : Station) → KeepsRoutes c
    → ((entry_at c.learned s ≡ None) × (own_advert c.speaker (key_of s) ≡ None))
    ⊎ ((x : Entry) × (y : Advert) × (entry_at c.learned s ≡ Some x) × (own_advert c.speaker (key_of s) ≡ Some y))
learnt_cases {c} s h = go (entry_at c.learned s) refl (own_advert c.speaker (key_of s)) refl (h.kinds s)
  where
    go : (x : Option Entry) → entry_at c.learned s ≡ x → (y : Option Advert) → own_advert c.speaker (key_of s) ≡ y
        → option_map (λ (z : Entry). z.pinned) (entry_at c.learned s)
        ≡ option_map (λ (z : Advert). z.is_static) (own_advert c.speaker (key_of s))
        → ((entry_at c.learned s ≡ None) × (own_advert c.speaker (key_of s) ≡ None))
        ⊎ ((x : Entry) × (y : Advert) × (entry_at c.learned s ≡ Some x) × (own_advert c.speaker (key_of s) ≡ Some y))
    go None p None q k = inl (p, q)
    go (Some x) p (Some y) q k = inr (x, y, p, q)
    go None p (Some y) q k = cc (rw (p, q) at k)
    go (Some x) p None q k = cc (rw (p, q) at k)

-- ---- the number of updates to come never grows, and pays for each number and each announcement
pub record Pays (pool : List Fields) (a b : LocalRoutes) : Type 0 where
  pub numbers : b.speaker.counter + unsaid pool b ≤ a.speaker.counter + unsaid pool a
  pub announcements : unannounced pool b ≤ unannounced pool a
  pub returns : returning pool b.speaker ≤ returning pool a.speaker

pub heard_pays : (pool : List Fields) {c : LocalRoutes} {u : Fields} → KnowsOwn pool c.speaker → Contains pool u
    → AreGood c → Accepts c.speaker u → Pays pool c (heard c u)
heard_pays pool {c} {u} knows in' good ok = heard_by (Pays pool c) c u
    (λ back.
    let n = counted pool c.speaker knows in' back in
    let less : returning pool (after_originating c.speaker u.register.key Withdrawn) + 1 ≤ returning pool c.speaker =
    count_less (may_return pool c.speaker) (may_return pool (after_originating c.speaker u.register.key Withdrawn)) pool
    (returns_before pool (said_later u.register.key good.numbers)) n.inside n.counts
    (rw (back_gone c.speaker u n.update n.register (comes c.speaker u back).mine)) in
    omega (arith, marked_length c.speaker.pending (own_register c.speaker u.register.key)))
    (λ s other lost.
    elim (learnt_cases s good.routes) [
      | inl no' ↦ cc (
        (and_parts (is_some (own_advert (after_importing c.speaker u) (key_of s)))
            (not (is_at (owner (after_importing c.speaker u).table s.vni s.mac) c.speaker.address)) lost).0,
        own_stays c.speaker u other (key_of s),
        no'.1,
      )
      | inr there ↦
          omega (
            arith,
            size_gone c.learned s there.0 there.2,
            returning_later pool
                (later_trans (kept_later ok (others_stay_away c.speaker u other))
                (said_later (key_of s) (heard_numbers c.speaker u other good.numbers))),
            marked_length c.speaker.pending
                (own_register c.speaker (key_of s)),
          )
    ])
    (λ not. omega (arith, returning_later pool (kept_later ok not)))

-- ---- after a delivery the update is no news
updated_has : (t : Table) (u : Fields) → is_news (value_at (with_update t u) u.register) u.value ≡ false
updated_has t u = elim (cases_Bool (is_news (value_at t u.register) u.value)) [
  | inl e ↦ rw (e, at_same t u.register u.value) (not_newer_itself u.value)
  | inr e ↦ rw e e
]

pub heard_has : (c : LocalRoutes) (u : Fields) → KeepsNumbers c.speaker → is_newest (heard c u).speaker u ≡ false
heard_has c u h = heard_by (λ d. is_newest d.speaker u ≡ false) c u
    (λ back.
    let b = comes c.speaker u back in
    let less : u.value.incarnation < c.speaker.incarnation = grind (arith, nat_tests) in
    let named : u.register ≡ own_register c.speaker u.register.key =
    (λ i. register_of (b.mine i) u.register.key) in
    rw (named, own_same c.speaker u.register.key Withdrawn) (not_newer_earlier (next_value c.speaker Withdrawn) u.value
    less))
    (λ s other lost. (said_later (key_of s) (heard_numbers c.speaker u other h)).news u.register u.value
    (updated_has c.speaker.table u)) (λ not. updated_has c.speaker.table u)
