-- How many registers the frames of a port make: no more in each minute than the port's limit allows.
use Rattle.std.proofs.Common.{◌≡◌, ◌≢◌, ◌⊎◌, inl, inr, ℕ, zero, suc, ◌+◌, ◌-◌, ◌*◌, ◌<◌, ◌≤◌, Bool, true, false, cond}
use Rattle.std.proofs.Common.{not}
use Rattle.std.proofs.Common.{◌&&◌, eqb, Option, Some, None, Result, Ok, Err, List, [], ◌∷◌, refl, sym}
use Rattle.std.proofs.Common.{ap}
use Rattle.std.proofs.Common.{◌∙◌, arith}
use Rattle.std.specs.Prelude.{is_some, IsSome, slice_set}
use Rattle.std.specs.Option.{option_map}
use Rattle.std.specs.FinMap.{len, len-insert}
use Rattle.std.proofs.lemmas.Bool.{cases_Bool, cases_eq, eq-eqb, ne_eqb, or_right}
use Rattle.std.proofs.lemmas.Option.{none-some}
use Rattle.std.proofs.lemmas.Bool.Decides.{nat_tests}
use Rattle.ether_wire.specs.Addr.{is_group}
use Rattle.ether_wire.specs.Ports.{place_of_port}
use Rattle.route_wire.specs.declared.update.Key.{Key}
use Rattle.route_wire.specs.declared.update.Advert.{Advert}
use Rattle.route_wire.specs.declared.update.Content.{Content}
use Rattle.route_wire.specs.declared.update.Content.TheVariants.{Withdrawn}
use Rattle.route_wire.specs.declared.update.Value.{Value}
use Rattle.route_wire.specs.Inner.Totals.{register_total}
use Rattle.route_join.specs.Owner.{advert_of}
use Rattle.mac_arena.specs.declared.station.Station.{Station}
use Rattle.mac_arena.specs.declared.station.Entry.{Entry}
use Rattle.mac_arena.specs.Station.{is_same}
use Rattle.mac_arena.specs.Learning.{entry_at}
use Rattle.mac_arena.specs.ListsName.{ListsName, stands}
use Rattle.mac_arena.proofs.Entries.{eq_same}
use Rattle.ev_claims.specs.Speaker.{Speaker, own_register, own, originated_in, next_value}
use Rattle.ev_claims.specs.Speaker.{after_originating}
use Rattle.ev_claims.specs.LocalRoutes.{LocalRoutes, KeepsRoutes, key_of, moving, after_removal, after_removals}
use Rattle.ev_claims.specs.LocalRoutes.{after_advert}
use Rattle.ev_claims.specs.Leaving.{after_flush, flushed_in}
use Rattle.ev_claims.proofs.Numbers.{key_or_other, own_same, own_other}
use Rattle.ev_claims.proofs.Leaving.{flush_known}
use Rattle.ev_edge.specs.declared.arrival.Arrival.{Arrival}
use Rattle.ev_edge.specs.declared.arrival.Arrival.TheVariants.{Dropped, Message, Data}
use Rattle.ev_edge.specs.declared.config.PortConfig.{PortConfig}
use Rattle.ev_edge.specs.declared.event.Event.{Event}
use Rattle.ev_edge.specs.declared.limits.Quota.{Quota}
use Rattle.ev_edge.specs.declared.refusal.Refusal.{Refusal}
use Rattle.ev_edge.specs.declared.reply.Reply.{Reply}
use Rattle.ev_edge.specs.Edge.{Edge, IsGoodEdge}
use Rattle.ev_edge.specs.Limits.{quotas_of, quota_in, quota_at, IsKept, runs, count_in, start_in, counting}
use Rattle.ev_edge.specs.Limits.{with_counted}
use Rattle.ev_edge.specs.Learning.{needs_register, limits_at, is_counted, quotas_with}
use Rattle.ev_edge.specs.Arrival.{frame_arrival}
use Rattle.ev_edge.specs.Storms.{taking_on}
use Rattle.ev_edge.specs.Steps.{Steps, FrameSteps}
use Rattle.ev_edge.specs.AwayLaws.{Entered}
use Rattle.ev_edge.specs.LimitLaws.{comes_at, registers, made_at, Makes, RegistersAreFew, RegistersAreFewFromTheOpening}
use Rattle.ev_edge.proofs.Cases.{learnt_by}
use Rattle.ev_edge.proofs.Limiting.{kind_of, bridge_rests, steps_limits, port_there}
use Rattle.ev_edge.proofs.Remaining.{steps_good}

-- ---- registers that are made

abbrev size : Speaker → ℕ
size v = len v.table.registers

-- an own update makes a register if there is none
said_size : (v : Speaker) (k : Key) (c : Content)
    → size (after_originating v k c) ≡ cond (is_some (own v k)) (size v) (size v + 1)
said_size v k c = len-insert register_total v.table.registers (own_register v k) (next_value v c)

one_more : (v : Speaker) (k : Key) (c : Content) → size (after_originating v k c) ≤ size v + 1
one_more v k c = (let is = said_size v k c in elim (cases_Bool (is_some (own v k))) [
  | inl there ↦ (let h = rw there at is in omega (arith, h))
  | inr new ↦ (let h = rw new at is in omega (arith, h))
])

none_made : (v : Speaker) (k : Key) (c : Content) → is_some (own v k) ≡ true → size (after_originating v k c) ≡ size v
none_made v k c there = rw there at (said_size v k c)

-- a station that needs no register has one
has_register : (e : Edge) (s : Station) → needs_register e s ≡ false → is_some (own e.routes.speaker (key_of s)) ≡ true
has_register e s is = go (own e.routes.speaker (key_of s)) is
  where
    go : (o : Option Value) → not (originated_in e.routes.speaker.incarnation o) ≡ false → is_some o ≡ true
    go None is = sym is
    go (Some v) is = refl

-- ---- a flush makes none

still_there : (v : Speaker) (j k : Key) (c : Content) → is_some (own v k) ≡ true
    → is_some (own (after_originating v j c) k) ≡ true
still_there v j k c there = elim (key_or_other k j) [
  | inl same ↦ rw (same, own_same v j c)
  | inr ne ↦ rw (own_other v j c k ne) there
]

removals_size : (c : LocalRoutes) (ss : List Station)
    → ((s : Station) → stands ss s ≡ true → is_some (own c.speaker (key_of s)) ≡ true)
    → size (after_removals c ss).speaker ≡ size c.speaker
removals_size c [] there = refl
removals_size c (s ∷ ss) there = removals_size (after_removal c s) ss
    (λ q on. still_there c.speaker (key_of s) (key_of q) Withdrawn (there q (or_right (is_same s q) (stands ss q) on)))
    ∙ none_made c.speaker (key_of s) Withdrawn (there s (rw (eq_same s s refl)))

-- a learnt station has a register
learnt_register : (c : LocalRoutes) (s : Station) → KeepsRoutes c → IsSome (entry_at c.learned s)
    → is_some (own c.speaker (key_of s)) ≡ true
learnt_register c s h known = go (entry_at c.learned s) (own c.speaker (key_of s)) (h.kinds s) known
  where
    go : (x : Option Entry) (o : Option Value) → option_map (λ (x : Entry). x.pinned) x
        ≡ option_map (λ (a : Advert). a.is_static) (advert_of o) → IsSome x → is_some o ≡ true
    go x (Some v) same is = refl
    go None None same is = cc
    go (Some x) None same is = absurd (none-some x.pinned (sym same))

flush_size : (c : LocalRoutes) (set : ℕ) → KeepsRoutes c → ListsName c.learned
    → size (after_flush c set).speaker ≡ size c.speaker
flush_size c set h lists = removals_size c (flushed_in c.learned set)
    (λ s on. learnt_register c s h (flush_known c set h lists s on))

-- ---- the quota of another port

set_apart : (qs : List Quota) (l : ℕ) (q : Quota) (n : ℕ) → n ≢ l
    → quota_in (slice_set qs l q) n ≡ quota_in qs n
set_apart [] l q n ne = refl
set_apart (x ∷ xs) zero q zero ne = absurd (ne refl)
set_apart (x ∷ xs) zero q (suc n) ne = refl
set_apart (x ∷ xs) (suc l) q zero ne = refl
set_apart (x ∷ xs) (suc l) q (suc n) ne = set_apart xs l q n (λ is. ne (ap suc is))

-- a port with a limit has a quota, so it is the one that is set
set_here : (qs : List Quota) (l : ℕ) (q : Quota) (limit : ℕ)
    → (quota_in qs l).limits.new_stations ≡ Some limit → quota_in (slice_set qs l q) l ≡ q
set_here [] l q limit is = cc
set_here (x ∷ xs) zero q limit is = refl
set_here (x ∷ xs) (suc l) q limit is = set_here xs l q limit is

-- ---- one event

-- it makes no register by the port, whose quota stays
record Idles (port : ℕ) (event : Event) (e x : Edge) : Type 0 where
  none : made_at port event e x ≡ 0
  quota : quota_at x.quotas port ≡ quota_at e.quotas port
  later : e.clock ≤ x.clock

-- it makes one register at most by the port, which is counted
record Spends (port : ℕ) (event : Event) (e x : Edge) : Type 0 where
  one : made_at port event e x ≤ 1
  quota : quota_at x.quotas port ≡ counting (quota_at e.quotas port) e.clock
  clock : x.clock ≡ e.clock

abbrev Counts : ℕ → Event → Edge → Edge → Type 0
Counts port event e x = Idles port event e x ⊎ Spends port event e x

-- a station is learnt at a port, in whatever windows of moves
learns_other : (e x : Edge) (s : Station) (port p : ℕ) → 0 < p → 0 < port → port ≢ p → (b : Bool)
    → quota_at (cond b (with_counted e.quotas port e.clock) e.quotas) p ≡ quota_at e.quotas p
learns_other e x s port p some some' ne true =
    set_apart e.quotas (place_of_port port) (counting (quota_at e.quotas port) e.clock) (place_of_port p)
    (λ same. ne (omega (arith, some, some', same)))
learns_other e x s port p some some' ne false = refl

-- the register and its count, of the port itself
learns_here : (e x : Edge) (event : Event) (s : Station) (port n limit : ℕ)
    → (limits_at e port).new_stations ≡ Some limit
    → made_at port event e x ≡ registers x - registers e
    → registers x ≡ size (after_originating e.routes.speaker (key_of s) (moving n))
    → x.quotas ≡ quotas_with e s port → x.clock ≡ e.clock → Counts port event e x
learns_here e x event s port n limit is made more quotas clock = elim (cases_Bool (needs_register e s)) [
  | inl new ↦ inr (record {
    one = let few = one_more e.routes.speaker (key_of s) (moving n) in omega (arith, made, more, few);
    quota = rw (quotas, is, new)
        (set_here e.quotas (place_of_port port) (counting (quota_at e.quotas port) e.clock) limit is);
    clock = clock;
  })
  | inr known ↦ inl (record {
    none = let same = none_made e.routes.speaker (key_of s) (moving n) (has_register e s known) in
        omega (arith, made, more, same);
    quota = rw (quotas, is, known);
    later = omega (arith, clock);
  })
]

-- at whatever port the frame comes
learns_at : (e x : Edge) (event : Event) (s : Station) (port p n limit : ℕ) → 0 < p → 0 < port
    → (limits_at e p).new_stations ≡ Some limit → comes_at p event ≡ eqb port p
    → x.routes ≡ after_advert e.routes s port e.clock n → x.quotas ≡ quotas_with e s port → x.clock ≡ e.clock
    → Counts p event e x
learns_at e x event s port p n limit some some' is at routes quotas clock = elim (cases_eq port p) [
  | inl same ↦ learns_here e x event s p n limit is (rw (at, eq-eqb port p same))
      (ap (λ (c : LocalRoutes). size c.speaker) routes) (rw same at quotas) clock
  | inr ne ↦ inl (record {
    none = rw (at, ne_eqb port p ne);
    quota = rw quotas (learns_other e x s port p some some' ne (is_counted e s port));
    later = omega (arith, clock);
  })
]

idle : (e x : Edge) (event : Event) (p : ℕ) → registers x ≡ registers e → quota_at x.quotas p ≡ quota_at e.quotas p
    → e.clock ≤ x.clock → Counts p event e x
idle e x event p same quota later = inl (record {
  none = elim (cases_Bool (comes_at p event)) [
    | inl comes ↦ rw comes (omega (arith, same))
    | inr away ↦ rw away
  ];
  quota = quota;
  later = later;
})

frame_counts : (a : Result Arrival Refusal) (e : Edge) (event : Event) (port p limit : ℕ)
    (result : Result Reply Refusal) (e' : Edge) → IsGoodEdge e → 0 < p
    → ((vni destination source : ℕ) → a ≡ Ok (Data vni destination source) → 0 < port)
    → (limits_at e p).new_stations ≡ Some limit → comes_at p event ≡ eqb port p → FrameSteps a e port result e'
    → Counts p event e e'
frame_counts (Err r) e event port p limit result e' good some there is at h =
    rw h.1 (idle e e event p refl refl (omega arith))
frame_counts (Ok Dropped) e event port p limit result e' good some there is at h =
    rw h.1 (idle e e event p refl refl (omega arith))
frame_counts (Ok (Message b)) e event port p limit (Ok reply) e' good some there is at h =
    let r = bridge_rests _ e (Ok reply) e' h in
    idle e e' event p (rw h.after (flush_size e.routes h.flush good.routes.routes good.routes.lists)) (rw r.quotas)
    r.later
frame_counts (Ok (Message b)) e event port p limit (Err r) e' good some there is at h = absurd h
frame_counts (Ok (Data vni destination source)) e event port p limit (Ok reply) e' good some there is at h =
    learnt_by (Counts p event e) (taking_on e port vni destination) s port reply.alert e'
    (idle e _ event p refl refl (omega arith))
    (λ heard. idle e _ event p refl refl (omega arith)) (idle e _ event p refl refl (omega arith))
    (λ new. learns_at e _ event s port p 0 limit some (there vni destination source refl) is at refl refl refl)
    (λ n new. learns_at e _ event s port p n limit some (there vni destination source refl) is at refl refl refl)
    (h.learning.learns && not (is_group source)) h.learning.learning
  where
    s : Station
    s = record { vni = vni; mac = source }
frame_counts (Ok (Data vni destination source)) e event port p limit (Err r) e' good some there is at h = absurd h

step_counts : (e : Edge) (event : Event) (result : Result Reply Refusal) (e' : Edge) (p limit : ℕ) → IsGoodEdge e
    → 0 < p → (limits_at e p).new_stations ≡ Some limit → Steps e event result e' → Counts p event e e'
step_counts e event result e' p limit good some is h = elim (kind_of e event result e' h) [
  | inl k ↦ inl (record { none = rw (k.none p); quota = rw k.rests.quotas; later = k.rests.later })
  | inr (inl k) ↦ frame_counts (frame_arrival e k.port k.octets) e event k.port p limit result e' good some
      (port_there e k.port k.octets) is (k.at p) k.steps
  | inr (inr k) ↦ inl (record { none = rw (k.none p); quota = rw k.same; later = k.later })
]

-- ---- a run

pub times_more : (m n : ℕ) → suc m * n ≡ m * n + n
times_more m n = omega arith

-- no time goes back
runs_later : (run : List Entered) (e e' : Edge) (p n : ℕ) → Makes p e run e' n → e.clock ≤ e'.clock
runs_later [] e e' p n h = let same = ap (λ (x : Edge). x.clock) h.0 in omega (arith, same)
runs_later (x ∷ run) e e' p n h = let first = (steps_limits e h.0 x.0 x.1 p h.1).1 in
    let rest = runs_later run h.0 e' p h.2 h.3 in omega (arith, first, rest)

-- what the window of a quota still allows before so many minutes from its start have passed
abbrev Allows : Quota → ℕ → ℕ → ℕ → ℕ → Type 0
Allows q second end limit n =
    (minutes : ℕ) → end < start_in q second + minutes * 60 → n + count_in q second ≤ minutes * limit

-- the window of a quota, running or over
running : (q : Quota) (second : ℕ) → runs q second ≡ true
    → (start_in q second ≡ q.start) × (count_in q second ≡ q.count)
running q second is = (rw is, rw is)

over : (q : Quota) (second : ℕ) → runs q second ≡ false → (start_in q second ≡ second) × (count_in q second ≡ 0)
over q second is = (rw is, rw is)

-- the same quota at a later second allows no more
waits : (q : Quota) (second later end limit n : ℕ) → IsKept q second → q.count ≤ limit → second ≤ later → later ≤ end
    → Allows q later end limit n → Allows q second end limit n
waits q second later end limit n kept few after before h minutes below =
    go (runs q second) (runs q later) refl refl minutes below
  where
    go : (a b : Bool) → runs q second ≡ a → runs q later ≡ b → (minutes : ℕ)
        → end < start_in q second + minutes * 60 → n + count_in q second ≤ minutes * limit
    go true true first then minutes below =
        let f = running q second first in let t = running q later then in let f0 = f.0 in let f1 = f.1 in
        let t0 = t.0 in let t1 = t.1 in
        let all = h minutes (omega (arith, below, f0, t0)) in omega (arith, all, f1, t1)
    go true false first then zero below =
        let f0 = (running q second first).0 in let started = kept.started in
        absurd (omega (arith, below, f0, started, after, before))
    go true false first then (suc m) below =
        let f0 = (running q second first).0 in let f1 = (running q second first).1 in
        let t0 = (over q later then).0 in let t1 = (over q later then).1 in
        let gone : q.start + 60 ≤ later = grind (arith, nat_tests) in
        let all = h m (omega (arith, below, f0, t0, gone)) in
        let more = times_more m limit in omega (arith, all, f1, t1, few, more)
    go false true first then minutes below = absurd (let a : q.start + 60 ≤ second = grind (arith, nat_tests) in
        let b : later < q.start + 60 = grind (arith, nat_tests) in omega (arith, a, b, after))
    go false false first then minutes below =
        let f0 = (over q second first).0 in let f1 = (over q second first).1 in
        let t0 = (over q later then).0 in let t1 = (over q later then).1 in
        let all = h minutes (omega (arith, below, f0, t0, after)) in omega (arith, all, f1, t1)

-- a new window runs at its start, and one that runs goes on
counted_in : (q : Quota) (second : ℕ)
    → (start_in (counting q second) second ≡ start_in q second)
    × (count_in (counting q second) second ≡ count_in q second + 1)
counted_in q second = elim (cases_Bool (runs q second)) [
  | inl on ↦ running (counting q second) second (rw (on, on))
  | inr off ↦ running (counting q second) second (rw off (grind (arith, nat_tests)))
]

spent : (run : List Entered) (e e' : Edge) (p limit n : ℕ) → IsGoodEdge e → 0 < p
    → (limits_at e p).new_stations ≡ Some limit → Makes p e run e' n
    → Allows (quota_at e.quotas p) e.clock e'.clock limit n
spent [] e e' p limit n good some is h minutes below = go minutes below
  where
    kept : IsKept (quota_at e.quotas p) e.clock
    kept = good.keeps.quotas p

    few : count_in (quota_at e.quotas p) e.clock ≤ limit
    few = elim (cases_Bool (runs (quota_at e.quotas p) e.clock)) [
      | inl on ↦ rw on (kept.within limit is)
      | inr off ↦ rw off (omega arith)
    ]

    early : start_in (quota_at e.quotas p) e.clock ≤ e.clock
    early = elim (cases_Bool (runs (quota_at e.quotas p) e.clock)) [
      | inl on ↦ rw on kept.started
      | inr off ↦ rw off (omega arith)
    ]

    go : (minutes : ℕ) → e'.clock < start_in (quota_at e.quotas p) e.clock + minutes * 60
        → n + count_in (quota_at e.quotas p) e.clock ≤ minutes * limit
    go zero below = let same = ap (λ (x : Edge). x.clock) h.0 in absurd (omega (arith, below, same, early))
    go (suc m) below = let none = h.1 in let more = times_more m limit in omega (arith, none, few, more)
spent (x ∷ run) e e' p limit n good some is h minutes below =
    go (spent run h.0 e' p limit h.2 (steps_good e x.0 x.1 h.0 good h.1) some
    (rw (steps_limits e h.0 x.0 x.1 p h.1).0 is) h.3)
    (step_counts e x.0 x.1 h.0 p limit good some is h.1) minutes below
  where
    go : Allows (quota_at h.0.quotas p) h.0.clock e'.clock limit h.2 → Counts p x.0 e h.0
        → Allows (quota_at e.quotas p) e.clock e'.clock limit n
    go rest (inl idles) minutes below =
        let end = runs_later run h.0 e' p h.2 h.3 in
        let all = waits (quota_at e.quotas p) e.clock h.0.clock e'.clock limit h.2 (good.keeps.quotas p)
        ((good.keeps.quotas p).within limit is) idles.later end
        (rw idles.quota at rest) minutes below in
        let sum = h.4 in let none = idles.none in omega (arith, all, sum, none)
    go rest (inr spends) minutes below =
        let q = rw (spends.clock, spends.quota) at rest in
        let c = counted_in (quota_at e.quotas p) e.clock in let c0 = c.0 in let c1 = c.1 in
        let all = q minutes (omega (arith, below, c0)) in
        let sum = h.4 in let one = spends.one in omega (arith, all, sum, one, c1)

pub registers_are_few : RegistersAreFew
registers_are_few run e e' port limit minutes n good some is h below =
    let near : e.clock < start_in (quota_at e.quotas port) e.clock + 60 =
    elim (cases_Bool (runs (quota_at e.quotas port) e.clock)) [
      | inl on ↦ rw on (grind (arith, nat_tests))
      | inr off ↦ rw off (omega arith)
    ] in
    let all = spent run e e' port limit n good some is h (suc minutes) (omega (arith, near, below)) in
    omega (arith, all)

opened_at : (ports : List PortConfig) (n : ℕ) → (quota_in (quotas_of ports) n).start ≡ 0
opened_at [] n = refl
opened_at (p ∷ ports) zero = refl
opened_at (p ∷ ports) (suc n) = opened_at ports n

pub registers_from_the_opening : RegistersAreFewFromTheOpening
registers_from_the_opening c run e e' port limit minutes n opening good some is h below =
    let start : start_in (quota_at e.quotas port) e.clock ≡ 0 =
    elim (cases_Bool (runs (quota_at e.quotas port) e.clock)) [
      | inl on ↦ rw (on, opening.quotas) (opened_at c.ports.items (place_of_port port))
      | inr off ↦ rw off opening.clock
    ] in
    let all = spent run e e' port limit n good some is h minutes (omega (arith, start, below)) in omega (arith, all)
