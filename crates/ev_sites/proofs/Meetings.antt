-- After a session each edge of a process knows each edge of the other one.
use Rattle.std.proofs.Common.{◌≡◌, ◌≢◌, ◌⊎◌, inl, inr, ℕ, suc, ◌-◌, ◌<◌, ◌==◌, Bool, true, false, Option, Some, None}
use Rattle.std.proofs.Common.{Result, Ok, Err, List, [], ◌∷◌, refl, sym, ap, subst, ◌∙◌, arith}
use Rattle.std.proofs.lemmas.Bool.{cases_eq}
use Rattle.std.proofs.lemmas.List.Elements.{Contains-append_left, Contains-append_right, Contains-append_cases}
use Rattle.std.proofs.lemmas.Option.{slice_get_within}
use Rattle.std.specs.Prelude.{Contains, slice_set}
use Rattle.route_wire.specs.declared.update.Key.{Key}
use Rattle.route_wire.specs.declared.update.Key.TheVariants.{Mac}
use Rattle.route_wire.specs.declared.update.Register.{Register}
use Rattle.route_wire.specs.declared.update.Content.{Content}
use Rattle.route_wire.specs.declared.update.Content.TheVariants.{Withdrawn}
use Rattle.route_wire.specs.declared.update.Value.{Value}
use Rattle.route_wire.specs.Fields.{Fields}
use Rattle.route_wire.specs.Inner.Totals.{neither_newer}
use Rattle.route_wire.proofs.Newer.{not_newer_lower, not_newer_itself}
use Rattle.route_join.specs.Table.{value_at, is_news, register_of}
use Rattle.route_join.specs.Owner.{advert_of}
use Rattle.route_join.proofs.Tables.{same_or_other, at_same, at_other}
use Rattle.ev_claims.specs.Speaker.{Speaker, own_register, next_value, after_originating, after_importing, is_newest}
use Rattle.ev_claims.specs.LocalRoutes.{LocalRoutes, key_of, after_announcement}
use Rattle.ev_edge.specs.declared.event.Event.TheVariants as events
use Rattle.ev_edge.specs.declared.reply.Reply.{Reply}
use Rattle.ev_edge.specs.declared.refusal.Refusal as edge
use Rattle.ev_edge.specs.Edge.{Edge, IsGoodEdge, table_of, address_of}
use Rattle.ev_edge.specs.Steps.{Steps, Takes as TakesBy}
use Rattle.ev_fabric.specs.declared.refusal.FabricRefusal.{FabricRefusal}
use Rattle.ev_fabric.specs.declared.step.Step.{Step}
use Rattle.ev_fabric.specs.declared.step.Step.TheVariants.{Local, Announce, Deliver, Restart}
use Rattle.ev_fabric.specs.Fabric.{Fabric, IsEdge, incarnation_of}
use Rattle.ev_fabric.specs.Local.{event_of}
use Rattle.ev_fabric.specs.Steps.{of_edge, StepsAt, AnnouncesAt, RestartsAt, FabricSteps}
use Rattle.ev_fabric.specs.Runs.{Runs, StaysOpen}
use Rattle.ev_fabric.specs.Sound.{update_of, IsBehind, IsSound}
use Rattle.ev_fabric.specs.Later.{IsLaterFabric}
use Rattle.ev_fabric.proofs.Places.{minus, set_cases, there_at}
use Rattle.ev_fabric.proofs.Cases.{at_edge, at_delivery}
use Rattle.ev_fabric.proofs.Voices.{Talks, Quiet, Says}
use Rattle.ev_fabric.proofs.Events.{local_talks}
use Rattle.ev_fabric.proofs.Fabrics.{step_sound, runs_sound}
use Rattle.ev_fabric.proofs.Agreements.{learnt}
use Rattle.ev_fabric.proofs.ConvergingEdge.{Heard, Back, Lost, Kept, heard, hears, update_cases}
use Rattle.ev_fabric.proofs.ConvergingMoves.{sound_kept}
use Rattle.ev_fabric.proofs.ConvergingRounds.{Has, answered, given_ok}
use Rattle.ev_fabric.proofs.StationTaken.{first_open, rest_open, open_has}
use Rattle.ev_fabric.proofs.Goings.{one_there, fabric_further, runs_lead, opened_there}
use Rattle.ev_sites.specs.Sessions.{Gives, Took, Holds, Parts, TookIn, IsSent, Sends, Knows}
use Rattle.ev_sites.specs.Sessions.{SessionsAgree, AllSessionsAgree, BegunAnew}

-- ---- an update that an edge has, and hasn't made in its present life: it had it before, or takes it

record HasPast (e : Speaker) (u : Fields) : Type 0 where
  past : u.register.originator ≡ e.address → u.value.incarnation < e.incarnation
  there : value_at e.table u.register ≡ Some u.value

said_past : {e : Speaker} (k : Key) (c : Content) {u : Fields} → HasPast (after_originating e k c) u → HasPast e u
said_past {e} k c {u} h = elim (same_or_other u.register (own_register e k)) [
  | inl same ↦
      let less = h.past (ap (λ (r : Register). r.originator) same) in
      let both = sym (at_same e.table (own_register e k) (next_value e c))
      ∙ (rw same) ∙ h.there in
      let equal : next_value e c ≡ u.value = cc in
      let life = ap (λ (v : Value). v.incarnation) equal in
      absurd (omega (arith, less, life))
  | inr ne ↦ record {
    past = h.past;
    there = sym (at_other e.table (own_register e k) (next_value e c) u.register ne) ∙ h.there;
  }
]

talks_past : {e : Speaker} (v : Speaker) → Talks e v → (u : Fields) → HasPast v u → HasPast e u
talks_past _ Quiet u h = h
talks_past {e} _ (Says v k c bare t) u h = talks_past v t u (said_past k c h)

updated_past : {e : Speaker} {w u : Fields} → HasPast (after_importing e w) u → HasPast e u ⊎ (u ≡ w)
updated_past {e} {w} {u} h = elim (update_cases e.table w u.register) [
  | inl c ↦
      let both = sym c.2 ∙ h.there in
      let same : w.value ≡ u.value = cc in
      inr (λ n. update_of (c.0 n) (sym same n))
  | inr kept ↦ inl (record { past = h.past; there = sym kept ∙ h.there })
]

heard_past : {c : LocalRoutes} {w u : Fields} (d : LocalRoutes) → Heard c w d → HasPast d.speaker u
    → HasPast c.speaker u ⊎ (u ≡ w)
heard_past {c} {w} {u} _ (Back back) h = inl (said_past w.register.key Withdrawn h)
heard_past {c} {w} {u} _ (Lost s other lost) h =
    updated_past (said_past (key_of s) Withdrawn h)
heard_past {c} {w} {u} _ (Kept not) h = updated_past h

takes_past : (a b : Edge) {w u : Fields} (answer : Result Reply edge.Refusal) → Steps a (events.Take w) answer b
    → HasPast b.routes.speaker u
    → HasPast a.routes.speaker u ⊎ ((u ≡ w) × (reply : Reply) × (answer ≡ Ok reply))
takes_past a b {w} {u} (Ok reply) h now =
    elim (heard_past (heard a.routes w) (hears a.routes w)
    (rw (answered a b w reply h) at now)) [
      | inl was ↦ inl was
      | inr same ↦ inr (same, reply, refl)
    ]
takes_past a b {w} (Err r) h now = inl (rw (refused (w.register.originator == address_of a) h) at now)
  where
    refused : (x : Bool) → TakesBy x a w (Err r) b → b ≡ a
    refused true s = s.1
    refused false s = s.1

-- ---- one step

abbrev PastAt : Fabric → ℕ → Fields → Type 0
PastAt f i u = (a : Edge) × IsEdge f i a × HasPast a.routes.speaker u

-- the edge had it before the step, or takes it
abbrev Came : ℕ → Fields → Fabric → Step → Result Reply FabricRefusal → Type 0
Came i u old step result = PastAt old i u ⊎ Gives i u old step result

module _ (old new : Fabric) (step : Step) (result : Result Reply FabricRefusal) (i : ℕ) (u : Fields)
    (now : PastAt new i u) where
  still_past : new ≡ old → Came i u old step result
  still_past is = inl (rw is at now)

  one_past : (x : ℕ) (a c : Edge) → IsEdge old x a → new.edges ≡ slice_set old.edges (suc x - 1) c
      → (i ≡ x → HasPast c.routes.speaker u → HasPast a.routes.speaker u ⊎ Gives i u old step result)
      → Came i u old step result
  one_past x a c at edges goes =
      elim (set_cases old.edges x c i now.0 (rw (edges ∙ ap (λ n. slice_set old.edges n c) (minus x)) at now.1)) [
        | inl p ↦ elim (goes p.0 (rw p.1 at now.2)) [
          | inl was ↦ inl (a, subst (λ n. IsEdge old n a) (sym p.0) at, was)
          | inr given ↦ inr given
        ]
        | inr p ↦ inl (now.0, p.1, now.2)
      ]

step_past : (old new : Fabric) (step : Step) {result : Result Reply FabricRefusal} {i : ℕ} {u : Fields}
    → FabricSteps old step result new → ((n : ℕ) → step ≡ Restart (suc i) n → ⊥) → PastAt new i u
    → Came i u old step result
step_past old new (Local e event) {result} {i} {u} h stays now =
    at_edge (Came i u old (Local e event) result) old new result (λ e a. StepsAt old e a (event_of event) result new)
    e h (λ is. still_past old new (Local e event) result i u now is.1)
    (λ x a _ at s. one_past old new (Local e event) result i u now x a s.after at
    (ap (λ (f : Fabric). f.edges) s.new_is)
    (λ same after. inl (talks_past s.after.routes.speaker
    (local_talks a event s.answer s.after s.steps) u after)))
step_past old new (Announce e) {result} {i} {u} h stays now =
    at_edge (Came i u old (Announce e) result) old new result (λ e a. AnnouncesAt old e a result new) e h
    (λ is. still_past old new (Announce e) result i u now is.1) (λ x a _ at s. announces x a at result s)
  where
    silent : (a b : Edge) → b ≡ record a { routes = after_announcement a.routes } → HasPast b.routes.speaker u
        → HasPast a.routes.speaker u
    silent a b is after = let p = rw is at after in
        record { past = p.past; there = p.there }

    announces : (x : ℕ) (a : Edge) → IsEdge old x a → (answer : Result Reply FabricRefusal)
        → AnnouncesAt old (suc x) a answer new → Came i u old (Announce e) result
    announces x a at (Ok reply) s = one_past old new (Announce e) result i u now x a s.0 at
        (ap (λ (f : Fabric). f.edges) s.2) (λ same after. inl (silent a s.0 s.1.1 after))
    announces x a at (Err why) s = still_past old new (Announce e) result i u now s.1
step_past old new (Deliver e k) {result} {i} {u} h stays now =
    at_delivery (Came i u old (Deliver e k) result) old new result e k h
    (λ why is. still_past old new (Deliver e k) result i u now is.1)
    (λ x a n w named placed at there s. one_past old new (Deliver e k) result i u now x a s.after at
    (ap (λ (f : Fabric). f.edges) s.new_is)
    (λ same after. elim (takes_past a s.after s.answer s.steps after) [
      | inl was ↦ inl was
      | inr t ↦ inr (
        n,
        t.1,
        (λ m. Deliver ((named ∙ ap suc (sym same)) m) (placed m)),
        there ∙ ap Some (sym t.0),
        s.result_is ∙ ap of_edge t.2,
      )
    ]))
step_past old new (Restart e n) {result} {i} {u} h stays now =
    at_edge (Came i u old (Restart e n) result) old new result (λ e a. RestartsAt old e a n result new) e h
    (λ is. still_past old new (Restart e n) result i u now is.1) (λ x a named at s. restarts x a named at result s)
  where
    restarts : (x : ℕ) (a : Edge) → e ≡ suc x → IsEdge old x a → (answer : Result Reply FabricRefusal)
        → RestartsAt old (suc x) a n answer new → Came i u old (Restart e n) result
    restarts x a named at (Ok reply) s = one_past old new (Restart e n) result i u now x a s.after at
        (ap (λ (f : Fabric). f.edges) s.new_is)
        (λ same after. absurd (stays n (λ m. Restart ((named ∙ ap suc (sym same)) m) n)))
    restarts x a named at (Err why) s = still_past old new (Restart e n) result i u now s.1

gives_has : {old : Fabric} (new : Fabric) {step : Step} {result : Result Reply FabricRefusal} {i : ℕ} {u : Fields} →
    IsSound old
    → FabricSteps old step result new → Gives i u old step result → Has new i u
gives_has {old} new {i} {u} sound h (k, reply, is, there, ok) =
    given_ok old new i k reply u (sound_kept old sound)
    (rw ok at (rw is at h)) there

-- ---- runs

runs_past : (steps : List Step) (old new : Fabric) (run : Runs old steps new) (i : ℕ) (u : Fields)
    → StaysOpen i steps → PastAt new i u → PastAt old i u ⊎ Took i u steps old new run
runs_past [] old new run i u stays now = inl (rw run at now)
runs_past (step ∷ steps) old new run i u stays now =
    elim (runs_past steps run.0 new run.3 i u (rest_open i step steps stays) now) [
      | inl mid ↦ elim (step_past old run.0 step run.2 (first_open i step steps stays) mid) [
        | inl was ↦ inl was
        | inr given ↦ inr (inl given)
      ]
      | inr took ↦ inr (inr took)
    ]

-- an update that is taken is known from then on
took_has : (steps : List Step) (old new : Fabric) (run : Runs old steps new) (i : ℕ) (u : Fields) → IsSound old
    → StaysOpen i steps → Took i u steps old new run → Has new i u
took_has [] old new run i u sound stays took = absurd took
took_has (step ∷ steps) old new run i u sound stays (inl given) =
    open_has steps run.0 new i u (step_sound old run.0 step run.1 run.2 sound) run.3 (rest_open i step steps stays)
    (gives_has run.0 sound run.2 given)
took_has (step ∷ steps) old new run i u sound stays (inr took) =
    took_has steps run.0 new run.3 i u (step_sound old run.0 step run.1 run.2 sound) (rest_open i step steps stays) took

holds_has : (f : Fabric) (i : ℕ) (u : Fields) → Holds f i u → Has f i u
holds_has f i u (a, at, is) b at_b =
    ap (λ (e : Edge). is_newest e.routes.speaker u) (one_there f i b a at_b at)
    ∙ (rw is) ∙ not_newer_itself u.value

-- ---- one register after a session

module _ (i j : ℕ) (old : Fabric) (steps : List Step) (new : Fabric) (parts : Parts old steps new) (h : IsSound old)
    (open_i : StaysOpen i steps) (open_j : StaysOpen j steps) where
  held_sound : IsSound parts.held
  held_sound = runs_sound parts.first old parts.held parts.begins h

  pub parts_sound : IsSound new
  parts_sound = runs_sound parts.second parts.held new parts.ends held_sound

  pub parts_lead : IsLaterFabric old new
  parts_lead = fabric_further old parts.held new (runs_lead parts.first old parts.held h parts.begins)
      (runs_lead parts.second parts.held new held_sound parts.ends)

  open_first : (x : ℕ) → StaysOpen x steps → StaysOpen x parts.first
  open_first x stays n in' = stays n (rw parts.is (Contains-append_left parts.first parts.second (Restart
      (suc x) n) in'))

  open_second : (x : ℕ) → StaysOpen x steps → StaysOpen x parts.second
  open_second x stays n in' = stays n (rw parts.is (Contains-append_right parts.first parts.second (Restart
      (suc x) n) in'))

  -- an edge knows an update at the end if it knew it between the parts, or took it
  kept : (x : ℕ) (u : Fields) → StaysOpen x steps → Has parts.held x u → Has new x u
  kept x u stays has = open_has parts.second parts.held new x u held_sound parts.ends (open_second x stays) has

  taken : (x : ℕ) (u : Fields) → StaysOpen x steps → TookIn old steps new parts x u → Has new x u
  taken x u stays (inl t) = kept x u stays
      (took_has parts.first old parts.held parts.begins x u h (open_first x stays) t)
  taken x u stays (inr t) = took_has parts.second parts.held new parts.ends x u held_sound (open_second x stays) t

  began : (u : Fields) → Holds old i u → Has new i u
  began u holds = kept i u open_i (open_has parts.first old parts.held i u h parts.begins (open_first i open_i)
      (holds_has old i u holds))

  module _ (a b : Edge) (r : Register) (at_a : IsEdge new i a) (at_b : IsEdge new j b)
      (mine : r.originator ≡ address_of a) (s : IsSent i j a r old steps new parts) where
    -- a value of an earlier life: the edge at i had it at the beginning, or took it, and then the other one had it
    earlier : (v : Value) → value_at (table_of a) r ≡ Some v → v.incarnation < incarnation_of a
        → Contains old.pool (update_of r v) → is_newest b.routes.speaker (update_of r v) ≡ false
    earlier v is less in' =
        elim (runs_past parts.second parts.held new parts.ends i (update_of r v) (open_second i open_i)
        (a, at_a, record { past = λ _. less; there = is })) [
          | inl held ↦ elim (runs_past parts.first old parts.held parts.begins i (update_of r v)
              (open_first i open_i) held) [
                | inl was ↦ taken j (update_of r v) open_j (s.delivered.own v (was.0, was.1, was.2.there) in') b at_b
                | inr t ↦ had (inl t)
              ]
          | inr t ↦ had (inr t)
        ]
      where
        had : TookIn old steps new parts i (update_of r v) → is_newest b.routes.speaker (update_of r v) ≡ false
        had t = elim (s.alike v less is t) [
          | inl holds ↦ kept j (update_of r v) open_j (holds_has parts.held j (update_of r v) holds) b at_b
          | inr too ↦ taken j (update_of r v) open_j too b at_b
        ]

    -- a value of the beginning: the edge at i has announced none since
    before : (v : Value) → value_at (table_of a) r ≡ Some v → Contains old.pool (update_of r v)
        → (x : Edge) → IsEdge old i x → is_newest b.routes.speaker (update_of r v) ≡ false
    before v is in' x at_x =
        let y = parts_lead.edges i x at_x in
        let same = one_there new i y.0 a y.1 at_a in
        elim ((h.told i x at_x).behind (update_of r v) in' (mine ∙ ((rw same) ∙ y.2.address))) [
          | inl less ↦ earlier v is (omega (arith, less, y.2.life, ap incarnation_of same)) in'
          | inr told ↦ says told told.order
        ]
      where
        says : (told : IsBehind (incarnation_of x) (table_of x) (update_of r v))
            → (v ≡ told.says) ⊎ (v.counter < told.says.counter)
            → is_newest b.routes.speaker (update_of r v) ≡ false
        says told (inl equal) = taken j (update_of r v) open_j
            (s.delivered.own v (x, at_x, told.there ∙ rw equal) in') b at_b
        says told (inr less) =
            absurd (omega (
              arith,
              less,
              (ap (λ (w : Value). w.counter) (neither_newer v told.says
                  (not_newer_lower v told.says (told.present ∙ sym told.alive) less) ((rw is)
                  ∙ began (update_of r told.says) (x, at_x, told.there) a at_a))),
            ))

    -- the edge at j knows each value of the edge at i
    there : (v : Value) → value_at (table_of a) r ≡ Some v → is_newest b.routes.speaker (update_of r v) ≡ false
    there v is = elim (Contains-append_cases old.pool parts_lead.more (update_of r v)
        (rw parts_lead.pool at ((parts_sound.told i a at_a).own r v mine is s.delivered.quiet))) [
          | inl in' ↦ let x = there_at old.edges i (omega (
            arith,
            slice_get_within new.edges i a at_a,
            parts_lead.count,
          )) in
              before v is in' x.0 x.1
          | inr in' ↦ taken j (update_of r v) open_j (s.delivered.since parts_lead.more v parts_lead.pool in') b at_b
        ]

    -- and the other way round
    back : i ≢ j → (w : Value) → value_at (table_of b) r ≡ Some w
        → is_newest a.routes.speaker (update_of r w) ≡ false
    back apart w is = elim ((sound_kept new parts_sound).knows i a at_a (update_of r w)
        ((parts_sound.told j b at_b).foreign r w other is) mine) [
          | inl less ↦ elim (runs_past parts.second parts.held new parts.ends j (update_of r w)
              (open_second j open_j) (b, at_b, record { past = λ own. absurd (other own); there = is })) [
                | inl held ↦ took_has parts.second parts.held new parts.ends i (update_of r w) held_sound
                    (open_second i open_i) (s.delivered.back w (held.0, held.1, held.2.there)) a at_a
                | inr t ↦ elim (s.delivered.later w less t) [
                  | inl was ↦ began (update_of r w) was a at_a
                  | inr too ↦ taken i (update_of r w) open_i too a at_a
                ]
              ]
          | inr known ↦ known
        ]
      where
        other : r.originator ≢ address_of b
        other own = apart (parts_sound.apart i j a b at_a at_b (sym mine ∙ own))

    equal : value_at (table_of b) r ≡ value_at (table_of a) r
    equal = elim (cases_eq i j) [
      | inl same ↦ ap (λ (e : Edge). value_at (table_of e) r)
          (one_there new j b a at_b (rw same at at_a))
      | inr ne ↦ go ne (value_at (table_of b) r) refl (value_at (table_of a) r) refl
    ]
      where
        go : i ≢ j → (x : Option Value) → value_at (table_of b) r ≡ x → (y : Option Value)
            → value_at (table_of a) r ≡ y → value_at (table_of b) r ≡ value_at (table_of a) r
        go ne None p None q = p ∙ sym q
        go ne None p (Some v) q =
            cc (ap (λ o. is_news o v) (sym p) ∙ there v q)
        go ne (Some w) p None q =
            cc (ap (λ o. is_news o w) (sym q) ∙ back ne w p)
        go ne (Some w) p (Some v) q =
            p ∙ (rw (neither_newer w v (ap (λ o. is_news o w) (sym q) ∙ back ne w p) (ap (λ o. is_news o v) (sym p)
            ∙ there v q))) ∙ sym q

-- ---- the laws

knows : {p q : List ℕ} {old : Fabric} {steps : List Step} {new : Fabric} → IsSound old → Sends p q old steps new
    → (i j : ℕ) (a b : Edge) → Contains p i → Contains q j → IsEdge new i a → IsEdge new j b → Knows b a
knows {old} {steps} {new} h x i j a b in_p in_q at_a at_b = record {
  equal = same;
  present = λ r v mine is some.
      good.routes.numbers.alive r.key v (ap (value_at (table_of a)) (sym (λ n. register_of (mine n) r.key))
      ∙ sym (same r mine) ∙ is) some;
  learnt = λ s ip y is. learnt a s good (
    ip,
    y,
    ap advert_of (sym (same (register_of (address_of a) (Mac s.vni s.mac ip)) refl)) ∙ is,
  );
}
  where
    good : IsGoodEdge a
    good = (parts_sound i j old steps new x.parts h (x.senders i in_p) (x.takers j in_q)).good i a at_a

    same : (r : Register) → r.originator ≡ address_of a → value_at (table_of b) r ≡ value_at (table_of a) r
    same r mine = equal i j old steps new x.parts h (x.senders i in_p) (x.takers j in_q) a b r at_a at_b mine
        (x.sent i j a r in_p in_q at_a mine)

pub sessions_agree : SessionsAgree
sessions_agree p q old steps new h s i j a b in_p in_q at_a at_b = (
  knows h s.there i j a b in_p in_q at_a at_b,
  knows h s.back j i b a in_q in_p at_b at_a,
)

pub all_sessions_agree : AllSessionsAgree
all_sessions_agree processes new met m n i j p q a b apart at_p at_q in_p in_q at_a at_b =
    let x = met m n p q apart at_p at_q in
    (sessions_agree p q x.old x.steps new x.sound x.session i j a b in_p in_q at_a at_b).0

pub begun_anew : BegunAnew
begun_anew p q before began old new i j n reply meanwhile steps h restart run s a b in_p in_q at_a at_b r v mine is
    some =
    let x = opened_there before began (suc i) n reply h restart in
    let y = lead.edges i x.0 x.1 in
    omega (
      arith,
      y.2.life,
      ap incarnation_of (one_there new i y.0 a y.1 at_a),
      x.2,
      (knows sound s.there i j a b in_p in_q at_a at_b).present r v mine is some,
    )
  where
    sound_began : IsSound began
    sound_began = step_sound before began (Restart (suc i) n) (Ok reply) restart h

    sound : IsSound old
    sound = runs_sound meanwhile began old run sound_began

    lead : IsLaterFabric began new
    lead = fabric_further began old new (runs_lead meanwhile began old sound_began run)
        (parts_lead i j old steps new s.there.parts sound (s.there.senders i in_p) (s.there.takers j in_q))
