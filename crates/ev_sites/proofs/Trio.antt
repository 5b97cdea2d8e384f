-- Three edges, a station that moves from the first to the second, and another station at the third: the steps.
use Rattle.std.proofs.Common.{◌≡◌, ◌==◌, ℕ, zero, suc, true, false, cond, Some, None, List, [], ◌∷◌}
use Rattle.std.proofs.Common.{◌++◌, length, inl, refl, sym, ap, subst, ◌∙◌, arith, lit<, lit≤}
use Rattle.std.specs.Prelude.{Ok, Contains, slice_get, is_some, nat_le, ◌+◌, ◌^◌}
use Rattle.std.specs.FinMap.{len, get-empty, get-insert, len-empty}
use Rattle.std.specs.Option.{option_map, MatchOption}
use Rattle.route_wire.specs.declared.update.Register.{Register}
use Rattle.route_wire.specs.declared.update.Value.{Value}
use Rattle.route_wire.specs.declared.update.Content.TheVariants.{Withdrawn}
use Rattle.route_wire.specs.Fields.{Fields}
use Rattle.route_join.specs.Table.{value_at, is_listed, is_news}
use Rattle.route_join.specs.Owner.{advert_of}
use Rattle.mac_arena.specs.declared.station.Station.{Station}
use Rattle.mac_arena.specs.declared.station.Entry.{Entry}
use Rattle.mac_arena.specs.Entry.{pinned_at}
use Rattle.mac_arena.specs.Station.{station_cmp}
use Rattle.mac_arena.specs.Learning.{Learning, entry_at, is_full, is_pinned, after_pin as pinned_on}
use Rattle.mac_arena.specs.Learning.{after_removal as gone}
use Rattle.mac_arena.proofs.Entries.{station_total}
use Rattle.ev_mobility.specs.declared.seq.Seq.TheVariants.{Next}
use Rattle.rstp_run.specs.Rules.{Tree}
use Rattle.ev_sites.proofs.Ring.{root_bridge}
use Rattle.ev_claims.specs.Pending.{marked}
use Rattle.ev_claims.specs.Speaker.{announced_of}
use Rattle.ev_claims.specs.LocalRoutes.{LocalRoutes, key_of, fixed, after_take, after_losing_at, after_removal}
use Rattle.ev_claims.specs.LocalRoutes.{after_announcement}
use Rattle.ev_claims.proofs.Learnt.{sets_pin, size_new, size_gone, removal_here, removal_places}
use Rattle.ev_edge.specs.declared.config.EdgeConfig.{EdgeConfig}
use Rattle.ev_edge.specs.declared.event.Event.TheVariants as events
use Rattle.ev_edge.specs.declared.pinning.PinCase.TheVariants.{Pin}
use Rattle.ev_edge.specs.declared.reply.Reply.{Reply}
use Rattle.ev_edge.specs.Config.{IsConfig}
use Rattle.ev_edge.specs.Edge.{Edge, IsGoodEdge, table_of, address_of}
use Rattle.ev_edge.specs.Opening.{IsOpening}
use Rattle.ev_edge.specs.Pinning.{pin_case}
use Rattle.ev_edge.specs.Steps.{Steps, alone, nothing}
use Rattle.ev_fabric.specs.declared.refusal.FabricRefusal.TheVariants.{NoSuchEdge, NoSuchUpdate}
use Rattle.ev_fabric.specs.declared.step.LocalEvent.{LocalEvent}
use Rattle.ev_fabric.specs.declared.step.Step.{Step}
use Rattle.ev_fabric.specs.declared.step.Step.TheVariants.{Local, Announce, Deliver}
use Rattle.ev_fabric.specs.Runs.{Runs}
use Rattle.ev_fabric.specs.Fabric.{Fabric, nth}
use Rattle.ev_fabric.specs.Local.{event_of}
use Rattle.ev_fabric.specs.Opening.{AreConfigs, IsStart, ListsAll}
use Rattle.ev_fabric.specs.Steps.{IsRefused, StepsAt, AnnouncesAt, FabricSteps, with_edge}
use Rattle.ev_fabric.proofs.Example.{listeners, all_differ, config_of, fits, edge_of, opens, good, nobody_learnt}
use Rattle.ev_sites.proofs.Tables.{Said, looked_up, found, taken, unchanged, in_order, next_among}
use Rattle.ev_sites.proofs.Tables.{next_number}
use Rattle.ev_sites.proofs.Guest.{here, there, speaker_in, routes_with}
use Rattle.ev_sites.proofs.Risen.{Windows, root_settings, edge_with}
use Rattle.ev_sites.proofs.Telling.{update, announcing, taking}

-- ---- the fabric

abbrev pub far : ℕ
far = 0x0a000003

abbrev pub configs_three : List EdgeConfig
configs_three =
    config_of root_settings here ∷ config_of root_settings there ∷ config_of root_settings far ∷ []

abbrev pub trio_of : List EdgeConfig → Edge → Edge → Edge → List Fields → Fabric
trio_of configs a b c pool = record { edges = a ∷ b ∷ c ∷ []; configs = configs; pool = pool }

abbrev pub trio_with : Edge → Edge → Edge → List Fields → Fabric
trio_with a b c pool = trio_of configs_three a b c pool

abbrev pub trio_opened : Fabric
trio_opened = trio_with (edge_of root_settings here) (edge_of root_settings there) (edge_of root_settings far) []

each : (P : EdgeConfig → Type 0) → ((o : ℕ) → Contains listeners o → P (config_of root_settings o))
    → (c : EdgeConfig) → Contains configs_three c → P c
each P h c (zero, l, e) = (rw e at (h here (zero, lit< tt, refl)))
each P h c (suc zero, l, e) = (rw e at (h there (suc zero, lit< tt, refl)))
each P h c (suc (suc zero), l, e) = (rw e at (h far (suc (suc zero), lit< tt, refl)))
each P h c (suc (suc (suc n)), l, e) = absurd (omega (arith, l))

pub trio_configs : AreConfigs configs_three
trio_configs = record {
  some = lit< tt;
  few = lit≤ tt;
  apart = all_differ;
  configs = each IsConfig (λ o in'. fits root_settings o (lit≤ tt) in');
  listed = each (ListsAll listeners) (λ o in' p h. h);
}

pub trio_start : IsStart configs_three trio_opened
trio_start = record {
  configs = refl;
  opened = record { count = refl; opened = opened_at; good = good_at };
  quiet = refl;
}
  where
    opened_at : (i : ℕ) (c : EdgeConfig) (a : Edge) → slice_get configs_three i ≡ Some c
        → slice_get trio_opened.edges i ≡ Some a → IsOpening c a
    opened_at zero c a at_c at_a = let p : config_of root_settings here ≡ c = cc in
        let q : edge_of root_settings here ≡ a = cc in (rw p at (rw q at (opens root_settings here)))
    opened_at (suc zero) c a at_c at_a = let p : config_of root_settings there ≡ c = cc in
        let q : edge_of root_settings there ≡ a = cc in (rw p at (rw q at (opens root_settings there)))
    opened_at (suc (suc zero)) c a at_c at_a = let p : config_of root_settings far ≡ c = cc in
        let q : edge_of root_settings far ≡ a = cc in (rw p at (rw q at (opens root_settings far)))
    opened_at (suc (suc (suc i))) c a at_c at_a = absurd (cc)

    good_at : (i : ℕ) (a : Edge) → slice_get trio_opened.edges i ≡ Some a → IsGoodEdge a
    good_at zero a at = let q : edge_of root_settings here ≡ a = cc in
        (rw q at (good root_settings here (zero, lit< tt, refl)))
    good_at (suc zero) a at = let q : edge_of root_settings there ≡ a = cc in
        (rw q at (good root_settings there (suc zero, lit< tt, refl)))
    good_at (suc (suc zero)) a at = let q : edge_of root_settings far ≡ a = cc in
        (rw q at (good root_settings far (suc (suc zero), lit< tt, refl)))
    good_at (suc (suc (suc i))) a at = absurd (cc)

-- ---- steps of any fabric

-- a step that isn't refused
pub record Going (f : Fabric) (step : Step) (g : Fabric) : Type 0 where
  pub reply : Reply
  pub goes : FabricSteps f step (Ok reply) g

pub record Ran (f : Fabric) (steps : List Step) (g : Fabric) : Type 0 where
  pub run : Runs f steps g

abbrev pub follows : {f g k : Fabric} {step : Step} {steps : List Step} → Going f step g → Ran g steps k
    → Ran f (step ∷ steps) k
follows {f} {g} {k} {step} {steps} go rest = record { run = (g, Ok go.reply, go.goes, rest.run) }

pub does : {f : Fabric} {e : ℕ} {a : Edge} (b : Edge) {event : LocalEvent} (reply : Reply) → nth f.edges e ≡ Some a
    → Steps a (event_of event) (Ok reply) b → Going f (Local e event) (with_edge f e b)
does {f} {e} b {event} reply at steps = record {
  reply = reply;
  goes = subst (λ o. MatchOption o (IsRefused NoSuchEdge f (Ok reply) (with_edge f e b))
      (λ c. StepsAt f e c (event_of event) (Ok reply) (with_edge f e b))) (sym at)
      (record { after = b; answer = Ok reply; steps = steps; result_is = refl; new_is = refl });
}

-- the edge of this address, in this incarnation and with this bridge
abbrev pub living : ℕ → Tree → ℕ → List Said → ℕ → List Register → Learning → Windows → Edge
living life tree address said counter pending l w =
    edge_with (routes_with (speaker_in life address said counter pending) l) tree w

-- in the first one, of two ports that are up
abbrev pub telling : ℕ → List Said → ℕ → List Register → Learning → Windows → Edge
telling address said counter pending l w = living 0 root_bridge address said counter pending l w

-- the first pending update
pub announces : {f : Fabric} {e : ℕ} (a : Edge) {b : Edge} (u : Fields) → value_at
    (table_of a) u.register ≡ Some u.value
    → {rest : List Register} → a.routes.speaker.pending ≡ u.register ∷ rest → nth f.edges e ≡ Some a
    → b ≡ record a { routes = after_announcement a.routes }
    → Going f (Announce e) (record (with_edge f e b) { pool = f.pool ++ u ∷ [] })
announces {f} {e} a {b} u is pend at after = record {
  reply = announcing u;
  goes = subst (λ o. MatchOption o (IsRefused NoSuchEdge f (Ok (announcing u)) new)
      (λ c. AnnouncesAt f e c (Ok (announcing u)) new)) (sym at) (
        b,
        (
          rw (ap (announced_of a.routes.speaker) pend ∙ ap (option_map (λ (v : Value). update u.register v)) is),
          after,
        ),
        refl,
      );
}
  where
    new : Fabric
    new = record (with_edge f e b) { pool = f.pool ++ u ∷ [] }

-- an update that is announced
pub delivers : {f : Fabric} {e k : ℕ} {a : Edge} (b : Edge) {u : Fields} (reply : Reply) → nth f.edges e ≡ Some a
    → nth f.pool k ≡ Some u → Steps a (events.Take u) (Ok reply) b → Going f (Deliver e k) (with_edge f e b)
delivers {f} {e} {k} {a} b reply at there steps = record {
  reply = reply;
  goes = subst (λ o. MatchOption o (IsRefused NoSuchEdge f (Ok reply) (with_edge f e b))
      (λ c. MatchOption (nth f.pool k) (IsRefused NoSuchUpdate f (Ok reply) (with_edge f e b))
      (λ w. StepsAt f e c (events.Take w) (Ok reply) (with_edge f e b)))) (sym at)
      (subst (λ o. MatchOption o (IsRefused NoSuchUpdate f (Ok reply) (with_edge f e b))
      (λ w. StepsAt f e a (events.Take w) (Ok reply) (with_edge f e b))) (sym there)
      (record { after = b; answer = Ok reply; steps = steps; result_is = refl; new_is = refl }));
}

-- another's update
pub takes : {f : Fabric} {e k : ℕ} (a : Edge) (u : Fields) {c : LocalRoutes} → nth f.edges e ≡ Some a
    → nth f.pool k ≡ Some u → (u.register.originator == address_of a) ≡ false
    → is_listed (table_of a) u.register.originator ≡ true → after_take a.routes u ≡ c
    → Going f (Deliver e k) (with_edge f e (record a { routes = c }))
takes {f} {e} {k} a u {c} at there other listed is =
    delivers (record a { routes = c }) (taking a u) at there
    (rw other (listed, refl, rw is))

-- ---- another station, at the third edge

abbrev pub lodger : Station
lodger = record { vni = 5001; mac = 0x020000000002 }

abbrev pub lodger_register : ℕ → Register
lodger_register address = record { originator = address; key = key_of lodger }

abbrev pub fixed_in : ℕ → ℕ → Value
fixed_in life counter = record { incarnation = life; counter = counter; content = fixed }

abbrev pub said_fixed : ℕ → Value
said_fixed counter = fixed_in 0 counter

abbrev pub said_free : ℕ → Value
said_free counter = record { incarnation = 0; counter = counter; content = Withdrawn }

-- an edge that doesn't advertise it doesn't lose it
unlost : (life : ℕ) {address : ℕ} (said : List Said) (counter : ℕ) (pending : List Register) (learned : Learning)
    → is_some (advert_of (looked_up said (lodger_register address))) ≡ false
    → after_losing_at (routes_with (speaker_in life address said counter pending) learned) lodger
    ≡ routes_with (speaker_in life address said counter pending) learned
unlost life {address} said counter pending learned none =
    rw (ap (λ o. is_some (advert_of o)) (found said (lodger_register address)) ∙ none)

-- it takes an update about it unchanged
pub hears_of : (life address other : ℕ) (said : List Said) (counter : ℕ) (pending : List Register) (learned : Learning)
    (v : Value)
    → is_news (looked_up said (lodger_register other)) v ≡ true
    → is_some (advert_of (looked_up ((lodger_register other, v) ∷ said) (lodger_register address))) ≡ false
    → after_take (routes_with (speaker_in life address said counter pending) learned)
    (record { register = lodger_register other; value = v })
    ≡ routes_with (speaker_in life address ((lodger_register other, v) ∷ said) counter pending) learned
hears_of life address other said counter pending learned v news none =
    (rw (taken said (lodger_register other) v news))
    ∙ unlost life ((lodger_register other, v) ∷ said) counter pending learned none

-- and one that is no news
pub hears_again : (life address other : ℕ) (said : List Said) (counter : ℕ) (pending : List Register)
    (learned : Learning) (v : Value) → is_news (looked_up said (lodger_register other)) v ≡ false
    → is_some (advert_of (looked_up said (lodger_register address))) ≡ false
    → after_take (routes_with (speaker_in life address said counter pending) learned)
    (record { register = lodger_register other; value = v })
    ≡ routes_with (speaker_in life address said counter pending) learned
hears_again life address other said counter pending learned v old none =
    (rw (unchanged said (lodger_register other) v old))
    ∙ unlost life said counter pending learned none

-- nothing is learnt of it, and there is room
pub record IsFree (l : Learning) : Type 0 where
  pub none : entry_at l lodger ≡ None
  pub room : is_full l ≡ false

pub free_first : IsFree nobody_learnt
free_first = record {
  none = get-empty {X = Entry} station_cmp lodger;
  room = rw (len-empty station_cmp Entry);
}

pub pinned_entry : {l : Learning} → IsFree l → entry_at (pinned_on l lodger 1) lodger ≡ Some (pinned_at 1)
pinned_entry {l} f =
    (rw (sets_pin l lodger 1 (λ none. f.room)).entries)
    ∙ get-insert station_total l.entries lodger (pinned_at 1) lodger

-- once it is pinned and unpinned, this is so again
pub free_again : {l : Learning} → IsFree l → IsFree (gone (pinned_on l lodger 1) lodger)
free_again {l} f = record {
  none = removal_here (pinned_on l lodger 1) lodger;
  room = (λ i. size i == places i) ∙ f.room;
}
  where
    size : len (gone (pinned_on l lodger 1) lodger).entries ≡ len l.entries
    size =
        omega (
          arith,
          size_gone (pinned_on l lodger 1) lodger (pinned_at 1) (pinned_entry f),
          (size_new l
              (pinned_on l lodger 1) lodger (pinned_at 1) (sets_pin l lodger 1 (λ none. f.room)).entries f.none),
        )

    places : length (gone (pinned_on l lodger 1) lodger).places ≡ length l.places
    places = removal_places (pinned_on l lodger 1) lodger ∙ (sets_pin l lodger 1 (λ none. f.room)).places

pub pins : (life : ℕ) (tree : Tree) (address : ℕ) (said : List Said) (counter : ℕ) (pending : List Register)
    (l : Learning) (w : Windows) (n : ℕ)
    → IsFree l → next_among address 5001 lodger.mac (in_order said) ≡ Next n → nat_le (2 ^ 63) counter ≡ false
    → Steps (living life tree address said counter pending l w) (events.Pin lodger 1) (Ok (alone None))
    (living life tree address ((lodger_register address, fixed_in life (counter + 1)) ∷ said) (counter + 1)
    (marked pending (lodger_register address)) (pinned_on l lodger 1) w)
pins life tree address said counter pending l w n f next low =
    (rw is (inl (refl, refl)), refl)
  where
    before : Edge
    before = living life tree address said counter pending l w

    after : Edge
    after = living life tree address ((lodger_register address, fixed_in life (counter + 1)) ∷ said) (counter + 1)
        (marked pending (lodger_register address)) (pinned_on l lodger 1) w

    is : pin_case before lodger 1 ≡ Pin
    is =
        rw (f.none, (next_number said address 5001 lodger.mac ∙ next), low, f.room)

pub unpins : (address : ℕ) (said : List Said) (counter : ℕ) (pending : List Register) (l : Learning) (w : Windows)
    → IsFree l
    → Steps (telling address said counter pending (pinned_on l lodger 1) w) (events.Unpin lodger) (Ok nothing)
    (telling address ((lodger_register address, said_free (counter + 1)) ∷ said) (counter + 1)
    (marked pending (lodger_register address)) (gone (pinned_on l lodger 1) lodger) w)
unpins address said counter pending l w f = (
  refl,
  sym (ap
      (λ o. cond (is_pinned o) (record before { routes = after_removal before.routes lodger }) before)
      (pinned_entry f)),
)
  where
    before : Edge
    before = telling address said counter pending (pinned_on l lodger 1) w
