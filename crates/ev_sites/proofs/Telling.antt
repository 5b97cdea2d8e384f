-- Steps of the two edges' fabric: the announcements of one of them, the deliveries to the other, and the learning of
-- the guest.
use Rattle.std.proofs.Common.{◌≡◌, ◌==◌, ℕ, true, false, Some, None, List, [], ◌∷◌, ◌++◌, refl, sym}
use Rattle.std.proofs.Common.{subst, ◌∙◌}
use Rattle.std.specs.Prelude.{Ok}
use Rattle.std.specs.Borrow.{Bor}
use Rattle.std.specs.FinMap.{empty, get-empty, len-empty}
use Rattle.std.specs.Option.{MatchOption}
use Rattle.route_wire.specs.declared.update.Register.{Register}
use Rattle.route_wire.specs.declared.update.Value.{Value}
use Rattle.route_wire.specs.Fields.{Fields}
use Rattle.route_join.specs.Table.{is_listed}
use Rattle.route_join.specs.Taken.{taken_of}
use Rattle.mac_arena.specs.declared.station.Entry.{Entry}
use Rattle.mac_arena.specs.Station.{station_cmp}
use Rattle.mac_arena.specs.Learning.{Learning, is_full}
use Rattle.ev_mobility.specs.declared.seq.Seq.TheVariants.{Next}
use Rattle.ev_mobility.specs.declared.window.Window.{Window}
use Rattle.ev_claims.specs.LocalRoutes.{LocalRoutes, after_take, loses_pinned}
use Rattle.ev_edge.specs.declared.event.Event.TheVariants as events
use Rattle.ev_edge.specs.declared.reply.Reply.{Reply}
use Rattle.ev_edge.specs.Edge.{Edge, table_of, address_of}
use Rattle.ev_edge.proofs.Limiting.{limits_nothing}
use Rattle.ev_edge.specs.Learning.{Does, Learning as Learns, case_of, move_case}
use Rattle.ev_edge.specs.Steps.{Steps, lost_alert, nothing}
use Rattle.ev_fabric.specs.declared.refusal.FabricRefusal.TheVariants.{NoSuchUpdate}
use Rattle.ev_fabric.specs.declared.step.LocalEvent.{LocalEvent}
use Rattle.ev_fabric.specs.declared.step.Step.TheVariants.{Local, Announce, Deliver}
use Rattle.ev_fabric.specs.Fabric.{nth}
use Rattle.ev_fabric.specs.Local.{event_of}
use Rattle.ev_fabric.specs.Steps.{IsRefused, StepsAt, FabricSteps}
use Rattle.ev_fabric.proofs.Example.{nobody_learnt}
use Rattle.ev_sites.proofs.Tables.{Said, looked_up, found, in_order, next_among, next_number}
use Rattle.ev_sites.proofs.Guest.{guest, here, there, speaker_with}
use Rattle.ev_sites.proofs.Risen.{Windows, fabric_with, risen_edge}

-- the octets of a reference
abbrev pub lent : List ℕ → Bor (List ℕ)
lent octets = record { ref_ptr = (0, 0); now = octets }

-- ---- from outside

pub first_steps : (a b c : Edge) (pool : List Fields) (event : LocalEvent) (reply : Reply)
    → Steps a (event_of event) (Ok reply) c
    → FabricSteps (fabric_with a b pool) (Local 1 event) (Ok reply) (fabric_with c b pool)
first_steps a b c pool event reply steps =
    record { after = c; answer = Ok reply; steps = steps; result_is = refl; new_is = refl }

pub second_steps : (a : Edge) {b c : Edge} (pool : List Fields) (event : LocalEvent) {reply : Reply}
    → Steps b (event_of event) (Ok reply) c
    → FabricSteps (fabric_with a b pool) (Local 2 event) (Ok reply) (fabric_with a c pool)
second_steps a {c} pool event {reply} steps =
    record { after = c; answer = Ok reply; steps = steps; result_is = refl; new_is = refl }

-- ---- announcing

abbrev pub update : Register → Value → Fields
update r v = record { register = r; value = v }

abbrev pub announcing : Fields → Reply
announcing u = record nothing { announced = Some u }

-- it announces the register that has been pending longest
announces : (address : ℕ) (said : List Said) (counter : ℕ) (r : Register) (rs : List Register) (l : Learning)
    (w : Windows) (v : Value) → looked_up said r ≡ Some v
    → Steps (risen_edge (speaker_with address said counter (r ∷ rs)) l w) events.Announce (Ok (announcing (update r v)))
    (risen_edge (speaker_with address said counter rs) l w)
announces address said counter r rs l w v is = (
  rw (found said r ∙ is),
  refl,
)

pub first_announces : (b : Edge) (pool : List Fields) (said : List Said) (counter : ℕ) (r : Register)
    (rs : List Register) (l : Learning) (w : Windows) (v : Value) → looked_up said r ≡ Some v
    → FabricSteps (fabric_with (risen_edge (speaker_with here said counter (r ∷ rs)) l w) b pool) (Announce 1)
    (Ok (announcing (update r v)))
    (fabric_with (risen_edge (speaker_with here said counter rs) l w) b (pool ++ update r v ∷ []))
first_announces b pool said counter r rs l w v is =
    (risen_edge (speaker_with here said counter rs) l w, announces here said counter r rs l w v is, refl)

pub second_announces : (a : Edge) (pool : List Fields) (said : List Said) (counter : ℕ) (r : Register)
    (rs : List Register) (l : Learning) (w : Windows) (v : Value) → looked_up said r ≡ Some v
    → FabricSteps (fabric_with a (risen_edge (speaker_with there said counter (r ∷ rs)) l w) pool) (Announce 2)
    (Ok (announcing (update r v)))
    (fabric_with a (risen_edge (speaker_with there said counter rs) l w) (pool ++ update r v ∷ []))
second_announces a pool said counter r rs l w v is =
    (risen_edge (speaker_with there said counter rs) l w, announces there said counter r rs l w v is, refl)

-- ---- taking

abbrev pub taking : Edge → Fields → Reply
taking a u = record nothing { taken = Some (taken_of (table_of a) u); alert = lost_alert (loses_pinned a.routes u) }

-- another's update
takes : (a : Edge) (u : Fields) (c : LocalRoutes) → (u.register.originator == address_of a) ≡ false
    → is_listed (table_of a) u.register.originator ≡ true → after_take a.routes u ≡ c
    → Steps a (events.Take u) (Ok (taking a u)) (record a { routes = c })
takes a u c other listed is =
    rw other (listed, refl, rw is)

pub first_takes : (a b : Edge) (pool : List Fields) (k : ℕ) {u : Fields} {c : LocalRoutes} → nth pool k ≡ Some u
    → (u.register.originator == address_of a) ≡ false → is_listed (table_of a) u.register.originator ≡ true
    → after_take a.routes u ≡ c
    → FabricSteps (fabric_with a b pool) (Deliver 1 k) (Ok (taking a u)) (fabric_with (record a { routes = c }) b pool)
first_takes a b pool k {u} {c} at other listed is =
    subst (λ o. MatchOption o
    (IsRefused NoSuchUpdate (fabric_with a b pool) (Ok (taking a u)) (fabric_with (record a { routes = c }) b pool))
    (λ w. StepsAt (fabric_with a b pool) 1 a (events.Take w) (Ok (taking a u))
    (fabric_with (record a { routes = c }) b pool))) (sym at)
    (record {
      after = record a { routes = c };
      answer = Ok (taking a u);
      steps = takes a u c other listed is;
      result_is = refl;
      new_is = refl;
    })

pub second_takes : (a b : Edge) (pool : List Fields) (k : ℕ) {u : Fields} {c : LocalRoutes} → nth pool k ≡ Some u
    → (u.register.originator == address_of b) ≡ false → is_listed (table_of b) u.register.originator ≡ true
    → after_take b.routes u ≡ c
    → FabricSteps (fabric_with a b pool) (Deliver 2 k) (Ok (taking b u)) (fabric_with a (record b { routes = c }) pool)
second_takes a b pool k {u} {c} at other listed is =
    subst (λ o. MatchOption o
    (IsRefused NoSuchUpdate (fabric_with a b pool) (Ok (taking b u)) (fabric_with a (record b { routes = c }) pool))
    (λ w. StepsAt (fabric_with a b pool) 2 b (events.Take w) (Ok (taking b u))
    (fabric_with a (record b { routes = c }) pool))) (sym at)
    (record {
      after = record b { routes = c };
      answer = Ok (taking b u);
      steps = takes b u c other listed is;
      result_is = refl;
      new_is = refl;
    })

-- ---- learning

-- nothing is learnt yet, and there is room for one station
room : is_full nobody_learnt ≡ false
room = rw (len-empty station_cmp Entry)

-- an edge that has made only its flood advert, and has learnt nothing
abbrev pub newcomer : ℕ → List Said → List Register → Edge
newcomer address said pending = risen_edge (speaker_with address said 1 pending) nobody_learnt empty

-- it learns the guest, with a number above all others
pub learns : (address : ℕ) (said : List Said) (pending : List Register) (n : ℕ) (e' : Edge)
    → next_among address 5001 guest.mac (in_order said) ≡ Next n
    → Does (move_case None 0 n) (newcomer address said pending) guest 1 None e'
    → Learns (newcomer address said pending) guest 1 None e'
learns address said pending n e' next does =
    rw ((limits_nothing (newcomer address said pending) guest 1 refl).0 ∙ is) does
  where
    is : case_of (newcomer address said pending) guest ≡ move_case None 0 n
    is =
        rw (
          get-empty {X = Entry} station_cmp guest,
          get-empty {X = Window} station_cmp guest,
          (next_number said address 5001 guest.mac ∙ next),
          room,
        )
