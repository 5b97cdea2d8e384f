-- A run and its rounds: a station moves from the first of three edges to the second, while another station at the third
-- is pinned and unpinned.
use Rattle.std.proofs.Common.{◌≡◌, inl, inr, ℕ, zero, suc, ◌+◌, ◌*◌, Bool, true, false, not, ◌&&◌, ◌||◌, Option, Some}
use Rattle.std.proofs.Common.{None, List, [], ◌∷◌}
use Rattle.std.proofs.Common.{◌++◌, take, refl, sym, ap, subst, ◌∙◌, arith}
use Rattle.std.proofs.lemmas.Bool.{and_parts}
use Rattle.std.specs.Prelude.{Ok, Contains}
use Rattle.std.specs.FinMap.{get, insert, empty, get-empty}
use Rattle.ether_wire.specs.Frame.{frame_of}
use Rattle.route_wire.specs.declared.update.Ip.{Ip}
use Rattle.route_wire.specs.declared.update.Key.TheVariants.{Mac}
use Rattle.route_wire.specs.declared.update.Register.{Register}
use Rattle.route_wire.specs.declared.update.Value.{Value}
use Rattle.route_wire.specs.Fields.{Fields}
use Rattle.route_wire.specs.Order.{is_newer}
use Rattle.route_join.specs.Table.{Table, value_at, register_of}
use Rattle.mac_arena.specs.declared.station.Station.{Station}
use Rattle.mac_arena.specs.declared.station.Entry.{Entry}
use Rattle.mac_arena.specs.Station.{station_cmp}
use Rattle.mac_arena.specs.Learning.{Learning, after_pin as pinned_on}
use Rattle.mac_arena.specs.Learning.{after_removal as gone}
use Rattle.rstp_state.specs.Selection.{selected_ports, selected_root, best_path}
use Rattle.rstp_run.specs.Events.{RunsHappen}
use Rattle.rstp_run.specs.Settled.{SettledByLists}
use Rattle.ev_tunnel.specs.declared.decision.Source.TheVariants.{Port}
use Rattle.ev_mobility.specs.declared.window.Window.{Window}
use Rattle.ev_mobility.specs.Window.{after_move}
use Rattle.ev_claims.specs.Speaker.{Speaker}
use Rattle.ev_edge.specs.declared.arrival.Arrival.TheVariants.{Data}
use Rattle.ev_edge.specs.declared.event.Event.TheVariants as events
use Rattle.ev_edge.specs.declared.reply.Reply.{Reply}
use Rattle.ev_edge.specs.Arrival.{frame_arrival}
use Rattle.ev_edge.specs.Edge.{Edge, table_of}
use Rattle.ev_edge.specs.Steps.{Steps, alone, nothing}
use Rattle.ev_fabric.specs.declared.step.LocalEvent.TheVariants.{Frame, Pin, Unpin, PortUp}
use Rattle.ev_fabric.specs.declared.step.Step.{Step}
use Rattle.ev_fabric.specs.declared.step.Step.TheVariants.{Local, Announce, Deliver, Restart}
use Rattle.ev_fabric.specs.Fabric.{Fabric, IsEdge}
use Rattle.ev_fabric.specs.Runs.{Runs}
use Rattle.ev_fabric.specs.Sound.{IsSound}
use Rattle.ev_fabric.specs.Laws.{Starts, EveryRun, IsFrameFor}
use Rattle.ev_fabric.specs.Meanwhile.{FramesMeanwhile}
use Rattle.ev_fabric.specs.Station.{is_of, AgreesOn, StationComes, SaysTheSame, LeavesStation, RunsBeside, RunsAlone}
use Rattle.ev_fabric.specs.Station.{to_come_on}
use Rattle.ev_fabric.specs.Station.{StationMovesAnyhow, RunsLosing}
use Rattle.ev_fabric.specs.Rounds.{WasAnnounced, AllAnnounced, AllTaken, Rounds, IsOrderly, StationAgrees, AgreesInFour}
use Rattle.ev_fabric.specs.Rounds.{AgreesInTwo, TakenStays}
use Rattle.ev_fabric.proofs.Example.{nobody_learnt}
use Rattle.ev_fabric.proofs.StationRounds.{beside_runs}
use Rattle.ev_sites.specs.Witnesses.{HasRun, IsPendingOf, Delivers, InTraffic, MoveInTraffic, all_steps}
use Rattle.rstp_run.specs.Events.{start}
use Rattle.ev_sites.proofs.Ring.{two_ports, root_bridge}
use Rattle.ev_sites.proofs.Tables.{Said, table_with, looked_up, found}
use Rattle.ev_sites.proofs.Guest.{guest, here, there, flood_register, guest_register, said_first, said_guest, said_gone}
use Rattle.ev_sites.proofs.Guest.{speaker_with, routes_with, keeps, withdraws}
use Rattle.ev_sites.proofs.Risen.{everyone, nobody, Windows, root_settings, edge_with, risen_edge, rises, decided}
use Rattle.ev_sites.proofs.Risen.{sending, sends, passes_one}
use Rattle.ev_sites.proofs.Telling.{lent, update, learns}
use Rattle.ev_sites.proofs.Agreed.{hello, hello_arrives, guest_learnt, guest_entry, letter}
use Rattle.ev_sites.proofs.Trio.{far, configs_three, trio_with, trio_opened, trio_configs, trio_start, Going, Ran}
use Rattle.ev_sites.proofs.Trio.{follows, does}
use Rattle.ev_sites.proofs.Trio.{telling, announces, takes, lodger, lodger_register, said_fixed, said_free, hears_of}
use Rattle.ev_sites.proofs.Trio.{IsFree, free_first, free_again, pins, unpins}

-- ---- the updates
abbrev pub flood_one : Fields
flood_one = update (flood_register here) said_first

abbrev pub flood_two : Fields
flood_two = update (flood_register there) said_first

abbrev pub flood_three : Fields
flood_three = update (flood_register far) said_first

abbrev pub guest_here : Fields
guest_here = update (guest_register here) (said_guest 0)

abbrev guest_there : Fields
guest_there = update (guest_register there) (said_guest 1)

abbrev guest_gone : Fields
guest_gone = update (guest_register here) said_gone

abbrev pub lodger_first : Fields
lodger_first = update (lodger_register far) (said_fixed 2)

abbrev pub lodger_gone : Fields
lodger_gone = update (lodger_register far) (said_free 3)

abbrev lodger_again : Fields
lodger_again = update (lodger_register far) (said_fixed 4)

abbrev pub said_of : Fields → Said
said_of u = (u.register, u.value)

-- ---- the tables of the three edges, by their updates, the newest first
abbrev a0 : List Said
a0 = said_of flood_one ∷ []

abbrev pub a1 : List Said
a1 = said_of guest_here ∷ a0

abbrev a2 : List Said
a2 = said_of lodger_first ∷ a1

abbrev a3 : List Said
a3 = said_of guest_gone ∷ said_of guest_there ∷ a2

abbrev a4 : List Said
a4 = said_of lodger_gone ∷ a3

abbrev a5 : List Said
a5 = said_of lodger_again ∷ a4

abbrev b0 : List Said
b0 = said_of flood_two ∷ []

abbrev pub b1 : List Said
b1 = said_of guest_here ∷ b0

abbrev b2 : List Said
b2 = said_of guest_there ∷ b1

abbrev b3 : List Said
b3 = said_of lodger_first ∷ b2

abbrev b4 : List Said
b4 = said_of lodger_gone ∷ b3

abbrev b5 : List Said
b5 = said_of guest_gone ∷ b4

abbrev b6 : List Said
b6 = said_of lodger_again ∷ b5

abbrev c0 : List Said
c0 = said_of flood_three ∷ []

abbrev c1 : List Said
c1 = said_of guest_here ∷ c0

abbrev c2 : List Said
c2 = said_of lodger_first ∷ c1

abbrev pub c3 : List Said
c3 = said_of lodger_gone ∷ c2

abbrev c4 : List Said
c4 = said_of lodger_again ∷ c3

abbrev c5 : List Said
c5 = said_of guest_there ∷ c4

abbrev c6 : List Said
c6 = (lodger_register far, said_free 5) ∷ c5

abbrev c7 : List Said
c7 = said_of guest_gone ∷ c6

-- ---- the learning tables, and the moves
abbrev pub lodged : Learning
lodged = pinned_on nobody_learnt lodger 1

abbrev pub left_once : Learning
left_once = gone lodged lodger

abbrev lodged_again : Learning
lodged_again = pinned_on left_once lodger 1

abbrev left_again : Learning
left_again = gone lodged_again lodger

abbrev guest_lost : Learning
guest_lost = gone guest_learnt guest

free_once : IsFree left_once
free_once = free_again free_first

abbrev one_move : Windows
one_move = insert empty guest (after_move (get {X = Window} {R = station_cmp} empty guest) 0)

-- ---- the edges on the way
abbrev first_up : Edge
first_up = telling here a0 1 (flood_register here ∷ []) nobody_learnt empty

abbrev first_learnt : Edge
first_learnt = telling here a1 2 (flood_register here ∷ guest_register here ∷ []) guest_learnt empty

abbrev first_half : Edge
first_half = telling here a1 2 (guest_register here ∷ []) guest_learnt empty

abbrev pub first_0 : Edge
first_0 = telling here a1 2 [] guest_learnt empty

abbrev first_1 : Edge
first_1 = telling here a2 2 [] guest_learnt empty

abbrev first_2 : Edge
first_2 = telling here a3 3 (guest_register here ∷ []) guest_lost empty

abbrev first_3 : Edge
first_3 = telling here a4 3 (guest_register here ∷ []) guest_lost empty

abbrev first_4 : Edge
first_4 = telling here a4 3 [] guest_lost empty

abbrev first_5 : Edge
first_5 = telling here a5 3 [] guest_lost empty

abbrev second_up : Edge
second_up = telling there b0 1 (flood_register there ∷ []) nobody_learnt empty

abbrev second_told : Edge
second_told = telling there b0 1 [] nobody_learnt empty

abbrev pub second_0 : Edge
second_0 = telling there b1 1 [] nobody_learnt empty

abbrev second_1 : Edge
second_1 = telling there b2 2 (guest_register there ∷ []) guest_learnt one_move

abbrev second_2 : Edge
second_2 = telling there b2 2 [] guest_learnt one_move

abbrev second_3 : Edge
second_3 = telling there b3 2 [] guest_learnt one_move

abbrev second_4 : Edge
second_4 = telling there b4 2 [] guest_learnt one_move

abbrev second_5 : Edge
second_5 = telling there b5 2 [] guest_learnt one_move

abbrev second_6 : Edge
second_6 = telling there b6 2 [] guest_learnt one_move

abbrev third_up : Edge
third_up = telling far c0 1 (flood_register far ∷ []) nobody_learnt empty

abbrev third_told : Edge
third_told = telling far c0 1 [] nobody_learnt empty

abbrev third_heard : Edge
third_heard = telling far c1 1 [] nobody_learnt empty

abbrev third_pinned : Edge
third_pinned = telling far c2 2 (lodger_register far ∷ []) lodged empty

abbrev third_said : Edge
third_said = telling far c2 2 [] lodged empty

abbrev pub third_0 : Edge
third_0 = telling far c3 3 (lodger_register far ∷ []) left_once empty

abbrev pub third_1 : Edge
third_1 = telling far c3 3 [] left_once empty

abbrev third_2 : Edge
third_2 = telling far c4 4 (lodger_register far ∷ []) lodged_again empty

abbrev third_3 : Edge
third_3 = telling far c5 4 (lodger_register far ∷ []) lodged_again empty

abbrev third_4 : Edge
third_4 = telling far c5 4 [] lodged_again empty

abbrev third_5 : Edge
third_5 = telling far c6 5 (lodger_register far ∷ []) left_again empty

abbrev third_6 : Edge
third_6 = telling far c7 5 (lodger_register far ∷ []) left_again empty

-- ---- the pool
abbrev all_said : List Fields
all_said = flood_one ∷ guest_here ∷ flood_two ∷ flood_three ∷ lodger_first ∷ guest_there ∷ lodger_gone ∷ guest_gone
    ∷ lodger_again ∷ []

abbrev pool : ℕ → List Fields
pool n = take n all_said

-- ---- the fabrics on the way
abbrev up : Fabric
up = trio_with first_up second_up third_up (pool 0)

abbrev p1 : Fabric
p1 = trio_with first_learnt second_up third_up (pool 0)

abbrev p2 : Fabric
p2 = trio_with first_half second_up third_up (pool 1)

abbrev p3 : Fabric
p3 = trio_with first_0 second_up third_up (pool 2)

abbrev p4 : Fabric
p4 = trio_with first_0 second_told third_up (pool 3)

abbrev p5 : Fabric
p5 = trio_with first_0 second_told third_told (pool 4)

abbrev p6 : Fabric
p6 = trio_with first_0 second_0 third_told (pool 4)

abbrev p7 : Fabric
p7 = trio_with first_0 second_0 third_heard (pool 4)

abbrev p8 : Fabric
p8 = trio_with first_0 second_0 third_pinned (pool 4)

abbrev p9 : Fabric
p9 = trio_with first_0 second_0 third_said (pool 5)

abbrev pub agreed : Fabric
agreed = trio_with first_0 second_0 third_0 (pool 5)

abbrev s0 : Fabric
s0 = trio_with first_0 second_1 third_0 (pool 5)

abbrev s1 : Fabric
s1 = trio_with first_1 second_1 third_0 (pool 5)

abbrev s2 : Fabric
s2 = trio_with first_1 second_2 third_0 (pool 6)

abbrev s3 : Fabric
s3 = trio_with first_1 second_3 third_0 (pool 6)

abbrev s4 : Fabric
s4 = trio_with first_2 second_3 third_0 (pool 6)

abbrev s5 : Fabric
s5 = trio_with first_2 second_3 third_1 (pool 7)

abbrev s6 : Fabric
s6 = trio_with first_2 second_3 third_2 (pool 7)

abbrev s7 : Fabric
s7 = trio_with first_3 second_3 third_2 (pool 7)

abbrev s8 : Fabric
s8 = trio_with first_3 second_3 third_3 (pool 7)

abbrev s9 : Fabric
s9 = trio_with first_3 second_4 third_3 (pool 7)

abbrev s10 : Fabric
s10 = trio_with first_4 second_4 third_3 (pool 8)

abbrev s11 : Fabric
s11 = trio_with first_4 second_4 third_4 (pool 9)

abbrev s12 : Fabric
s12 = trio_with first_4 second_4 third_5 (pool 9)

abbrev s13 : Fabric
s13 = trio_with first_5 second_4 third_5 (pool 9)

abbrev s14 : Fabric
s14 = trio_with first_5 second_5 third_5 (pool 9)

abbrev s15 : Fabric
s15 = trio_with first_5 second_6 third_5 (pool 9)

abbrev s16 : Fabric
s16 = trio_with first_5 second_6 third_6 (pool 9)

-- ---- the steps
p1_p2 : Going p1 (Announce 1) p2
p1_p2 = announces first_learnt flood_one (found a1 flood_one.register) refl refl refl

p2_p3 : Going p2 (Announce 1) p3
p2_p3 = announces first_half guest_here (found a1 guest_here.register) refl refl refl

p3_p4 : Going p3 (Announce 2) p4
p3_p4 = announces second_up flood_two (found b0 flood_two.register) refl refl refl

p4_p5 : Going p4 (Announce 3) p5
p4_p5 = announces third_up flood_three (found c0 flood_three.register) refl refl refl

p5_p6 : Going p5 (Deliver 2 2) p6
p5_p6 = takes second_told guest_here refl refl refl refl
    (keeps 0 there here b0 1 [] nobody_learnt guest_here.value refl refl)

p6_p7 : Going p6 (Deliver 3 2) p7
p6_p7 = takes third_told guest_here refl refl refl refl
    (keeps 0 far here c0 1 [] nobody_learnt guest_here.value refl refl)

p7_p8 : Going p7 (Local 3 (Pin lodger 1)) p8
p7_p8 = does third_pinned (alone None) refl
    (pins 0 root_bridge far c1 1 [] nobody_learnt empty 0 free_first refl refl)

p8_p9 : Going p8 (Announce 3) p9
p8_p9 = announces third_pinned lodger_first (found c2 lodger_first.register) refl refl refl

p9_agreed : Going p9 (Local 3 (Unpin lodger)) agreed
p9_agreed = does third_0 nothing refl
    (unpins far c2 2 [] nobody_learnt empty free_first)

s0_s1 : Going s0 (Deliver 1 5) s1
s0_s1 = takes first_0 lodger_first refl refl refl refl
    (hears_of 0 here far a1 2 [] guest_learnt lodger_first.value refl refl)

s1_s2 : Going s1 (Announce 2) s2
s1_s2 = announces second_1 guest_there (found b2 guest_there.register) refl refl refl

s2_s3 : Going s2 (Deliver 2 5) s3
s2_s3 = takes second_2 lodger_first refl refl refl refl
    (hears_of 0 there far b2 2 [] guest_learnt lodger_first.value refl refl)

s3_s4 : Going s3 (Deliver 1 6) s4
s3_s4 = takes first_1 guest_there refl refl refl refl
    (withdraws here there a2 2 [] guest_learnt guest_there.value refl refl)

s4_s5 : Going s4 (Announce 3) s5
s4_s5 = announces third_0 lodger_gone (found c3 lodger_gone.register) refl refl refl

s5_s6 : Going s5 (Local 3 (Pin lodger 1)) s6
s5_s6 = does third_2 (alone None) refl
    (pins 0 root_bridge far c3 3 [] left_once empty 0 free_once refl refl)

s6_s7 : Going s6 (Deliver 1 7) s7
s6_s7 = takes first_2 lodger_gone refl refl refl refl
    (hears_of 0 here far a3 3 (guest_register here ∷ []) guest_lost lodger_gone.value refl refl)

s7_s8 : Going s7 (Deliver 3 6) s8
s7_s8 = takes third_2 guest_there refl refl refl refl
    (keeps 0 far there c4 4 (lodger_register far ∷ []) lodged_again guest_there.value refl refl)

s8_s9 : Going s8 (Deliver 2 7) s9
s8_s9 = takes second_3 lodger_gone refl refl refl refl
    (hears_of 0 there far b3 2 [] guest_learnt lodger_gone.value refl refl)

s9_s10 : Going s9 (Announce 1) s10
s9_s10 = announces first_3 guest_gone (found a4 guest_gone.register) refl refl refl

s10_s11 : Going s10 (Announce 3) s11
s10_s11 = announces third_3 lodger_again (found c5 lodger_again.register) refl refl refl

s11_s12 : Going s11 (Local 3 (Unpin lodger)) s12
s11_s12 = does third_5 nothing refl
    (unpins far c5 4 [] left_once empty free_once)

s12_s13 : Going s12 (Deliver 1 9) s13
s12_s13 = takes first_4 lodger_again refl refl refl refl
    (hears_of 0 here far a4 3 [] guest_lost lodger_again.value refl refl)

s13_s14 : Going s13 (Deliver 2 8) s14
s13_s14 = takes second_4 guest_gone refl refl refl refl
    (keeps 0 there here b4 2 [] guest_learnt guest_gone.value refl refl)

s14_s15 : Going s14 (Deliver 2 9) s15
s14_s15 = takes second_5 lodger_again refl refl refl refl
    (hears_of 0 there far b5 2 [] guest_learnt lodger_again.value refl refl)

s15_s16 : Going s15 (Deliver 3 8) s16
s15_s16 = takes third_5 guest_gone refl refl refl refl
    (keeps 0 far here c6 5 (lodger_register far ∷ []) left_again guest_gone.value refl refl)

-- ---- a pin at the third edge changes no register of the guest
same_said : (said : List Said) (v : Value) (ip : Option Ip)
    → value_at (table_with ((lodger_register far, v) ∷ said)) (register_of far (Mac 5001 guest.mac ip))
    ≡ value_at (table_with said) (register_of far (Mac 5001 guest.mac ip))
same_said said v ip =
    found ((lodger_register far, v) ∷ said) (register_of far (Mac 5001 guest.mac ip))
    ∙ sym (found said (register_of far (Mac 5001 guest.mac ip)))

at_third : (old new : Fabric) {a b : Edge} → IsEdge old 2 a → IsEdge new 2 b → SaysTheSame guest a b → (x : ℕ)
    (c d : Edge) → 3 ≡ suc x → IsEdge old x c → IsEdge new x d → SaysTheSame guest c d
at_third old new {a} {b} at_a at_b same x c d place at_c at_d =
    let is : 2 ≡ x = omega (arith, place) in
    let here_c : IsEdge old 2 c = rw is at_c in
    let here_d : IsEdge new 2 d = rw is at_d in
    let c_is : a ≡ c = cc in
    let d_is : b ≡ d = cc in
    rw c_is at (rw d_is at same)

leaves_s6 : (x : ℕ) (c d : Edge) → 3 ≡ suc x → IsEdge s5 x c → IsEdge s6 x d → SaysTheSame guest c d
leaves_s6 = at_third s5 s6 refl refl (λ ip. same_said c3 (said_fixed 4) ip)

leaves_s12 : (x : ℕ) (c d : Edge) → 3 ≡ suc x → IsEdge s11 x c → IsEdge s12 x d → SaysTheSame guest c d
leaves_s12 = at_third s11 s12 refl refl (λ ip. same_said c5 (said_free 5) ip)

-- ---- runs beside the guest
record Way (f : Fabric) (steps : List Step) (g : Fabric) : Type 0 where
  runs : RunsBeside 0 1 guest f steps g

by : {f g : Fabric} {step : Step} → Going f step g → LeavesStation 0 1 guest f step g → Way f (step ∷ []) g
by {f} {g} {step} go leaves = record { runs = (g, Ok go.reply, go.goes, leaves, refl) }

after : (xs ys : List Step) (f g k : Fabric) → RunsBeside 0 1 guest f xs g → RunsBeside 0 1 guest g ys k
    → RunsBeside 0 1 guest f (xs ++ ys) k
after [] ys f g k h l = (rw h at l)
after (x ∷ xs) ys f g k h l = (h.0, h.1, h.2, h.3, after xs ys h.0 g k h.4 l)

on : {f g k : Fabric} {xs ys : List Step} → Way f xs g → Way g ys k → Way f (xs ++ ys) k
on {f} {g} {k} {xs} {ys} h l = record { runs = after xs ys f g k h.runs l.runs }

plain : {f g : Fabric} (xs : List Step) → Way f xs g → Runs f xs g
plain {f} {g} xs h = beside_runs 0 1 guest xs f g h.runs

-- ---- the parts of the move
abbrev gap1 : List Step
gap1 = Deliver 1 5 ∷ []

in_gap1 : Way s0 gap1 s1
in_gap1 = by s0_s1 tt

goes1 : Way s1 (Announce 2 ∷ []) s2
goes1 = by s1_s2 tt

abbrev gap2 : List Step
gap2 = Deliver 2 5 ∷ []

in_gap2 : Way s2 gap2 s3
in_gap2 = by s2_s3 tt

goes2 : Way s3 (Deliver 1 6 ∷ []) s4
goes2 = by s3_s4 tt

abbrev gap3 : List Step
gap3 = Announce 3 ∷ Local 3 (Pin lodger 1) ∷ Deliver 1 7 ∷ []

in_gap3 : Way s4 gap3 s7
in_gap3 = on (by s4_s5 tt) (on (by s5_s6 leaves_s6) (by s6_s7 tt))

goes3 : Way s7 (Deliver 3 6 ∷ []) s8
goes3 = by s7_s8 tt

abbrev gap4 : List Step
gap4 = Deliver 2 7 ∷ []

in_gap4 : Way s8 gap4 s9
in_gap4 = by s8_s9 tt

goes4 : Way s9 (Announce 1 ∷ []) s10
goes4 = by s9_s10 tt

abbrev gap5 : List Step
gap5 = Announce 3 ∷ Local 3 (Unpin lodger) ∷ Deliver 1 9 ∷ []

in_gap5 : Way s10 gap5 s13
in_gap5 = on (by s10_s11 tt) (on (by s11_s12 leaves_s12) (by s12_s13 tt))

goes5 : Way s13 (Deliver 2 8 ∷ []) s14
goes5 = by s13_s14 tt

abbrev gap6 : List Step
gap6 = Deliver 2 9 ∷ []

in_gap6 : Way s14 gap6 s15
in_gap6 = by s14_s15 tt

goes6 : Way s15 (Deliver 3 8 ∷ []) s16
goes6 = by s15_s16 tt

abbrev parts : List (List Step × Step)
parts =
    (gap1, Announce 2) ∷ (gap2, Deliver 1 6) ∷ (gap3, Deliver 3 6) ∷ (gap4, Announce 1) ∷ (gap5, Deliver 2 8) ∷
    (gap6, Deliver 3 8) ∷ []

pending1 : IsPendingOf lodger s0
pending1 = (2, third_0, lodger_register far, refl, (0, omega arith, refl), refl)

delivers1 : Delivers lodger s0 gap1 s1
delivers1 = record {
  place = 0;
  edge = first_0;
  number = 4;
  update = lodger_first;
  at = refl;
  news = rw (found a1 lodger_first.register);
  there = refl;
  of = refl;
  among = (0, omega arith, refl);
}

pending2 : IsPendingOf lodger s2
pending2 = (2, third_0, lodger_register far, refl, (0, omega arith, refl), refl)

delivers2 : Delivers lodger s2 gap2 s3
delivers2 = record {
  place = 1;
  edge = second_2;
  number = 4;
  update = lodger_first;
  at = refl;
  news = rw (found b2 lodger_first.register);
  there = refl;
  of = refl;
  among = (0, omega arith, refl);
}

pending3 : IsPendingOf lodger s4
pending3 = (2, third_0, lodger_register far, refl, (0, omega arith, refl), refl)

delivers3 : Delivers lodger s4 gap3 s7
delivers3 = record {
  place = 0;
  edge = first_2;
  number = 6;
  update = lodger_gone;
  at = refl;
  news = rw (found a3 lodger_gone.register);
  there = refl;
  of = refl;
  among = (2, omega arith, refl);
}

pending4 : IsPendingOf lodger s8
pending4 = (2, third_3, lodger_register far, refl, (0, omega arith, refl), refl)

delivers4 : Delivers lodger s8 gap4 s9
delivers4 = record {
  place = 1;
  edge = second_3;
  number = 6;
  update = lodger_gone;
  at = refl;
  news = rw (found b3 lodger_gone.register);
  there = refl;
  of = refl;
  among = (0, omega arith, refl);
}

pending5 : IsPendingOf lodger s10
pending5 = (2, third_3, lodger_register far, refl, (0, omega arith, refl), refl)

delivers5 : Delivers lodger s10 gap5 s13
delivers5 = record {
  place = 0;
  edge = first_4;
  number = 8;
  update = lodger_again;
  at = refl;
  news = rw (found a4 lodger_again.register);
  there = refl;
  of = refl;
  among = (2, omega arith, refl);
}

pending6 : IsPendingOf lodger s14
pending6 = (2, third_5, lodger_register far, refl, (0, omega arith, refl), refl)

delivers6 : Delivers lodger s14 gap6 s15
delivers6 = record {
  place = 1;
  edge = second_5;
  number = 8;
  update = lodger_again;
  at = refl;
  news = rw (found b5 lodger_again.register);
  there = refl;
  of = refl;
  among = (0, omega arith, refl);
}

traffic : InTraffic lodger s0 parts s16
traffic = (
  s1,
  s2,
  plain gap1 in_gap1,
  pending1,
  delivers1,
  plain (Announce 2 ∷ []) goes1,
  (
    s3,
    s4,
    plain gap2 in_gap2,
    pending2,
    delivers2,
    plain (Deliver 1 6 ∷ []) goes2,
    (
      s7,
      s8,
      plain gap3 in_gap3,
      pending3,
      delivers3,
      plain (Deliver 3 6 ∷ []) goes3,
      (
        s9,
        s10,
        plain gap4 in_gap4,
        pending4,
        delivers4,
        plain (Announce 1 ∷ []) goes4,
        (
          s13,
          s14,
          plain gap5 in_gap5,
          pending5,
          delivers5,
          plain (Deliver 2 8 ∷ []) goes5,
          (
            s15,
            s16,
            plain gap6 in_gap6,
            pending6,
            delivers6,
            plain (Deliver 3 8 ∷ []) goes6,
            refl,
          ),
        ),
      ),
    ),
  ),
)

abbrev steps1 : List Step
steps1 = gap1 ++ Announce 2 ∷ gap2

abbrev steps2 : List Step
steps2 = Deliver 1 6 ∷ gap3 ++ Deliver 3 6 ∷ []

abbrev steps3 : List Step
steps3 = gap4 ++ Announce 1 ∷ []

abbrev steps4 : List Step
steps4 = gap5 ++ Deliver 2 8 ∷ gap6 ++ Deliver 3 8 ∷ []

abbrev later_steps : List Step
later_steps = gap3 ++ Deliver 3 6 ∷ steps3 ++ steps4

told_first : Way s0 (gap1 ++ Announce 2 ∷ []) s2
told_first = on in_gap1 goes1

first_round : Way s0 steps1 s3
first_round = on told_first in_gap2

second_round : Way s3 steps2 s8
second_round = on goes2 (on in_gap3 goes3)

third_round : Way s8 steps3 s10
third_round = on in_gap4 goes4

fourth_round : Way s10 steps4 s16
fourth_round = on in_gap5 (on goes5 (on in_gap6 goes6))

later : Way s4 later_steps s16
later = on (on in_gap3 goes3) (on third_round fourth_round)

whole : Way s0 (all_steps parts) s16
whole = on told_first (on in_gap2 (on goes2 later))

-- ---- updates of the guest that an edge has
abbrev has : Option Value → Value → Bool
has None w = false
has (Some v) w = not (is_newer w v)

abbrev has_all : List Said → List Fields → Bool
has_all es [] = true
has_all es (u ∷ us) = (not (is_of guest u.register) || has (looked_up es u.register) u.value) && has_all es us

abbrev HasIt : Table → Fields → Type 0
HasIt t u = (v : Value) × (value_at t u.register ≡ Some v) × (is_newer u.value v ≡ false)

has_each : (es : List Said) (us : List Fields) → has_all es us ≡ true → (u : Fields) → Contains us u
    → is_of guest u.register ≡ true → HasIt (table_with es) u
has_each es [] h u (n, lt, is) of = absurd (omega (arith, lt))
has_each es (w ∷ us) h u (suc n, lt, is) of = has_each es us (and_parts (not (is_of guest w.register)
    || has (looked_up es w.register) w.value) (has_all es us) h).1 u (n, omega (arith, lt), is) of
has_each es (w ∷ us) h u (zero, lt, is) of = rw is at (mine (is_of guest w.register) (ap (λ
    (x : Fields). is_of guest x.register) is ∙ of)
    (and_parts (not (is_of guest w.register) || has (looked_up es w.register) w.value) (has_all es us) h).0)
  where
    there : (o : Option Value) → looked_up es w.register ≡ o → has o w.value ≡ true → HasIt (table_with es) w
    there None e yes' = cc
    there (Some v) e yes' = (v, found es w.register ∙ e, flip (is_newer w.value v) yes')
      where
        flip : (b : Bool) → not b ≡ true → b ≡ false
        flip false q = refl
        flip true q = cc

    mine : (b : Bool) → b ≡ true → (not b || has (looked_up es w.register) w.value) ≡ true → HasIt (table_with es) w
    mine true yes' q = there (looked_up es w.register) refl q
    mine false no' q = cc

-- three edges that have them all
all_have : (us : List Fields) (a b c : Edge) (l : List Fields) (v w x : List Said) → table_of a ≡ table_with v
    → table_of b ≡ table_with w → table_of c ≡ table_with x → has_all v us ≡ true → has_all w us ≡ true
    → has_all x us ≡ true → (i : ℕ) (e : Edge) (u : Fields) → IsEdge (trio_with a b c l) i e
    → is_of guest u.register ≡ true → Contains us u → HasIt (table_of e) u
all_have us a b c o v w x p q r h k l zero e u at of in' = let is : a ≡ e = cc in
    subst (λ t. HasIt t u) (sym p ∙ ap table_of is) (has_each v us h u in' of)
all_have us a b c o v w x p q r h k l (suc zero) e u at of in' = let is : b ≡ e = cc in
    subst (λ t. HasIt t u) (sym q ∙ ap table_of is) (has_each w us k u in' of)
all_have us a b c o v w x p q r h k l (suc (suc zero)) e u at of in' = let is : c ≡ e = cc in
    subst (λ t. HasIt t u) (sym r ∙ ap table_of is) (has_each x us l u in' of)
all_have us a b c o v w x p q r h k l (suc (suc (suc i))) e u at of in' = cc

-- ---- the rounds
taken1 : AllTaken guest s0 s3
taken1 = all_have (pool 5) first_1 second_3 third_0 (pool 6) a2 b3 c3 refl refl refl refl refl refl

taken2 : AllTaken guest s3 s8
taken2 = all_have (pool 6) first_3 second_3 third_3 (pool 7) a4 b3 c5 refl refl refl refl refl refl

taken3 : AllTaken guest s8 s10
taken3 = all_have (pool 7) first_4 second_4 third_3 (pool 8) a4 b4 c5 refl refl refl refl refl refl

taken4 : AllTaken guest s10 s16
taken4 = all_have (pool 8) first_5 second_6 third_6 (pool 9) a5 b6 c7 refl refl refl refl refl refl

taken_first : AllTaken guest s2 s8
taken_first = all_have (pool 6) first_3 second_3 third_3 (pool 7) a4 b3 c5 refl refl refl refl refl refl

taken_last : AllTaken guest s16 s16
taken_last = all_have (pool 9) first_5 second_6 third_6 (pool 9) a5 b6 c7 refl refl refl refl refl refl

taken_agreed : AllTaken guest agreed agreed
taken_agreed = all_have (pool 5) first_0 second_0 third_0 (pool 5) a1 b1 c3 refl refl refl refl refl refl

-- the pending registers of the guest at three edges
pending_at : (a b c : Edge) (l : List Fields) (P : Register → Type 0)
    → ((r : Register) → is_of guest r ≡ true → Contains a.routes.speaker.pending r → P r)
    → ((r : Register) → is_of guest r ≡ true → Contains b.routes.speaker.pending r → P r)
    → ((r : Register) → is_of guest r ≡ true → Contains c.routes.speaker.pending r → P r)
    → (i : ℕ) (e : Edge) (r : Register) → IsEdge (trio_with a b c l) i e → is_of guest r ≡ true
    → Contains e.routes.speaker.pending r → P r
pending_at a b c m P h k l zero e r at of in' = let is : a ≡ e = cc in
    h r of (rw is in')
pending_at a b c m P h k l (suc zero) e r at of in' = let is : b ≡ e = cc in
    k r of (rw is in')
pending_at a b c m P h k l (suc (suc zero)) e r at of in' = let is : c ≡ e = cc in
    l r of (rw is in')
pending_at a b c m P h k l (suc (suc (suc i))) e r at of in' = cc

none : (P : Register → Type 0) (r : Register) → is_of guest r ≡ true → Contains [] r → P r
none P r of (n, lt, is) = absurd (omega (arith, lt))

other_one : (P : Register → Type 0) (r : Register) → is_of guest r ≡ true → Contains (lodger_register far ∷ []) r → P r
other_one P r of (zero, lt, is) = cc (ap (is_of guest) is)
other_one P r of (suc n, lt, is) = absurd (omega (arith, lt))

one : (P : Register → Type 0) (q : Register) → P q → (r : Register) → is_of guest r ≡ true → Contains (q ∷ []) r → P r
one P q h r of (zero, lt, is) = (rw is at h)
one P q h r of (suc n, lt, is) = absurd (omega (arith, lt))

told1 : AllAnnounced guest s0 s3
told1 = pending_at first_0 second_1 third_0 (pool 5) (WasAnnounced s0 s3) (none _)
    (one _ guest_there.register (record {
      more = guest_there ∷ [];
      pool = refl;
      value = guest_there.value;
      there =
          (0, omega arith, refl);
    }))
    (other_one _)

told2 : AllAnnounced guest s3 s8
told2 = pending_at first_1 second_3 third_0 (pool 6) (WasAnnounced s3 s8) (none _)
    (none _)
    (other_one _)

told3 : AllAnnounced guest s8 s10
told3 = pending_at first_3 second_3 third_3 (pool 7) (WasAnnounced s8 s10)
    (one _ guest_gone.register (record {
      more = guest_gone ∷ [];
      pool = refl;
      value = guest_gone.value;
      there =
          (0, omega arith, refl);
    }))
    (none _)
    (other_one _)

told4 : AllAnnounced guest s10 s16
told4 = pending_at first_4 second_4 third_3 (pool 8) (WasAnnounced s10 s16) (none _)
    (none _)
    (other_one _)

told_last : AllAnnounced guest s16 s16
told_last = pending_at first_5 second_6 third_6 (pool 9) (WasAnnounced s16 s16) (none _)
    (none _)
    (other_one _)

told_half : AllAnnounced guest s0 s2
told_half = pending_at first_0 second_1 third_0 (pool 5) (WasAnnounced s0 s2) (none _)
    (one _ guest_there.register (record {
      more = guest_there ∷ [];
      pool = refl;
      value = guest_there.value;
      there =
          (0, omega arith, refl);
    }))
    (other_one _)

-- any number of rounds; those after the fourth have no step
resting : (n : ℕ) → Rounds (RunsAlone guest) guest n s16 s16
resting zero = refl
resting (suc n) = (s16, [], refl, record { announced = told_last; taken = taken_last }, resting n)

four : Rounds (RunsBeside 0 1 guest) guest 4 s0 s16
four = (
  s3,
  steps1,
  first_round.runs,
  record { announced = told1; taken = taken1 },
  (
    s8,
    steps2,
    second_round.runs,
    record { announced = told2; taken = taken2 },
    (
      s10,
      steps3,
      third_round.runs,
      record { announced = told3; taken = taken3 },
      (s16, steps4, fourth_round.runs, record { announced = told4; taken = taken4 }, refl),
    ),
  ),
)

many : (n : ℕ) → Rounds (RunsAlone guest) guest (suc (suc (suc (suc n)))) s0 s16
many n = (
  s3,
  steps1,
  first_round.runs,
  record { announced = told1; taken = taken1 },
  (
    s8,
    steps2,
    second_round.runs,
    record { announced = told2; taken = taken2 },
    (
      s10,
      steps3,
      third_round.runs,
      record { announced = told3; taken = taken3 },
      (s16, steps4, fourth_round.runs, record { announced = told4; taken = taken4 }, resting n),
    ),
  ),
)

first : IsOrderly 0 1 guest s0 s8
first = record {
  told = s2;
  before = gap1 ++ Announce 2 ∷ [];
  goes = told_first.runs;
  announced = told_half;
  after = gap2 ++ steps2;
  goes_on = (on in_gap2 second_round).runs;
  taken = taken_first;
}

second : IsOrderly 0 1 guest s8 s16
second = record {
  told = s10;
  before = steps3;
  goes = third_round.runs;
  announced = told3;
  after = steps4;
  goes_on = fourth_round.runs;
  taken = taken4;
}

agree : AgreesOn agreed guest
agree = record {
  quiet = λ i e r at of in'. pending_at first_0 second_0 third_0 (pool 5) (λ q. ⊥) (none _) (none _)
      (other_one _) i e r at of in';
  arrived = λ i e u at of in'. taken_agreed i e u at of in';
}

-- as a run in which the first edge may lose the guest by itself
losing : (steps : List Step) (old new : Fabric) → RunsBeside 0 1 guest old steps new
    → RunsLosing 0 1 guest old steps new
losing [] old new h = h
losing (Local e event ∷ steps) old new h =
    (h.0, h.1, h.2, (λ x a b is at at'. inl (h.3 x a b is at at')), losing steps h.0 new h.4)
losing (Announce e ∷ steps) old new h = (h.0, h.1, h.2, tt, losing steps h.0 new h.4)
losing (Deliver e k ∷ steps) old new h = (h.0, h.1, h.2, tt, losing steps h.0 new h.4)
losing (Restart e n ∷ steps) old new h = (h.0, h.1, h.2, h.3, losing steps h.0 new h.4)

letter_comes : (v : Speaker) (l : Learning) (w : Windows)
    → frame_arrival (risen_edge v l w) 1 letter ≡ Ok (Data 5001 guest.mac nobody)
unfolding frame_of selected_ports selected_root best_path
letter_comes v l w = refl

abbrev opening : List Step
opening = Local 1 (PortUp 1) ∷ Local 1 (PortUp 2) ∷ Local 2 (PortUp 1) ∷ Local 2 (PortUp 2) ∷ Local 3 (PortUp 1)
    ∷ Local 3 (PortUp 2) ∷ Local 1 (Frame 1 (lent hello)) ∷ Announce 1 ∷ Announce 1 ∷ Announce 2 ∷ Announce 3
    ∷ Deliver 2 2 ∷ Deliver 3 2 ∷ Local 3 (Pin lodger 1) ∷ Announce 3 ∷ Local 3 (Unpin lodger) ∷ []

module _ (lists : SettledByLists) (happens : RunsHappen) where
  abbrev started : ℕ → List Said → Edge
  started address said = edge_with
      (routes_with (speaker_with address said 1 (flood_register address ∷ [])) nobody_learnt)
      (start root_settings two_ports) empty

  abbrev ups : (address : ℕ) (said : List Said) → (mid : Edge) × (one : Reply) × (two : Reply)
      × Steps (started address said) (events.PortUp 1) (Ok one) mid
      × Steps mid (events.PortUp 2) (Ok two) (telling address said 1 (flood_register address ∷ []) nobody_learnt empty)
  ups address said = rises lists happens (speaker_with address said 1 (flood_register address ∷ [])) nobody_learnt empty

  abbrev start_1 : Fabric
  start_1 = trio_with (ups here a0).0 (started there b0) (started far c0) []

  abbrev start_2 : Fabric
  start_2 = trio_with first_up (started there b0) (started far c0) []

  abbrev start_3 : Fabric
  start_3 = trio_with first_up (ups there b0).0 (started far c0) []

  abbrev start_4 : Fabric
  start_4 = trio_with first_up second_up (started far c0) []

  abbrev start_5 : Fabric
  start_5 = trio_with first_up second_up (ups far c0).0 []

  -- an edge that hears the guest, and learns it
  abbrev greeting : Edge → Reply
  greeting e = sending (decided e everyone (Port 1))

  learns_it : Going up (Local 1 (Frame 1 (lent hello))) p1
  learns_it = does first_learnt (greeting first_learnt) refl
      (rw (hello_arrives (speaker_with here a0 1 (flood_register here ∷ [])) nobody_learnt empty)
      (sends lists happens _ _ _ _ _ _ everyone guest.mac
      (learns here a0 (flood_register here ∷ []) 0 _ refl (inl (refl, refl)))))

  abbrev came : Reply
  came = greeting second_1

  hears : Going agreed (Local 2 (Frame 1 (lent hello))) s0
  hears = does second_1 came refl
      (rw (hello_arrives (speaker_with there b1 1 []) nobody_learnt empty)
      (sends lists happens _ _ _ _ _ _ everyone guest.mac (learns there b1 [] 1 _ refl (inl (refl, refl)))))

  run : Ran trio_opened opening agreed
  run = follows (does (ups here a0).0 (ups here a0).1 refl (ups here a0).3)
      (follows (does first_up (ups here a0).2 refl (ups here a0).4)
      (follows (does (ups there b0).0 (ups there b0).1 refl (ups there b0).3)
      (follows (does second_up (ups there b0).2 refl (ups there b0).4)
      (follows (does (ups far c0).0 (ups far c0).1 refl (ups far c0).3)
      (follows (does third_up (ups far c0).2 refl (ups far c0).4)
      (follows learns_it (follows p1_p2 (follows p2_p3 (follows p3_p4
      (follows p4_p5 (follows p5_p6 (follows p6_p7 (follows p7_p8 (follows p8_p9
      (follows p9_agreed (record { run = refl }))))))))))))))))

  pub has_run : HasRun agreed
  has_run = record {
    configs = configs_three;
    opened = trio_opened;
    steps = opening;
    fit = trio_configs;
    start = trio_start;
    run = run.run;
  }

  comes : StationComes agreed 0 1 guest s0
  comes = record {
    agree = agree;
    from = first_0;
    to = second_0;
    at_from = refl;
    at_to = refl;
    had = (
      None,
      record { is_static = false; sequence = 0; label2 = None },
      rw (found a1 (guest_register here)),
    );
    unknown = get-empty {X = Entry} station_cmp guest;
    event = Frame 1 (lent hello);
    result = Ok hears.reply;
    step = hears.goes;
    after = second_1;
    at_after = refl;
    learnt = rw guest_entry;
  }

  -- ---- a frame at the third edge
  abbrev given_out : Reply
  given_out = sending (decided third_0 guest.mac (Port 1))

  is_frame : IsFrameFor third_0 (events.Frame 1 (lent letter)) 1 guest
  is_frame = record {
    octets = letter;
    frame = refl;
    source = nobody;
    arrives = letter_comes (speaker_with far c3 3 (lodger_register far ∷ [])) left_once empty;
    other = λ e. omega (arith, e);
    passes = passes_one lists happens;
  }

  sends_it : Steps third_0 (events.Frame 1 (lent letter)) (Ok given_out) third_0
  sends_it =
      rw (letter_comes (speaker_with far c3 3 (lodger_register far ∷ [])) left_once empty)
      (sends lists happens _ _ _ _ _ _ guest.mac nobody (refl, refl))

  pub in_traffic : Starts → EveryRun → StationAgrees → AgreesInFour → AgreesInTwo → StationMovesAnyhow → TakenStays
      → FramesMeanwhile → MoveInTraffic
  in_traffic starts every_run soon in_four in_two anyhow stays meanwhile = record {
    old = agreed;
    has_run = has_run;
    three = refl;
    station = guest;
    other = lodger;
    apart = λ e. (omega (arith, (ap (λ (s : Station). s.mac) e)));
    mid = s0;
    comes = comes;
    parts = parts;
    new = s16;
    traffic = traffic;
    beside = whole.runs;
    none = tt;
    four = four;
    half = s8;
    first = first;
    second = second;
    rounds = suc (suc (suc (suc (2 * to_come_on guest s0 + 1))));
    enough = omega arith;
    many = many (2 * to_come_on guest s0 + 1);
    agrees_in_four = again;
    agrees_in_two = in_two 0 1 guest agreed s0 s8 s16 sound comes first second;
    agrees_soon = soon guest (suc (suc (suc (suc (2 * to_come_on guest s0 + 1))))) s0 s16 sound_come
        (many (2 * to_come_on guest s0 + 1)) (omega arith);
    moved = anyhow 0 1 guest agreed s0 s16 (all_steps parts) sound comes (losing (all_steps parts) s0 s16 whole.runs)
        again;
    given = s3;
    number = 5;
    update = guest_there;
    there = refl;
    of = refl;
    got = s4;
    reply = s3_s4.reply;
    gives = s3_s4.goes;
    later = later_steps;
    goes_on = plain later_steps later;
    none_later = tt;
    stays = stays 0 5 guest_there s3_s4.reply later_steps s3 s4 s16
        (every_run steps1 s0 s3 (plain steps1 first_round) sound_come) refl s3_s4.goes (plain later_steps later) tt;
    way = gap1 ++ Announce 2 ∷ [];
    between = s2;
    on_way = told_first.runs;
    none_before = tt;
    edge = third_0;
    at = refl;
    after = third_0;
    event = events.Frame 1 (lent letter);
    port = 1;
    frame = is_frame;
    answer = given_out;
    sends = sends_it;
    goes = elim (meanwhile 0 1 guest agreed s0 s2 (gap1 ++ Announce 2 ∷ []) sound comes told_first.runs tt 2 third_0
        third_0 refl (events.Frame 1 (lent letter)) 1 given_out is_frame sends_it) [
          | inl home ↦ absurd (elim home.0 [ inl e ↦ omega (arith, e) | inr e ↦ omega (arith, e) ])
          | inr rest ↦ rest
        ];
  }
    where
      sound : IsSound agreed
      sound = every_run opening trio_opened agreed run.run (starts configs_three trio_opened trio_configs trio_start)

      sound_come : IsSound s0
      sound_come = every_run (Local 2 (Frame 1 (lent hello)) ∷ []) agreed s0
          (s0, Ok hears.reply, hears.goes, refl) sound

      again : AgreesOn s16 guest
      again = in_four 0 1 guest agreed s0 s16 sound comes four
