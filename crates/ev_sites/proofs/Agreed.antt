-- The two edges agree, the first one advertises the guest, and a frame for the guest that comes in at the second one
-- comes out at the first.
use Rattle.std.proofs.Common.{◌≡◌, ℕ, zero, suc, false, Some, None, List, [], ◌∷◌, ◌++◌, refl, sym, subst, ◌∙◌}
use Rattle.std.proofs.Common.{inl, arith, lit<, lit≤}
use Rattle.std.specs.Prelude.{Ok, Contains, slice_get}
use Rattle.std.specs.FinMap.{empty, get-insert}
use Rattle.ether_wire.specs.Frame.{frame_of}
use Rattle.vxlan_wire.specs.Vxlan.{instance_of}
use Rattle.route_wire.specs.declared.update.Register.{Register}
use Rattle.route_wire.specs.declared.update.Value.{Value}
use Rattle.route_wire.specs.Fields.{Fields}
use Rattle.route_wire.specs.Order.{is_newer}
use Rattle.route_join.specs.Table.{value_at}
use Rattle.mac_arena.specs.declared.station.Entry.{Entry}
use Rattle.mac_arena.specs.declared.table.Learnt.TheVariants.{New}
use Rattle.mac_arena.specs.Entry.{heard_at}
use Rattle.mac_arena.specs.Learning.{Learning, entry_at, after_learn}
use Rattle.mac_arena.proofs.Entries.{station_total}
use Rattle.rstp_state.specs.Selection.{selected_ports, selected_root, best_path}
use Rattle.rstp_run.specs.Events.{RunsHappen, Passes}
use Rattle.rstp_run.specs.Settled.{SettledByLists}
use Rattle.ev_tunnel.specs.declared.decision.Source.TheVariants.{Port, Tunnel}
use Rattle.ev_tunnel.specs.Datagram.{datagram_of}
use Rattle.ev_claims.specs.Speaker.{Speaker}
use Rattle.ev_edge.specs.declared.arrival.Arrival.TheVariants.{Data}
use Rattle.ev_edge.specs.declared.event.Event.TheVariants as events
use Rattle.ev_edge.specs.declared.reply.Reply.{Reply}
use Rattle.ev_edge.specs.Arrival.{frame_arrival, tunnel_arrival}
use Rattle.ev_edge.specs.Edge.{Edge, table_of}
use Rattle.ev_edge.specs.Steps.{Steps}
use Rattle.ev_fabric.specs.declared.step.LocalEvent.TheVariants.{Frame}
use Rattle.ev_fabric.specs.declared.step.Step.{Step}
use Rattle.ev_fabric.specs.declared.step.Step.TheVariants.{Local, Announce, Deliver}
use Rattle.ev_fabric.specs.Fabric.{Fabric}
use Rattle.ev_fabric.specs.Agreed.{AllAgree, Advertises}
use Rattle.ev_fabric.specs.Laws.{Starts, EveryRun, IsFrameFor, GoesTo, ComesOut, GoesOut, FromPortToPort}
use Rattle.ev_fabric.specs.Sound.{IsSound}
use Rattle.ev_fabric.specs.Steps.{FabricSteps}
use Rattle.ev_fabric.specs.Runs.{Runs}
use Rattle.ev_fabric.proofs.Example.{fabric_of, configs_of, nobody_learnt, are_configs, is_start}
use Rattle.ev_sites.specs.Witnesses.{HasRun}
use Rattle.ev_sites.proofs.Tables.{Said, found, HasAll, arrived}
use Rattle.ev_sites.proofs.Guest.{guest, here, there, flood_register, guest_register, said_first, said_guest}
use Rattle.ev_sites.proofs.Guest.{speaker_with, keeps, hears, first_said, first_agreed, second_heard}
use Rattle.ev_sites.proofs.Guest.{second_agreed}
use Rattle.ev_sites.proofs.Risen.{everyone, nobody, Windows, root_settings, fabric_with, risen_edge, risen, steps_up}
use Rattle.ev_sites.proofs.Risen.{runs_on, comes_up, decided, sending, decides, sends, passes_one}
use Rattle.ev_sites.proofs.Telling.{lent, update, announcing, taking, first_steps, first_announces, first_takes}
use Rattle.ev_sites.proofs.Telling.{second_announces, second_takes, learns}

-- ---- the first edge learns the guest

-- from the guest to all stations
abbrev pub hello : List ℕ
hello = 255 ∷ 255 ∷ 255 ∷ 255 ∷ 255 ∷ 255 ∷ 2 ∷ 0 ∷ 0 ∷ 0 ∷ 0 ∷ 1 ∷ 8 ∷ 0 ∷ []

pub hello_arrives : (v : Speaker) (l : Learning) (w : Windows)
    → frame_arrival (risen_edge v l w) 1 hello ≡ Ok (Data 5001 everyone guest.mac)
unfolding frame_of selected_ports selected_root best_path
hello_arrives v l w = refl

-- only the guest is learnt
abbrev pub guest_learnt : Learning
guest_learnt = after_learn nobody_learnt guest 1 0 New

pub guest_entry : entry_at guest_learnt guest ≡ Some (heard_at 1 0)
guest_entry = get-insert station_total nobody_learnt.entries guest (heard_at 1 0) guest

-- ---- it is announced, and so are the flood lists

abbrev first_with : List Said → ℕ → List Register → Edge
first_with said counter pending = risen_edge (speaker_with here said counter pending) guest_learnt empty

abbrev second_with : List Said → List Register → Edge
second_with said pending = risen_edge (speaker_with there said 1 pending) nobody_learnt empty

abbrev flood_here : Fields
flood_here = update (flood_register here) said_first

abbrev flood_there : Fields
flood_there = update (flood_register there) said_first

abbrev guest_here : Fields
guest_here = update (guest_register here) (said_guest 0)

-- before and after its announcement
abbrev second_opened : Edge
second_opened = second_with ((flood_register there, said_first) ∷ []) (flood_register there ∷ [])

abbrev second_quiet : Edge
second_quiet = second_with ((flood_register there, said_first) ∷ []) []

abbrev pub first_edge : Edge
first_edge = first_with first_agreed 2 []

abbrev pub second_edge : Edge
second_edge = second_with second_agreed []

abbrev pub agreed_pool : List Fields
agreed_pool = flood_here ∷ guest_here ∷ flood_there ∷ []

abbrev pub agreed : Fabric
agreed = fabric_with first_edge second_edge agreed_pool

abbrev more_steps : List Step
more_steps =
    Local 1 (Frame 1 (lent hello)) ∷ Announce 1 ∷ Announce 1 ∷ Announce 2 ∷ Deliver 2 1 ∷ Deliver 2 2 ∷ Deliver 1 3 ∷ []

-- ---- all agree

-- the edge at each place has nothing pending, and each update of the pool or a newer one
pub all_agree : (v w : List Said) (n m : ℕ) (l k : Learning) (x y : Windows) {pool : List Fields} → HasAll v pool
    → HasAll w pool
    → AllAgree (fabric_with (risen_edge (speaker_with here v n []) l x) (risen_edge (speaker_with there w m []) k y)
    pool)
all_agree v w n m l k x y {pool} at_v at_w = record { quiet = quiet; arrived = arrives }
  where
    quiet : (i : ℕ) (a : Edge)
        → slice_get (risen_edge (speaker_with here v n []) l x ∷ risen_edge (speaker_with there w m []) k y ∷ []) i
        ≡ Some a
        → a.routes.speaker.pending ≡ []
    quiet zero a at = let is : risen_edge (speaker_with here v n []) l x ≡ a = cc in
        subst (λ (e : Edge). e.routes.speaker.pending ≡ []) is refl
    quiet (suc zero) a at = let is : risen_edge (speaker_with there w m []) k y ≡ a = cc in
        subst (λ (e : Edge). e.routes.speaker.pending ≡ []) is refl
    quiet (suc (suc i)) a at = let no : ⊥ = cc in absurd no

    arrives : (i : ℕ) (a : Edge)
        → slice_get (risen_edge (speaker_with here v n []) l x ∷ risen_edge (speaker_with there w m []) k y ∷ []) i
        ≡ Some a
        → (u : Fields) → Contains pool u
        → (z : Value) × (value_at (table_of a) u.register ≡ Some z) × (is_newer u.value z ≡ false)
    arrives zero a at u inside = let is : risen_edge (speaker_with here v n []) l x ≡ a = cc in
        subst (λ (e : Edge). (z : Value) × (value_at (table_of e) u.register ≡ Some z) × (is_newer u.value z ≡ false))
        is (arrived v pool at_v u inside)
    arrives (suc zero) a at u inside = let is : risen_edge (speaker_with there w m []) k y ≡ a = cc in
        subst (λ (e : Edge). (z : Value) × (value_at (table_of e) u.register ≡ Some z) × (is_newer u.value z ≡ false))
        is (arrived w pool at_w u inside)
    arrives (suc (suc i)) a at u inside = let no : ⊥ = cc in absurd no

pub agrees : AllAgree agreed
agrees = all_agree first_agreed second_agreed 2 1 guest_learnt nobody_learnt empty empty
    ((said_first, refl, refl), ((said_guest 0, refl, refl), ((said_first, refl, refl), tt)))
    ((said_first, refl, refl), ((said_guest 0, refl, refl), ((said_first, refl, refl), tt)))

-- ---- a frame for the guest

abbrev pub letter : List ℕ
letter = 2 ∷ 0 ∷ 0 ∷ 0 ∷ 0 ∷ 1 ∷ 1 ∷ 0 ∷ 0 ∷ 0 ∷ 0 ∷ 1 ∷ 8 ∷ 0 ∷ []

pub letter_arrives : frame_arrival second_edge 1 letter ≡ Ok (Data 5001 guest.mac nobody)
unfolding frame_of selected_ports selected_root best_path
letter_arrives = refl

letter_enters : tunnel_arrival first_edge there (datagram_of 5001 letter) ≡ Ok (Data 5001 guest.mac nobody)
unfolding frame_of instance_of
letter_enters = refl

pub advertised : Advertises first_edge guest
advertised = (
  None,
  record { is_static = false; sequence = 0; label2 = None },
  rw (found first_agreed (guest_register here)),
)

abbrev pub given : Reply
given = sending (decided second_edge guest.mac (Port 1))

abbrev pub answered : Reply
answered = sending (decided first_edge guest.mac Tunnel)

module _ (lists : SettledByLists) (happens : RunsHappen) where
  more : Runs risen more_steps agreed
  more = (
    fabric_with (first_with first_said 2 (flood_register here ∷ guest_register here ∷ [])) second_opened [],
    Ok (sending (decided (first_with first_said 2 (flood_register here ∷ guest_register here ∷ [])) everyone (Port 1))),
    heard,
    (
      fabric_with (first_with first_said 2 (guest_register here ∷ [])) second_opened (flood_here ∷ []),
      Ok (announcing flood_here),
      first_announces second_opened [] first_said 2 (flood_register here) (guest_register here ∷ []) guest_learnt empty
          said_first refl,
      (
        fabric_with (first_with first_said 2 []) second_opened (flood_here ∷ guest_here ∷ []),
        Ok (announcing guest_here),
        first_announces second_opened (flood_here ∷ []) first_said 2 (guest_register here) [] guest_learnt empty
            (said_guest 0) refl,
        (
          fabric_with (first_with first_said 2 []) second_quiet agreed_pool,
          Ok (announcing flood_there),
          second_announces (first_with first_said 2 []) (flood_here ∷ guest_here ∷ [])
              ((flood_register there, said_first) ∷ []) 1 (flood_register there) [] nobody_learnt empty said_first refl,
          (
            fabric_with (first_with first_said 2 []) (second_with second_heard []) agreed_pool,
            Ok (taking second_quiet flood_here),
            second_takes (first_with first_said 2 []) second_quiet agreed_pool 1 refl refl refl
                (hears 0 there here ((flood_register there, said_first) ∷ []) 1 [] nobody_learnt said_first refl),
            (
              fabric_with (first_with first_said 2 []) second_edge agreed_pool,
              Ok (taking (second_with second_heard []) guest_here),
              second_takes (first_with first_said 2 []) (second_with second_heard []) agreed_pool 2 refl refl refl
                  (keeps 0 there here second_heard 1 [] nobody_learnt (said_guest 0) refl refl),
              (
                agreed,
                Ok (taking (first_with first_said 2 []) flood_there),
                first_takes (first_with first_said 2 []) second_edge agreed_pool 3 refl refl refl
                    (hears 0 here there first_said 2 [] guest_learnt said_first refl),
                refl,
              ),
            ),
          ),
        ),
      ),
    ),
  )
    where
      heard : FabricSteps risen (Local 1 (Frame 1 (lent hello)))
          (Ok (sending (decided (first_with first_said 2 (flood_register here ∷ guest_register here ∷ [])) everyone
          (Port 1))))
          (fabric_with (first_with first_said 2 (flood_register here ∷ guest_register here ∷ [])) second_opened [])
      heard =
          first_steps _ second_opened (first_with first_said 2 (flood_register here ∷ guest_register here ∷ [])) []
          (Frame 1 (lent hello)) _
          (rw (hello_arrives (speaker_with here ((flood_register here, said_first) ∷ []) 1
          (flood_register here ∷ [])) nobody_learnt empty) (sends lists happens _ _ _ _ _ _ everyone guest.mac
          (learns here ((flood_register here, said_first) ∷ []) (flood_register here ∷ []) 0 _ refl
          (inl (refl, refl)))))

  pub agreed_run : HasRun agreed
  agreed_run = record {
    configs = configs_of root_settings;
    opened = fabric_of root_settings;
    steps = steps_up ++ more_steps;
    fit = are_configs root_settings (lit≤ tt);
    start = is_start root_settings;
    run = runs_on steps_up more_steps (fabric_of root_settings) risen agreed (comes_up lists happens) more;
  }

  -- ---- the frame

  abbrev pub is_frame : IsFrameFor second_edge (events.Frame 1 (lent letter)) 1 guest
  is_frame = record {
    octets = letter;
    frame = refl;
    source = nobody;
    arrives = letter_arrives;
    other = λ e. omega (arith, e);
    passes = passes_one lists happens;
  }

  pub goes : Steps second_edge (events.Frame 1 (lent letter)) (Ok given) second_edge
  goes =
      rw letter_arrives (sends lists happens _ _ _ _ _ _ guest.mac nobody (refl, refl))

  pub comes : Steps first_edge (events.TunnelFrame there (lent (datagram_of 5001 letter))) (Ok answered) first_edge
  comes =
      rw letter_enters (decides lists happens _ _ _ guest.mac Tunnel, refl, refl)

  -- the law for these edges and this frame
  pub carried : Starts → EveryRun → FromPortToPort
      → GoesTo here given × ComesOut first_edge there (datagram_of 5001 letter) guest
  carried starts every_run law =
      law agreed sound agrees 0 1 first_edge second_edge second_edge guest refl refl (λ e. omega (arith, e)) advertised
      refl (lit< tt) (events.Frame 1 (lent letter)) 1 given is_frame goes
    where
      sound : IsSound agreed
      sound =
          every_run agreed_run.steps agreed_run.opened agreed agreed_run.run
          (starts agreed_run.configs agreed_run.opened agreed_run.fit agreed_run.start)

  pub given_out : (x : ComesOut first_edge there (datagram_of 5001 letter) guest)
      → GoesOut x.entry.port (Passes first_edge.tree x.entry.port) answered
  given_out x =
      let out = x.out (events.TunnelFrame there (lent (datagram_of 5001 letter))) (Ok answered) first_edge refl comes in
      let is : answered ≡ out.0 = cc in
      rw is out.2

  pub port_passes : (x : Entry) → entry_at guest_learnt guest ≡ Some x → Passes first_edge.tree x.port
  port_passes x is =
      let both : Some (heard_at 1 0) ≡ Some x = sym guest_entry ∙ is in
      let same : heard_at 1 0 ≡ x = cc in
      subst (λ (y : Entry). Passes first_edge.tree y.port) same (passes_one lists happens)
