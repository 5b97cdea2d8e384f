-- The guest moves: the second edge learns it and announces it, the first one withdraws it, and the two agree again.
use Rattle.std.proofs.Common.{◌≡◌, inl, zero, suc, false, Some, None, List, [], ◌∷◌, ◌++◌, refl, sym, subst, arith}
use Rattle.std.specs.Prelude.{Ok, Contains}
use Rattle.std.specs.FinMap.{empty, get, insert, get-empty}
use Rattle.route_wire.specs.declared.update.Register.{Register}
use Rattle.route_wire.specs.declared.update.Value.{Value}
use Rattle.route_wire.specs.Fields.{Fields}
use Rattle.route_wire.specs.Order.{is_newer}
use Rattle.route_join.specs.Table.{value_at}
use Rattle.mac_arena.specs.declared.station.Entry.{Entry}
use Rattle.mac_arena.specs.Station.{station_cmp}
use Rattle.mac_arena.specs.Learning.{after_removal as gone}
use Rattle.rstp_run.specs.Events.{RunsHappen}
use Rattle.rstp_run.specs.Settled.{SettledByLists}
use Rattle.ev_tunnel.specs.declared.decision.Source.TheVariants.{Port}
use Rattle.ev_mobility.specs.declared.window.Window.{Window}
use Rattle.ev_mobility.specs.Window.{after_move}
use Rattle.ev_edge.specs.declared.reply.Reply.{Reply}
use Rattle.ev_edge.specs.Edge.{Edge, table_of}
use Rattle.ev_fabric.specs.declared.step.LocalEvent.TheVariants.{Frame}
use Rattle.ev_fabric.specs.declared.step.Step.{Step}
use Rattle.ev_fabric.specs.declared.step.Step.TheVariants.{Local, Announce, Deliver}
use Rattle.ev_fabric.specs.Fabric.{Fabric}
use Rattle.ev_fabric.specs.Agreed.{AllAgree, Advertises}
use Rattle.ev_fabric.specs.Steps.{FabricSteps}
use Rattle.ev_fabric.specs.Convergence.{Rests}
use Rattle.ev_fabric.specs.Station.{AgreesOn, StationComes, RunsBeside}
use Rattle.ev_fabric.specs.Rounds.{AllAnnounced, AllTaken, IsOrderly}
use Rattle.ev_fabric.proofs.Example.{nobody_learnt}
use Rattle.ev_fabric.proofs.Agreements.{none_pending}
use Rattle.ev_sites.proofs.Tables.{Said, found}
use Rattle.ev_sites.proofs.Guest.{guest, here, there, guest_register, said_first, said_guest, said_gone, speaker_with}
use Rattle.ev_sites.proofs.Guest.{keeps, withdraws, first_agreed, second_agreed, second_said, first_moved}
use Rattle.ev_sites.proofs.Guest.{second_moved}
use Rattle.ev_sites.proofs.Risen.{everyone, Windows, fabric_with, risen_edge, decided, sending, sends}
use Rattle.ev_sites.proofs.Telling.{lent, update, announcing, taking, second_steps, first_announces, first_takes}
use Rattle.ev_sites.proofs.Telling.{second_announces, second_takes, learns}
use Rattle.ev_sites.proofs.Agreed.{hello, hello_arrives, guest_learnt, guest_entry, first_edge, second_edge}
use Rattle.ev_sites.proofs.Agreed.{agreed_pool, agreed, advertised, all_agree}

-- ---- the edges on the way

-- the guest has moved once
abbrev one_move : Windows
one_move = insert empty guest (after_move (get {X = Window} {R = station_cmp} empty guest) 0)

abbrev pub second_with : List Said → List Register → Edge
second_with said pending = risen_edge (speaker_with there said 2 pending) guest_learnt one_move

abbrev first_with : List Register → Edge
first_with pending = risen_edge (speaker_with here first_moved 3 pending) (gone guest_learnt guest) empty

abbrev guest_there : Fields
guest_there = update (guest_register there) (said_guest 1)

abbrev guest_gone : Fields
guest_gone = update (guest_register here) said_gone

abbrev moved_pool : List Fields
moved_pool = agreed_pool ++ guest_there ∷ guest_gone ∷ []

abbrev pub come : Fabric
come = fabric_with first_edge (second_with second_said (guest_register there ∷ [])) agreed_pool

abbrev heard : Fabric
heard = fabric_with first_edge (second_with second_said []) (agreed_pool ++ guest_there ∷ [])

abbrev pub left : Fabric
left =
    fabric_with (first_with (guest_register here ∷ [])) (second_with second_said []) (agreed_pool ++ guest_there ∷ [])

abbrev withdrawn : Fabric
withdrawn = fabric_with (first_with []) (second_with second_said []) moved_pool

abbrev pub moved : Fabric
moved = fabric_with (first_with []) (second_with second_moved []) moved_pool

abbrev pub move_steps : List Step
move_steps = Announce 2 ∷ Deliver 1 4 ∷ Announce 1 ∷ Deliver 2 5 ∷ []

-- ---- the steps

tells : FabricSteps come (Announce 2) (Ok (announcing guest_there)) heard
tells =
    second_announces first_edge agreed_pool second_said 2 (guest_register there) [] guest_learnt one_move (said_guest 1)
    refl

loses : FabricSteps heard (Deliver 1 4) (Ok (taking first_edge guest_there)) left
loses =
    first_takes first_edge (second_with second_said []) (agreed_pool ++ guest_there ∷ []) 4 refl refl refl
    (withdraws here there first_agreed 2 [] guest_learnt (said_guest 1) refl refl)

tells_it : FabricSteps left (Announce 1) (Ok (announcing guest_gone)) withdrawn
tells_it =
    first_announces (second_with second_said []) (agreed_pool ++ guest_there ∷ []) first_moved 3 (guest_register here)
    [] (gone guest_learnt guest) empty said_gone refl

hears_it : FabricSteps withdrawn (Deliver 2 5) (Ok (taking (second_with second_said []) guest_gone)) moved
hears_it =
    second_takes (first_with []) (second_with second_said []) moved_pool 5 refl refl refl
    (keeps 0 there here second_said 2 [] guest_learnt said_gone refl refl)

pub rests : Rests come move_steps moved
rests = (
  heard,
  Ok (announcing guest_there),
  tt,
  tt,
  tells,
  (
    left,
    Ok (taking first_edge guest_there),
    tt,
    tt,
    loses,
    (
      withdrawn,
      Ok (announcing guest_gone),
      tt,
      tt,
      tells_it,
      (moved, Ok (taking (second_with second_said []) guest_gone), tt, tt, hears_it, refl),
    ),
  ),
)

pub beside : RunsBeside 0 1 guest come move_steps moved
beside = (
  heard,
  Ok (announcing guest_there),
  tells,
  tt,
  (
    left,
    Ok (taking first_edge guest_there),
    loses,
    tt,
    (
      withdrawn,
      Ok (announcing guest_gone),
      tells_it,
      tt,
      (moved, Ok (taking (second_with second_said []) guest_gone), hears_it, tt, refl),
    ),
  ),
)

-- ---- all agree again

pub agree_again : AllAgree moved
agree_again = all_agree first_moved second_moved 3 2 (gone guest_learnt guest) guest_learnt empty one_move (
  (said_first, refl, refl),
  (
    (said_gone, refl, refl),
    ((said_first, refl, refl), ((said_guest 1, refl, refl), ((said_gone, refl, refl), tt))),
  ),
) (
  (said_first, refl, refl),
  (
    (said_gone, refl, refl),
    ((said_first, refl, refl), ((said_guest 1, refl, refl), ((said_gone, refl, refl), tt))),
  ),
)

-- ---- these are two rounds of the guest, in which the announcements come first

-- the state at the end of the first round, except that the withdrawal is pending no more
told_once : AllAgree (fabric_with (first_with []) (second_with second_said []) (agreed_pool ++ guest_there ∷ []))
told_once =
    all_agree first_moved second_said 3 2 (gone guest_learnt guest) guest_learnt empty one_move (
      (said_first, refl, refl),
      ((said_gone, refl, refl), ((said_first, refl, refl), ((said_guest 1, refl, refl), tt))),
    ) (
      (said_first, refl, refl),
      ((said_guest 0, refl, refl), ((said_first, refl, refl), ((said_guest 1, refl, refl), tt))),
    )

one_waits : {r q : Register} → Contains (q ∷ []) r → q ≡ r
one_waits (zero, lt, is) = is
one_waits (suc n, lt, is) = absurd (omega (arith, lt))

advert_told : AllAnnounced guest come heard
advert_told zero a r at of waits =
    let is : first_edge ≡ a = cc in
    absurd (none_pending (subst (λ (e : Edge). Contains e.routes.speaker.pending r) (sym is) waits))
advert_told (suc zero) a r at of waits =
    let is : second_with second_said (guest_register there ∷ []) ≡ a = cc in
    record {
      more = guest_there ∷ [];
      pool = refl;
      value = said_guest 1;
      there = (
        0,
        omega arith,
        λ n. update ((one_waits (subst (λ (e : Edge). Contains e.routes.speaker.pending r)
            (sym is) waits)) n) (said_guest 1),
      );
    }
advert_told (suc (suc i)) a r at of waits = absurd (cc)

advert_taken : AllTaken guest heard left
advert_taken zero b u at of inside =
    let is : first_with (guest_register here ∷ []) ≡ b = cc in
    subst (λ (e : Edge). (z : Value) × (value_at (table_of e) u.register ≡ Some z) × (is_newer u.value z ≡ false)) is
    (told_once.arrived zero (first_with []) refl u inside)
advert_taken (suc zero) b u at of inside = told_once.arrived (suc zero) b at u inside
advert_taken (suc (suc i)) b u at of inside = let no : ⊥ = cc in absurd no

pub first_round : IsOrderly 0 1 guest come left
first_round = record {
  told = heard;
  before = Announce 2 ∷ [];
  goes = (heard, Ok (announcing guest_there), tells, tt, refl);
  announced = advert_told;
  after = Deliver 1 4 ∷ [];
  goes_on = (left, Ok (taking first_edge guest_there), loses, tt, refl);
  taken = advert_taken;
}

withdrawal_told : AllAnnounced guest left withdrawn
withdrawal_told zero a r at of waits =
    let is : first_with (guest_register here ∷ []) ≡ a = cc in
    record {
      more = guest_gone ∷ [];
      pool = refl;
      value = said_gone;
      there = (
        0,
        omega arith,
        λ n. update ((one_waits (subst (λ (e : Edge). Contains e.routes.speaker.pending r)
            (sym is) waits)) n) said_gone,
      );
    }
withdrawal_told (suc zero) a r at of waits =
    let is : second_with second_said [] ≡ a = cc in
    absurd (none_pending (subst (λ (e : Edge). Contains e.routes.speaker.pending r) (sym is) waits))
withdrawal_told (suc (suc i)) a r at of waits = absurd (cc)

pub second_round : IsOrderly 0 1 guest left moved
second_round = record {
  told = withdrawn;
  before = Announce 1 ∷ [];
  goes = (withdrawn, Ok (announcing guest_gone), tells_it, tt, refl);
  announced = withdrawal_told;
  after = Deliver 2 5 ∷ [];
  goes_on = (moved, Ok (taking (second_with second_said []) guest_gone), hears_it, tt, refl);
  taken = λ i b u at of inside. agree_again.arrived i b at u inside;
}

pub advertised_there : Advertises (second_with second_moved []) guest
advertised_there = (
  None,
  record { is_static = false; sequence = 1; label2 = None },
  rw (found second_moved (guest_register there)),
)

module _ (lists : SettledByLists) (happens : RunsHappen) where
  abbrev sent : Reply
  sent = sending (decided (second_with second_said (guest_register there ∷ [])) everyone (Port 1))

  hears : FabricSteps agreed (Local 2 (Frame 1 (lent hello))) (Ok sent) come
  hears =
      second_steps first_edge agreed_pool (Frame 1 (lent hello))
      (rw (hello_arrives (speaker_with there second_agreed 1 []) nobody_learnt empty)
      (sends lists happens _ _ _ _ _ _ everyone guest.mac (learns there second_agreed [] 1 _ refl
      (inl (refl, refl)))))

  pub comes : AgreesOn agreed guest → StationComes agreed 0 1 guest come
  comes agree = record {
    agree = agree;
    from = first_edge;
    to = second_edge;
    at_from = refl;
    at_to = refl;
    had = advertised;
    unknown = get-empty {X = Entry} station_cmp guest;
    event = Frame 1 (lent hello);
    result = Ok sent;
    step = hears;
    after = second_with second_said (guest_register there ∷ []);
    at_after = refl;
    learnt = rw guest_entry;
  }
