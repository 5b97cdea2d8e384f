-- A process of two edges restarts, and has a session with the process of the edge between them.
use Rattle.std.proofs.Common.{◌≡◌, ◌≢◌, ◌<◌, inl, inr, ℕ, zero, suc, Some, None, List, [], ◌∷◌, ◌++◌, drop, take, refl}
use Rattle.std.proofs.Common.{sym, ap, subst, ◌∙◌, arith, lit<}
use Rattle.std.specs.Prelude.{Contains, slice_get}
use Rattle.std.specs.FinMap.{empty, get-empty}
use Rattle.route_wire.specs.declared.update.Register.{Register}
use Rattle.route_wire.specs.declared.update.Content.TheVariants.{Withdrawn}
use Rattle.route_wire.specs.Fields.{Fields}
use Rattle.mac_arena.specs.declared.station.Entry.{Entry}
use Rattle.mac_arena.specs.Station.{station_cmp}
use Rattle.rstp_run.specs.Events.{RunsHappen, start}
use Rattle.rstp_run.specs.Settled.{SettledByLists}
use Rattle.ev_sites.proofs.Ring.{two_ports}
use Rattle.ev_edge.specs.declared.config.EdgeConfig.{EdgeConfig}
use Rattle.ev_edge.specs.Edge.{Edge, address_of}
use Rattle.ev_edge.specs.Steps.{alone}
use Rattle.ev_fabric.specs.declared.step.LocalEvent.TheVariants.{Pin}
use Rattle.ev_fabric.specs.declared.step.Step.{Step}
use Rattle.ev_fabric.specs.declared.step.Step.TheVariants.{Local, Announce, Deliver, Restart}
use Rattle.ev_fabric.specs.Fabric.{Fabric, IsEdge}
use Rattle.ev_fabric.specs.Laws.{Starts, EveryRun}
use Rattle.ev_fabric.specs.Sound.{IsSound}
use Rattle.ev_fabric.proofs.Example.{config_of, nobody_learnt}
use Rattle.ev_sites.specs.Sessions.{Process, Took, Holds, Parts, TookIn, IsSent, Session, Met, SessionsAgree}
use Rattle.ev_sites.specs.Sessions.{AllSessionsAgree, BegunAnew}
use Rattle.ev_sites.specs.Witnesses.{HasRun, SessionOfAFabric, each_alone}
use Rattle.ev_sites.proofs.Tables.{Said, found}
use Rattle.ev_sites.proofs.Guest.{guest, here, there, flood_register, guest_register, said_first, said_guest, keeps}
use Rattle.ev_sites.proofs.Guest.{hears}
use Rattle.ev_sites.proofs.Risen.{root_settings, runs_on}
use Rattle.ev_sites.proofs.Telling.{update}
use Rattle.ev_sites.proofs.Trio.{far, trio_of, trio_with, Going, Ran, follows, does, telling, announces, takes, lodger}
use Rattle.ev_sites.proofs.Trio.{lodger_register, fixed_in, said_free, hears_of, hears_again, free_first, pinned_entry}
use Rattle.ev_sites.proofs.Trio.{pins}
use Rattle.ev_sites.proofs.Traffic.{flood_one, flood_two, flood_three, guest_here, lodger_first, lodger_gone, said_of}
use Rattle.ev_sites.proofs.Traffic.{b1, c3 as third_said, lodged, first_0, second_0, third_0, third_1, agreed, has_run}
use Rattle.ev_sites.proofs.Anew.{flood_anew, anew, opened_anew, config_anew, reopens, returns, no_news, withdrawn, kept}
use Rattle.ev_sites.proofs.Sendings.{Sending, is_sent, none_opens, one_place, two_places, three_places}

-- ---- the updates

abbrev flood_here : Fields
flood_here = update (flood_register here) flood_anew

abbrev pub flood_far : Fields
flood_far = update (flood_register far) flood_anew

abbrev lodger_here : Fields
lodger_here = update (lodger_register here) (fixed_in 1 2)

abbrev guest_left : Fields
guest_left = update (guest_register here) (record { incarnation = 1; counter = 3; content = Withdrawn })

abbrev pool : ℕ → List Fields
pool n = take n (flood_one ∷ guest_here ∷ flood_two ∷ flood_three ∷ lodger_first ∷ lodger_gone ∷ flood_here ∷ flood_far
    ∷ lodger_here ∷ guest_left ∷ [])

-- ---- the tables

abbrev a0 : List Said
a0 = said_of flood_here ∷ []

abbrev a1 : List Said
a1 = said_of flood_two ∷ a0

abbrev a2 : List Said
a2 = said_of flood_far ∷ a1

abbrev a3 : List Said
a3 = said_of lodger_gone ∷ a2

abbrev a4 : List Said
a4 = said_of lodger_here ∷ a3

abbrev a5 : List Said
a5 = said_of guest_left ∷ said_of guest_here ∷ a4

abbrev b2 : List Said
b2 = said_of lodger_gone ∷ b1

abbrev b3 : List Said
b3 = said_of flood_here ∷ b2

abbrev b4 : List Said
b4 = said_of flood_far ∷ b3

abbrev b5 : List Said
b5 = said_of lodger_here ∷ b4

abbrev b6 : List Said
b6 = said_of guest_left ∷ b5

abbrev pub c0 : List Said
c0 = said_of flood_far ∷ []

abbrev c1 : List Said
c1 = said_of lodger_gone ∷ c0

abbrev c2 : List Said
c2 = said_of flood_two ∷ c1

abbrev c3 : List Said
c3 = said_of flood_here ∷ c2

abbrev c4 : List Said
c4 = said_of lodger_here ∷ c3

abbrev c5 : List Said
c5 = said_of guest_left ∷ c4

-- ---- the edges

abbrev first_with : List Said → Edge
first_with said = anew here said 1 [] nobody_learnt

-- once it has pinned the station
abbrev first_pinned : List Said → ℕ → List Register → Edge
first_pinned said counter pending = anew here said counter pending lodged

abbrev first_last : Edge
first_last = first_pinned a5 3 []

abbrev pub second_with : List Said → Edge
second_with said = telling there said 1 [] nobody_learnt empty

-- the third edge's flood list is pending
abbrev third_heard : Edge
third_heard = anew far c1 1 (flood_register far ∷ []) nobody_learnt

abbrev pub third_with : List Said → Edge
third_with said = anew far said 1 [] nobody_learnt

-- ---- the fabrics

abbrev pub told : Fabric
told = trio_with first_0 second_0 third_1 (pool 6)

abbrev before : Fabric
before = trio_with first_0 (second_with b2) third_1 (pool 6)

abbrev configs_one : List EdgeConfig
configs_one = config_anew here ∷ config_of root_settings there ∷ config_of root_settings far ∷ []

abbrev began : Fabric
began = trio_of configs_one (opened_anew here) (second_with b2) third_1 (pool 6)

abbrev among : Edge → Edge → Edge → ℕ → Fabric
among a b c n = trio_of (config_anew here ∷ config_of root_settings there ∷ config_anew far ∷ []) a b c (pool n)

abbrev opened : Fabric
opened = among (opened_anew here) (second_with b2) (opened_anew far) 6

abbrev old : Fabric
old = among (opened_anew here) (second_with b2) third_heard 6

abbrev f1 : Fabric
f1 = among (first_with a0) (second_with b2) third_heard 7

abbrev f2 : Fabric
f2 = among (first_with a0) (second_with b2) (third_with c1) 8

abbrev f3 : Fabric
f3 = among (first_with a0) (second_with b3) (third_with c1) 8

abbrev f4 : Fabric
f4 = among (first_with a0) (second_with b4) (third_with c1) 8

abbrev f5 : Fabric
f5 = among (first_with a1) (second_with b4) (third_with c1) 8

abbrev f6 : Fabric
f6 = among (first_with a1) (second_with b4) (third_with c2) 8

abbrev f7 : Fabric
f7 = among (first_with a2) (second_with b4) (third_with c2) 8

abbrev f8 : Fabric
f8 = among (first_with a3) (second_with b4) (third_with c2) 8

abbrev f9 : Fabric
f9 = among (first_with a3) (second_with b4) (third_with c3) 8

abbrev held : Fabric
held = among (first_pinned a4 2 (lodger_register here ∷ [])) (second_with b4) (third_with c3) 8

abbrev f11 : Fabric
f11 = among (first_pinned a5 3 (lodger_register here ∷ guest_register here ∷ [])) (second_with b4) (third_with c3) 8

abbrev f12 : Fabric
f12 = among (first_pinned a5 3 (guest_register here ∷ [])) (second_with b4) (third_with c3) 9

abbrev f13 : Fabric
f13 = among first_last (second_with b4) (third_with c3) 10

abbrev f14 : Fabric
f14 = among first_last (second_with b5) (third_with c3) 10

abbrev f15 : Fabric
f15 = among first_last (second_with b6) (third_with c3) 10

abbrev f16 : Fabric
f16 = among first_last (second_with b6) (third_with c4) 10

abbrev new : Fabric
new = among first_last (second_with b6) (third_with c5) 10

-- ---- the steps before the session

pub says_gone : Going agreed (Announce 3) told
says_gone = announces third_0 lodger_gone
    (found third_said lodger_gone.register) refl refl refl

hears_gone : Going told (Deliver 2 6) before
hears_gone = takes second_0 lodger_gone refl refl refl refl
    (hears_of 0 there far b1 1 [] nobody_learnt lodger_gone.value refl refl)

first_opens : Going before (Restart 1 1) began
first_opens = reopens first_0 here (0, lit< tt, refl) refl (lit< tt) refl

third_opens : Going began (Restart 3 1) opened
third_opens = reopens third_1 far (2, lit< tt, refl) refl (lit< tt) refl

-- the third edge takes the withdrawal of its earlier life
third_hears : Going opened (Deliver 3 6) old
third_hears = returns (opened_anew far) lodger_gone refl refl refl
    (kept 1 far c0 1 (flood_register far ∷ []) nobody_learnt (lodger_register far) (said_free 3) refl refl refl)

-- ---- the steps of the session

s1 : Going old (Announce 1) f1
s1 = announces (opened_anew here) flood_here (found a0 flood_here.register) refl refl refl

s2 : Going f1 (Announce 3) f2
s2 = announces third_heard flood_far (found c1 flood_far.register) refl refl refl

s3 : Going f2 (Deliver 2 7) f3
s3 = takes (second_with b2) flood_here refl refl refl refl
    (hears 0 there here b2 1 [] nobody_learnt flood_anew refl)

s4 : Going f3 (Deliver 2 8) f4
s4 = takes (second_with b3) flood_far refl refl refl refl
    (hears 0 there far b3 1 [] nobody_learnt flood_anew refl)

s5 : Going f4 (Deliver 1 3) f5
s5 = takes (first_with a0) flood_two refl refl refl refl
    (hears 1 here there a0 1 [] nobody_learnt said_first refl)

s6 : Going f5 (Deliver 3 3) f6
s6 = takes (third_with c1) flood_two refl refl refl refl
    (hears 1 far there c1 1 [] nobody_learnt said_first refl)

s7 : Going f6 (Deliver 1 8) f7
s7 = takes (first_with a1) flood_far refl refl refl refl
    (hears 1 here far a1 1 [] nobody_learnt flood_anew refl)

s8 : Going f7 (Deliver 1 6) f8
s8 = takes (first_with a2) lodger_gone refl refl refl refl
    (hears_of 1 here far a2 1 [] nobody_learnt lodger_gone.value refl refl)

s9 : Going f8 (Deliver 3 7) f9
s9 = takes (third_with c2) flood_here refl refl refl refl
    (hears 1 far here c2 1 [] nobody_learnt flood_anew refl)

s10 : Going f9 (Local 1 (Pin lodger 1)) held
s10 = does (first_pinned a4 2 (lodger_register here ∷ [])) (alone None) refl
    (pins 1 (start root_settings two_ports) here a3 1 [] nobody_learnt empty 0 free_first refl refl)

-- the second edge takes the withdrawal from the third edge
t1 : Going held (Deliver 2 6) held
t1 = takes (second_with b4) lodger_gone refl refl refl refl
    (hears_again 0 there far b4 1 [] nobody_learnt lodger_gone.value refl refl)

-- the first and the third edge take back the values that the others have of their registers
t2 : Going held (Deliver 1 7) held
t2 = returns (first_pinned a4 2 (lodger_register here ∷ [])) flood_here refl refl refl
    (no_news 1 here a4 2 (lodger_register here ∷ []) lodged (flood_register here) flood_anew refl)

t3 : Going held (Deliver 1 2) f11
t3 = returns (first_pinned a4 2 (lodger_register here ∷ [])) guest_here refl refl refl
    (withdrawn 1 here a4 2 (lodger_register here ∷ []) lodged (guest_register here) (said_guest 0) refl refl refl refl)

t4 : Going f11 (Deliver 3 8) f11
t4 = returns (third_with c3) flood_far refl refl refl
    (no_news 1 far c3 1 [] nobody_learnt (flood_register far) flood_anew refl)

t5 : Going f11 (Deliver 3 6) f11
t5 = returns (third_with c3) lodger_gone refl refl refl
    (no_news 1 far c3 1 [] nobody_learnt (lodger_register far) (said_free 3) refl)

-- and to the second one
t6 : Going f11 (Deliver 2 3) f11
t6 = returns (second_with b4) flood_two refl refl refl
    (no_news 0 there b4 1 [] nobody_learnt (flood_register there) said_first refl)

-- the new updates
t7 : Going f11 (Announce 1) f12
t7 = announces (first_pinned a5 3 (lodger_register here ∷ guest_register here ∷ [])) lodger_here
    (found a5 lodger_here.register) refl refl refl

t8 : Going f12 (Announce 1) f13
t8 = announces (first_pinned a5 3 (guest_register here ∷ [])) guest_left
    (found a5 guest_left.register) refl refl refl

t9 : Going f13 (Deliver 2 9) f14
t9 = takes (second_with b4) lodger_here refl refl refl refl
    (hears_of 0 there here b4 1 [] nobody_learnt lodger_here.value refl refl)

t10 : Going f14 (Deliver 2 10) f15
t10 = takes (second_with b5) guest_left refl refl refl refl
    (keeps 0 there here b5 1 [] nobody_learnt guest_left.value refl refl)

t11 : Going f15 (Deliver 3 9) f16
t11 = takes (third_with c3) lodger_here refl refl refl refl
    (hears_of 1 far here c3 1 [] nobody_learnt lodger_here.value refl refl)

t12 : Going f16 (Deliver 3 10) new
t12 = takes (third_with c4) guest_left refl refl refl refl
    (keeps 1 far here c4 1 [] nobody_learnt guest_left.value refl refl)

-- ---- the session

abbrev sooner : List Step
sooner = Announce 1 ∷ Announce 3 ∷ Deliver 2 7 ∷ Deliver 2 8 ∷ Deliver 1 3 ∷ Deliver 3 3
    ∷ Deliver 1 8 ∷ Deliver 1 6 ∷ Deliver 3 7 ∷ []

abbrev second_part : List Step
second_part = Deliver 2 6 ∷ Deliver 1 7 ∷ Deliver 1 2 ∷ Deliver 3 8 ∷ Deliver 3 6 ∷ Deliver 2 3 ∷ Announce 1
    ∷ Announce 1 ∷ Deliver 2 9 ∷ Deliver 2 10 ∷ Deliver 3 9 ∷ Deliver 3 10 ∷ []

abbrev first_part : List Step
first_part = sooner ++ Local 1 (Pin lodger 1) ∷ []

abbrev steps : List Step
steps = first_part ++ second_part

abbrev begins : Ran old first_part held
begins = follows s1 (follows s2 (follows s3 (follows s4 (follows s5 (follows s6 (follows s7 (follows s8 (follows s9
    (follows s10 (record { run = refl }))))))))))

abbrev ends : Ran held second_part new
ends = follows t1 (follows t2 (follows t3 (follows t4 (follows t5 (follows t6 (follows t7 (follows t8 (follows t9
    (follows t10 (follows t11 (follows t12 (record { run = refl }))))))))))))

abbrev parts : Parts old steps new
parts = record {
  first = first_part;
  second = second_part;
  is = refl;
  held = held;
  begins = begins.run;
  ends = ends.run;
}

-- ---- the deliveries

second_flood_here : TookIn old steps new parts 1 flood_here
second_flood_here = inl (inr (inr (inl (6, s3.reply, refl, refl, refl))))

second_flood_far : TookIn old steps new parts 1 flood_far
second_flood_far = inl (inr (inr (inr (inl (7, s4.reply, refl, refl, refl)))))

first_flood : TookIn old steps new parts 0 flood_two
first_flood = inl (inr (inr (inr (inr (inl (2, s5.reply, refl, refl, refl))))))

third_flood : TookIn old steps new parts 2 flood_two
third_flood = inl (inr (inr (inr (inr (inr (inl (2, s6.reply, refl, refl, refl)))))))

first_flood_far : TookIn old steps new parts 0 flood_far
first_flood_far = inl (inr (inr (inr (inr (inr (inr (inl (7, s7.reply, refl, refl, refl))))))))

first_gone : TookIn old steps new parts 0 lodger_gone
first_gone = inl (inr (inr (inr (inr (inr (inr (inr (inl (5, s8.reply, refl, refl, refl)))))))))

third_flood_here : TookIn old steps new parts 2 flood_here
third_flood_here = inl (inr (inr (inr (inr (inr (inr (inr (inr (inl (6, s9.reply, refl, refl, refl))))))))))

second_lodger : TookIn old steps new parts 1 lodger_here
second_lodger = inr (inr (inr (inr (inr (inr (inr (inr (inr (inl (8, t9.reply, refl, refl, refl))))))))))

second_left : TookIn old steps new parts 1 guest_left
second_left = inr (inr (inr (inr (inr (inr (inr (inr (inr (inr (inl (9, t10.reply, refl, refl, refl)))))))))))

third_lodger : TookIn old steps new parts 2 lodger_here
third_lodger = inr (inr (inr (inr (inr (inr (inr (inr (inr (inr (inr (inl (8, t11.reply, refl, refl, refl))))))))))))

third_left : TookIn old steps new parts 2 guest_left
third_left =
    inr (inr (inr (inr (inr (inr (inr (inr (inr (inr (inr (inr (inl (9, t12.reply, refl, refl, refl)))))))))))))

second_gone : Took 1 lodger_gone second_part held new ends.run
second_gone = inl (5, t1.reply, refl, refl, refl)

first_back : Took 0 flood_here second_part held new ends.run
first_back = inr (inl (6, t2.reply, refl, refl, refl))

first_guest : Took 0 guest_here second_part held new ends.run
first_guest = inr (inr (inl (1, t3.reply, refl, refl, refl)))

third_back : Took 2 flood_far second_part held new ends.run
third_back = inr (inr (inr (inl (7, t4.reply, refl, refl, refl))))

third_gone : Took 2 lodger_gone second_part held new ends.run
third_gone = inr (inr (inr (inr (inl (5, t5.reply, refl, refl, refl)))))

second_back : Took 1 flood_two second_part held new ends.run
second_back = inr (inr (inr (inr (inr (inl (2, t6.reply, refl, refl, refl))))))

-- ---- from each edge to each other one

abbrev more : List Said
more = said_of flood_here ∷ said_of flood_far ∷ said_of lodger_here ∷ said_of guest_left ∷ []

is_more : (us : List Fields) → new.pool ≡ old.pool ++ us → us ≡ flood_here ∷ flood_far ∷ lodger_here ∷ guest_left ∷ []
is_more us is = sym (ap (drop 6) is)

-- the withdrawal that the third edge has at the beginning, and the others between the parts
gone_known : Holds old 2 lodger_gone
gone_known = (third_heard, refl, found c1 lodger_gone.register)

gone_there : Holds held 1 lodger_gone
gone_there = (second_with b4, refl, found b4 lodger_gone.register)

gone_here : Holds held 0 lodger_gone
gone_here = (first_pinned a4 2 (lodger_register here ∷ []), refl, found a4 lodger_gone.register)

first_to_second : Sending 0 1 here 1 old steps new parts
first_to_second = record {
  before = opened_anew here;
  after = first_last;
  held = second_with b4;
  edges = (refl, refl, refl);
  said = a0;
  last = a5;
  heard = b4;
  more = more;
  tables = (refl, refl, refl);
  is_more = is_more;
  name = (refl, refl);
  own = (second_flood_here, tt);
  since = (second_flood_here, (tt, (second_lodger, (second_left, tt))));
  quiet = refl;
  back = (tt, (first_back, (tt, (first_guest, (tt, tt)))));
  late = 0;
  later = refl;
  had = λ u is. cc;
}

first_to_third : Sending 0 2 here 1 old steps new parts
first_to_third = record {
  before = opened_anew here;
  after = first_last;
  held = third_with c3;
  edges = (refl, refl, refl);
  said = a0;
  last = a5;
  heard = c3;
  more = more;
  tables = (refl, refl, refl);
  is_more = is_more;
  name = (refl, refl);
  own = (third_flood_here, tt);
  since = (third_flood_here, (tt, (third_lodger, (third_left, tt))));
  quiet = refl;
  back = (first_back, (tt, (tt, (tt, tt))));
  late = 0;
  later = refl;
  had = λ u is. cc;
}

third_to_second : Sending 2 1 far 1 old steps new parts
third_to_second = record {
  before = third_heard;
  after = third_with c5;
  held = second_with b4;
  edges = (refl, refl, refl);
  said = c1;
  last = c5;
  heard = b4;
  more = more;
  tables = (refl, refl, refl);
  is_more = is_more;
  name = (refl, refl);
  own = (inr second_gone, (second_flood_far, tt));
  since = (tt, (second_flood_far, (tt, (tt, tt))));
  quiet = refl;
  back = (third_back, (tt, (third_gone, (tt, (tt, tt)))));
  late = 6;
  later = refl;
  had = λ u is. subst (Holds old 2) (cc) gone_known;
}

third_to_first : Sending 2 0 far 1 old steps new parts
third_to_first = record {
  before = third_heard;
  after = third_with c5;
  held = first_pinned a4 2 (lodger_register here ∷ []);
  edges = (refl, refl, refl);
  said = c1;
  last = c5;
  heard = a4;
  more = more;
  tables = (refl, refl, refl);
  is_more = is_more;
  name = (refl, refl);
  own = (first_gone, (first_flood_far, tt));
  since = (tt, (first_flood_far, (tt, (tt, tt))));
  quiet = refl;
  back = (tt, (third_gone, (third_back, (tt, (tt, tt)))));
  late = 0;
  later = refl;
  had = λ u is. cc;
}

second_to_first : Sending 1 0 there 0 old steps new parts
second_to_first = record {
  before = second_with b2;
  after = second_with b6;
  held = first_pinned a4 2 (lodger_register here ∷ []);
  edges = (refl, refl, refl);
  said = b2;
  last = b6;
  heard = a4;
  more = more;
  tables = (refl, refl, refl);
  is_more = is_more;
  name = (refl, refl);
  own = (tt, (tt, (first_flood, tt)));
  since = (tt, (tt, (tt, (tt, tt))));
  quiet = refl;
  back = (tt, (tt, (tt, (second_back, (tt, tt)))));
  late = 0;
  later = refl;
  had = λ u is. cc;
}

second_to_third : Sending 1 2 there 0 old steps new parts
second_to_third = record {
  before = second_with b2;
  after = second_with b6;
  held = third_with c3;
  edges = (refl, refl, refl);
  said = b2;
  last = b6;
  heard = c3;
  more = more;
  tables = (refl, refl, refl);
  is_more = is_more;
  name = (refl, refl);
  own = (tt, (tt, (third_flood, tt)));
  since = (tt, (tt, (tt, (tt, tt))));
  quiet = refl;
  back = (tt, (second_back, (tt, (tt, tt))));
  late = 0;
  later = refl;
  had = λ u is. cc;
}

abbrev Sent : ℕ → ℕ → Type 0
Sent i j = (a : Edge) (r : Register) → IsEdge new i a → r.originator ≡ address_of a
    → IsSent i j a r old steps new parts

module _ (sound : IsSound old) where
  sent_first_to_second : Sent 0 1
  unfolding first_to_second
  sent_first_to_second = is_sent sound first_to_second
      (tt, (tt, (tt, (tt, (tt, (tt, (tt, tt)))))))

  sent_first_to_third : Sent 0 2
  unfolding first_to_third
  sent_first_to_third = is_sent sound first_to_third
      (tt, (tt, (tt, (tt, (tt, (tt, (tt, tt)))))))

  sent_third_to_second : Sent 2 1
  unfolding third_to_second
  sent_third_to_second = is_sent sound third_to_second
      (tt, (tt, (tt, (tt, (gone_there, (tt, tt))))))

  sent_third_to_first : Sent 2 0
  unfolding third_to_first
  sent_third_to_first = is_sent sound third_to_first
      (tt, (tt, (tt, (tt, (gone_here, (tt, tt))))))

  sent_second_to_first : Sent 1 0
  unfolding second_to_first
  sent_second_to_first = is_sent sound second_to_first
      (tt, (tt, (tt, (tt, (tt, (tt, (tt, tt)))))))

  sent_second_to_third : Sent 1 2
  unfolding second_to_third
  sent_second_to_third = is_sent sound second_to_third
      (tt, (tt, (tt, (tt, (tt, (tt, (tt, tt)))))))

  all_sent : (i j : ℕ) → i ≢ j → i < 3 → j < 3 → Sent i j
  all_sent i j apart less_i less_j = three_places (λ x. x ≢ j → Sent x j)
      (three_places (λ y. 0 ≢ y → Sent 0 y) (λ ne. absurd (ne refl)) (λ ne. sent_first_to_second)
      (λ ne. sent_first_to_third) j less_j)
      (three_places (λ y. 1 ≢ y → Sent 1 y) (λ ne. sent_second_to_first) (λ ne. absurd (ne refl))
      (λ ne. sent_second_to_third) j less_j)
      (three_places (λ y. 2 ≢ y → Sent 2 y) (λ ne. sent_third_to_first) (λ ne. sent_third_to_second)
      (λ ne. absurd (ne refl)) j less_j) i less_i apart

  -- of any two processes that share no edge
  session_of : (p q : Process) → ((i : ℕ) → Contains p i → i < 3) → ((j : ℕ) → Contains q j → j < 3)
      → ((i j : ℕ) → Contains p i → Contains q j → i ≢ j) → Session p q old steps new
  session_of p q less_p less_q apart = record {
    there = record {
      parts = parts;
      senders = λ i in_p. none_opens steps tt i;
      takers = λ j in_q. none_opens steps tt j;
      sent = λ i j a r in_p in_q. all_sent i j (apart i j in_p in_q) (less_p i in_p) (less_q j in_q) a r;
    };
    back = record {
      parts = parts;
      senders = λ i in_q. none_opens steps tt i;
      takers = λ j in_p. none_opens steps tt j;
      sent = λ i j a r in_q in_p. all_sent i j (λ same. apart j i in_p in_q (sym same)) (less_q i in_q) (less_p j in_p)
          a r;
    };
  }

  session : Session (0 ∷ 2 ∷ []) (1 ∷ []) old steps new
  session = session_of (0 ∷ 2 ∷ []) (1 ∷ []) (two_places (λ i. i < 3) (lit< tt) (lit< tt))
      (one_place (λ j. j < 3) (lit< tt)) (λ i j in_p in_q. two_places (λ x. x ≢ j)
      (one_place (λ y. 0 ≢ y) (λ same. omega (arith, same)) j in_q)
      (one_place (λ y. 2 ≢ y) (λ same. omega (arith, same)) j in_q) i in_p)

  -- each edge as a process of its own
  one_alone : (m : ℕ) (p : Process) → slice_get each_alone m ≡ Some p → (i : ℕ) → Contains p i → (i ≡ m) × (i < 3)
  one_alone zero p at = let same : 0 ∷ [] ≡ p = cc in
      subst (λ l. (i : ℕ) → Contains l i → (i ≡ 0) × (i < 3)) same
      (one_place (λ i. (i ≡ 0) × (i < 3)) (refl, lit< tt))
  one_alone (suc zero) p at = let same : 1 ∷ [] ≡ p = cc in
      subst (λ l. (i : ℕ) → Contains l i → (i ≡ 1) × (i < 3)) same
      (one_place (λ i. (i ≡ 1) × (i < 3)) (refl, lit< tt))
  one_alone (suc (suc zero)) p at = let same : 2 ∷ [] ≡ p = cc in
      subst (λ l. (i : ℕ) → Contains l i → (i ≡ 2) × (i < 3)) same
      (one_place (λ i. (i ≡ 2) × (i < 3)) (refl, lit< tt))
  one_alone (suc (suc (suc m))) p at = cc

  met : (m n : ℕ) (p q : Process) → m ≢ n → slice_get each_alone m ≡ Some p → slice_get each_alone n ≡ Some q
      → Met p q new
  met m n p q apart at_p at_q = record {
    old = old;
    steps = steps;
    sound = sound;
    session = session_of p q (λ i in_p. (one_alone m p at_p i in_p).1) (λ j in_q. (one_alone n q at_q j in_q).1)
        (λ i j in_p in_q same. apart (sym (one_alone m p at_p i in_p).0 ∙ same ∙ (one_alone n q at_q j in_q).0));
  }

-- ---- the witness

pub goes_further : (f g : Fabric) (steps : List Step) → HasRun f → Ran f steps g → HasRun g
goes_further f g steps h more = record {
  configs = h.configs;
  opened = h.opened;
  steps = h.steps ++ steps;
  fit = h.fit;
  start = h.start;
  run = runs_on h.steps steps h.opened f g h.run more.run;
}

module _ (lists : SettledByLists) (happens : RunsHappen) where
  before_run : HasRun before
  before_run = goes_further agreed before (Announce 3 ∷ Deliver 2 6 ∷ []) (has_run lists happens)
      (follows says_gone (follows hears_gone (record { run = refl })))

  pub session_of_a_fabric : Starts → EveryRun → SessionsAgree → AllSessionsAgree → BegunAnew → SessionOfAFabric
  unfolding session session_of
  session_of_a_fabric starts every_run agree agree_all begun = record {
    before = before;
    has_run = before_run;
    three = refl;
    life = 1;
    reply = first_opens.reply;
    began = began;
    restart = first_opens.goes;
    meanwhile = Restart 3 1 ∷ Deliver 3 6 ∷ [];
    old = old;
    goes_on = meanwhile.run;
    sound = sound;
    steps = steps;
    new = new;
    session = session sound;
    first_old = opened_anew here;
    first = first_last;
    second = second_with b6;
    third = third_with c5;
    at_first_old = refl;
    at_first = refl;
    at_second = refl;
    at_third = refl;
    station = guest;
    earlier = said_guest 0;
    had = (second_with b2, refl, found b2 guest_here.register);
    was_advert = refl;
    is_earlier = lit< tt;
    not_learnt = get-empty {X = Entry} station_cmp guest;
    gone = rw (found b6 guest_here.register);
    withdrawal = guest_left.value;
    is_withdrawn = refl;
    of_life = refl;
    held_by_first = (first_last, refl, found a5 guest_left.register);
    held_by_second = (second_with b6, refl, found b6 guest_left.register);
    sooner = sooner;
    later = second_part;
    event = Pin lodger 1;
    between = refl;
    delivers = (7, (2, omega arith, refl));
    delivers_back = (2, (2, omega arith, refl));
    other = lodger;
    present = lodger_here.value;
    news = flood_here ∷ flood_far ∷ lodger_here ∷ guest_left ∷ [];
    announced = refl;
    among = (2, omega arith, refl);
    is_advert = refl;
    is_present = refl;
    learnt_since = get-empty {X = Entry} station_cmp lodger;
    learnt = rw (pinned_entry free_first);
    first_has = (first_last, refl, found a5 lodger_here.register);
    second_has = (second_with b6, refl, found b6 lodger_here.register);
    kept = lodger_gone;
    of_third = refl;
    of_past = lit< tt;
    third_had = gone_known;
    second_takes = second_gone;
    third_takes = third_gone;
    third_has = (third_with c5, refl, found c5 lodger_gone.register);
    met = met sound;
    first_agrees = agree (0 ∷ 2 ∷ []) (1 ∷ []) old steps new sound (session sound) 0 1 first_last (second_with b6)
        (0, omega arith, refl) (0, omega arith, refl) refl refl;
    third_agrees = agree (0 ∷ 2 ∷ []) (1 ∷ []) old steps new sound (session sound) 2 1 (third_with c5) (second_with b6)
        (1, omega arith, refl) (0, omega arith, refl) refl refl;
    all_agree = λ i j a b apart less_i less_j at_a at_b. agree_all each_alone new (met sound) i j i j (i ∷ []) (j ∷ [])
        a b apart (place i less_i) (place j less_j) (0, omega arith, refl) (0, omega arith, refl) at_a at_b;
    anew = begun (0 ∷ 2 ∷ []) (1 ∷ []) before began old new 0 1 1 first_opens.reply (Restart 3 1 ∷ Deliver 3 6 ∷ [])
        steps sound_before first_opens.goes meanwhile.run (session sound) first_last (second_with b6)
        (0, omega arith, refl) (0, omega arith, refl) refl refl;
  }
    where
      sound_before : IsSound before
      sound_before =
          every_run before_run.steps before_run.opened before before_run.run
          (starts before_run.configs before_run.opened before_run.fit before_run.start)

      meanwhile : Ran began (Restart 3 1 ∷ Deliver 3 6 ∷ []) old
      meanwhile = follows third_opens (follows third_hears (record { run = refl }))

      restarts : Ran before (Restart 1 1 ∷ Restart 3 1 ∷ Deliver 3 6 ∷ []) old
      restarts = follows first_opens meanwhile

      sound : IsSound old
      sound = every_run (Restart 1 1 ∷ Restart 3 1 ∷ Deliver 3 6 ∷ []) before old restarts.run sound_before

      place : (i : ℕ) → i < 3 → slice_get each_alone i ≡ Some (i ∷ [])
      place i less = three_places (λ x. slice_get each_alone x ≡ Some (x ∷ [])) refl refl refl i less
