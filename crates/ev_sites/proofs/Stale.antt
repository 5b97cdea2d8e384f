-- An edge restarts. A withdrawal of its earlier life comes to it before an older advert, which another edge then keeps.
use Rattle.std.proofs.Common.{◌≡◌, inl, inr, ℕ, List, [], ◌∷◌, ◌++◌, drop, take, refl, sym, ap, ◌∙◌, arith, lit<}
use Rattle.std.specs.FinMap.{empty, get-empty}
use Rattle.route_wire.specs.declared.update.Register.{Register}
use Rattle.route_wire.specs.declared.update.Value.{Value}
use Rattle.route_wire.specs.Fields.{Fields}
use Rattle.mac_arena.specs.declared.station.Entry.{Entry}
use Rattle.mac_arena.specs.Station.{station_cmp}
use Rattle.rstp_run.specs.Events.{RunsHappen}
use Rattle.rstp_run.specs.Settled.{SettledByLists}
use Rattle.ev_edge.specs.Edge.{Edge, address_of}
use Rattle.ev_fabric.specs.declared.step.Step.{Step}
use Rattle.ev_fabric.specs.declared.step.Step.TheVariants.{Announce, Deliver, Restart}
use Rattle.ev_fabric.specs.Fabric.{Fabric}
use Rattle.ev_fabric.specs.Laws.{Starts, EveryRun}
use Rattle.ev_fabric.specs.Sound.{IsSound}
use Rattle.ev_fabric.proofs.Example.{config_of, nobody_learnt}
use Rattle.ev_sites.specs.Sessions.{Took, Parts, TookIn, IsSent, Session, SessionsAgree}
use Rattle.ev_sites.specs.Witnesses.{HasRun, AdvertStays}
use Rattle.ev_sites.proofs.Tables.{Said, found}
use Rattle.ev_sites.proofs.Guest.{here, there, flood_register, said_first, hears}
use Rattle.ev_sites.proofs.Risen.{root_settings}
use Rattle.ev_sites.proofs.Agreed.{guest_learnt}
use Rattle.ev_sites.proofs.Trio.{far, trio_of, trio_with, Going, Ran, follows, telling, announces, takes, lodger}
use Rattle.ev_sites.proofs.Trio.{lodger_register, said_fixed, said_free, hears_of}
use Rattle.ev_sites.proofs.Traffic.{flood_one, flood_two, flood_three, guest_here, lodger_first, lodger_gone, said_of}
use Rattle.ev_sites.proofs.Traffic.{a1, b1, first_0, second_0, third_1, agreed, has_run}
use Rattle.ev_sites.proofs.Anew.{flood_anew, opened_anew, config_anew, reopens, returns, no_news, kept}
use Rattle.ev_sites.proofs.Sendings.{Sending, delivered, is_sent}
use Rattle.ev_sites.proofs.Returned.{flood_far, c0, second_with, third_with, told, says_gone, goes_further}

-- ---- the fabrics

abbrev c1 : List Said
c1 = said_of flood_two ∷ c0

abbrev c2 : List Said
c2 = said_of lodger_gone ∷ c1

abbrev pool : ℕ → List Fields
pool n = take n (flood_one ∷ guest_here ∷ flood_two ∷ flood_three ∷ lodger_first ∷ lodger_gone ∷ flood_far ∷ [])

abbrev first_told : Edge
first_told = telling here (said_of lodger_gone ∷ a1) 2 [] guest_learnt empty

abbrev b2 : List Said
b2 = said_of lodger_first ∷ b1

abbrev b3 : List Said
b3 = said_of flood_far ∷ b2

abbrev g1 : Fabric
g1 = trio_with first_told second_0 third_1 (pool 6)

abbrev g2 : Fabric
g2 = trio_with first_told (second_with b2) third_1 (pool 6)

abbrev among : Edge → Edge → ℕ → Fabric
among b c n = trio_of (config_of root_settings here ∷ config_of root_settings there ∷ config_anew far ∷ [])
    first_told b c (pool n)

abbrev old : Fabric
old = among (second_with b2) (opened_anew far) 6

abbrev h1 : Fabric
h1 = among (second_with b2) (third_with c0) 7

abbrev h2 : Fabric
h2 = among (second_with b3) (third_with c0) 7

abbrev h3 : Fabric
h3 = among (second_with b3) (third_with c1) 7

abbrev held : Fabric
held = among (second_with b3) (third_with c2) 7

-- ---- the steps

g1_goes : Going told (Deliver 1 6) g1
g1_goes = takes first_0 lodger_gone refl refl refl refl
    (hears_of 0 here far a1 2 [] guest_learnt lodger_gone.value refl refl)

g2_goes : Going g1 (Deliver 2 5) g2
g2_goes = takes second_0 lodger_first refl refl refl refl
    (hears_of 0 there far b1 1 [] nobody_learnt lodger_first.value refl refl)

third_opens : Going g2 (Restart 3 1) old
third_opens = reopens third_1 far (2, lit< tt, refl) refl (lit< tt) refl

s1 : Going old (Announce 3) h1
s1 = announces (opened_anew far) flood_far (found c0 flood_far.register) refl refl refl

s2 : Going h1 (Deliver 2 7) h2
s2 = takes (second_with b2) flood_far refl refl refl refl
    (hears 0 there far b2 1 [] nobody_learnt flood_anew refl)

s3 : Going h2 (Deliver 3 3) h3
s3 = takes (third_with c0) flood_two refl refl refl refl
    (hears 1 far there c0 1 [] nobody_learnt said_first refl)

s4 : Going h3 (Deliver 3 6) held
s4 = returns (third_with c1) lodger_gone refl refl refl
    (kept 1 far c1 1 [] nobody_learnt (lodger_register far) (said_free 3) refl refl refl)

t1 : Going held (Deliver 3 5) held
t1 = returns (third_with c2) lodger_first refl refl refl
    (no_news 1 far c2 1 [] nobody_learnt (lodger_register far) (said_fixed 2) refl)

t2 : Going held (Deliver 3 7) held
t2 = returns (third_with c2) flood_far refl refl refl
    (no_news 1 far c2 1 [] nobody_learnt (flood_register far) flood_anew refl)

t3 : Going held (Deliver 2 3) held
t3 = returns (second_with b3) flood_two refl refl refl
    (no_news 0 there b3 1 [] nobody_learnt (flood_register there) said_first refl)

abbrev first_part : List Step
first_part = Announce 3 ∷ Deliver 2 7 ∷ Deliver 3 3 ∷ Deliver 3 6 ∷ []

abbrev second_part : List Step
second_part = Deliver 3 5 ∷ Deliver 3 7 ∷ Deliver 2 3 ∷ []

abbrev steps : List Step
steps = first_part ++ second_part

abbrev begins : Ran old first_part held
begins = follows s1 (follows s2 (follows s3 (follows s4 (record { run = refl }))))

abbrev ends : Ran held second_part held
ends = follows t1 (follows t2 (follows t3 (record { run = refl })))

abbrev parts : Parts old steps held
parts = record {
  first = first_part;
  second = second_part;
  is = refl;
  held = held;
  begins = begins.run;
  ends = ends.run;
}

-- ---- the deliveries

second_flood : TookIn old steps held parts 1 flood_far
second_flood = inl (inr (inl (6, s2.reply, refl, refl, refl)))

second_back : Took 1 flood_two second_part held held ends.run
second_back = inr (inr (inl (2, t3.reply, refl, refl, refl)))

third_flood : TookIn old steps held parts 2 flood_two
third_flood = inl (inr (inr (inl (2, s3.reply, refl, refl, refl))))

third_gone : Took 2 lodger_gone first_part old held begins.run
third_gone = inr (inr (inr (inl (5, s4.reply, refl, refl, refl))))

third_advert : Took 2 lodger_first second_part held held ends.run
third_advert = inl (4, t1.reply, refl, refl, refl)

third_back : Took 2 flood_far second_part held held ends.run
third_back = inr (inl (6, t2.reply, refl, refl, refl))

is_more : (us : List Fields) → held.pool ≡ old.pool ++ us → us ≡ flood_far ∷ []
is_more us is = sym (ap (drop 6) is)

from_third : Sending 2 1 far 1 old steps held parts
from_third = record {
  before = opened_anew far;
  after = third_with c2;
  held = second_with b3;
  edges = (refl, refl, refl);
  said = c0;
  last = c2;
  heard = b3;
  more = said_of flood_far ∷ [];
  tables = (refl, refl, refl);
  is_more = is_more;
  name = (refl, refl);
  own = (second_flood, tt);
  since = (second_flood, tt);
  quiet = refl;
  back = (third_back, (third_advert, (tt, (tt, tt))));
  late = 0;
  later = refl;
  had = λ u is. cc;
}

to_third : Sending 1 2 there 0 old steps held parts
to_third = record {
  before = second_with b2;
  after = second_with b3;
  held = third_with c2;
  edges = (refl, refl, refl);
  said = b2;
  last = b3;
  heard = c2;
  more = said_of flood_far ∷ [];
  tables = (refl, refl, refl);
  is_more = is_more;
  name = (refl, refl);
  own = (tt, (tt, (third_flood, tt)));
  since = (tt, tt);
  quiet = refl;
  back = (tt, (second_back, (tt, tt)));
  late = 0;
  later = refl;
  had = λ u is. cc;
}

sent_third : IsSound old → (r : Register) → r.originator ≡ address_of (second_with b3)
    → IsSent 1 2 (second_with b3) r old steps held parts
unfolding to_third
sent_third sound r mine = is_sent sound to_third (tt, (tt, (tt, (tt, tt))))
    (second_with b3) r refl mine

module _ (lists : SettledByLists) (happens : RunsHappen) where
  old_run : HasRun old
  old_run = goes_further agreed old (Announce 3 ∷ Deliver 1 6 ∷ Deliver 2 5 ∷ Restart 3 1 ∷ []) (has_run lists happens)
      (follows says_gone (follows g1_goes (follows g2_goes (follows third_opens (record { run = refl })))))

  pub advert_stays : Starts → EveryRun → SessionsAgree → AdvertStays
  advert_stays starts every_run agree = record {
    old = old;
    has_run = old_run;
    sound = sound;
    steps = steps;
    new = held;
    parts = parts;
    none = tt;
    second = second_with b3;
    third = third_with c2;
    at_second = refl;
    at_third = refl;
    there = λ r mine. delivered 2 1 far 1 old steps held parts sound from_third (third_with c2) r refl mine;
    back = sent_third sound;
    station = lodger;
    advert = said_fixed 2;
    is_advert = refl;
    is_earlier = lit< tt;
    stays = (second_with b3, refl, found b3 lodger_first.register);
    not_learnt = get-empty {X = Entry} station_cmp lodger;
    withdrawal = said_free 3;
    is_withdrawn = refl;
    first_has = (first_told, refl, found (said_of lodger_gone ∷ a1) lodger_gone.register);
    comes = third_gone;
    third_has = (third_with c2, refl, found c2 lodger_gone.register);
    no_session = differ;
  }
    where
      sound : IsSound old
      sound = every_run old_run.steps old_run.opened old old_run.run
          (starts old_run.configs old_run.opened old_run.fit old_run.start)

      differ : Session (2 ∷ []) (1 ∷ []) old steps held → ⊥
      differ session =
          let knows = (agree (2 ∷ []) (1 ∷ []) old steps held sound session 2 1 (third_with c2) (second_with b3)
          (0, omega arith, refl) (0, omega arith, refl) refl refl).0 in
          let both = sym (found b3 (lodger_register far))
          ∙ knows.equal (lodger_register far) refl ∙ found c2 (lodger_register far) in
          let same : said_fixed 2 ≡ said_free 3 = cc in
          let counters = ap (λ (v : Value). v.counter) same in omega (arith, counters)
