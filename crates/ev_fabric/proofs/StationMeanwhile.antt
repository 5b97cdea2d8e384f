-- Frames for a station between its move and the agreement on it.
use Rattle.std.proofs.Common.{◌≡◌, ◌≢◌, ◌⊎◌, inl, inr, ℕ, ◌==◌, true, false, Option, Some, None, Ok, List}
use Rattle.std.proofs.Common.{refl, sym, ap, ◌∙◌, arith}
use Rattle.std.proofs.lemmas.Bool.Decides.{nat_tests}
use Rattle.std.proofs.lemmas.Bool.{cases_Bool}
use Rattle.std.proofs.lemmas.List.Elements.{Contains-append_cases}
use Rattle.std.specs.Prelude.{Contains}
use Rattle.std.specs.Option.{MatchOption}
use Rattle.ether_wire.specs.Addr.{is_group}
use Rattle.route_wire.specs.declared.update.Ip.{Ip}
use Rattle.route_wire.specs.declared.update.Key.TheVariants.{Mac}
use Rattle.route_wire.specs.declared.update.Register.{Register}
use Rattle.route_wire.specs.declared.update.Advert.{Advert}
use Rattle.route_wire.specs.declared.update.Value.{Value}
use Rattle.route_wire.specs.Fields.{Fields}
use Rattle.route_wire.specs.Inner.Totals.{neither_newer}
use Rattle.route_join.specs.Table.{value_at, is_news, register_of}
use Rattle.route_join.specs.Flood.{flood_of}
use Rattle.route_join.specs.Owner.{advert_in, advert_of, advert_at, owner, IsOwner, IsUnowned}
use Rattle.route_join.proofs.Owners.{owner_is}
use Rattle.mac_arena.specs.declared.station.Station.{Station}
use Rattle.ev_tunnel.specs.declared.decision.Source.TheVariants.{Port}
use Rattle.ev_tunnel.specs.Decision.{is_up, up_owner, up_edges, open_ports, others_of}
use Rattle.ev_tunnel.proofs.DecisionLemmas.{owner_up, owner_away}
use Rattle.ev_claims.specs.Speaker.{own_advert}
use Rattle.ev_claims.specs.LocalRoutes.{key_of}
use Rattle.ev_edge.specs.declared.event.Event.{Event}
use Rattle.ev_edge.specs.declared.reply.Reply.{Reply}
use Rattle.ev_edge.specs.Edge.{Edge, table_of, address_of}
use Rattle.ev_edge.specs.Sending.{port_of}
use Rattle.ev_edge.specs.Steps.{Steps}
use Rattle.ev_fabric.specs.declared.step.Step.{Step}
use Rattle.ev_fabric.specs.Fabric.{Fabric, IsEdge}
use Rattle.ev_fabric.specs.Sound.{update_of, IsSound}
use Rattle.ev_fabric.specs.Agreed.{Advertises}
use Rattle.ev_fabric.specs.Laws.{IsFrameFor, GoesTo}
use Rattle.ev_fabric.specs.Station.{is_of, StationComes, RunsBeside, NoneRestarts, updates_on}
use Rattle.ev_fabric.specs.Meanwhile.{IsFlooded, GoesHome, FramesMeanwhile}
use Rattle.ev_fabric.proofs.Agreements.{individual, advert_bare}
use Rattle.ev_fabric.proofs.Stations.{about_station, station_one, station_from}
use Rattle.ev_fabric.proofs.Sends.{IsSent, frame_sent, no_entry, frames_come_out}
use Rattle.ev_fabric.proofs.ConvergingRounds.{Has}
use Rattle.ev_fabric.proofs.StationStages.{on, filter_has, filter_from, aside_quiet}
use Rattle.ev_fabric.proofs.StationTaken.{runs_has}
use Rattle.ev_fabric.proofs.StationAlone.{agreed_known}
use Rattle.ev_fabric.proofs.StationMotion.{one_edge, Plan, Old, New, Other, phase_news, Stage, runs_stage, plan}
use Rattle.ev_fabric.proofs.StationMotion.{mid_sound}
use Rattle.ev_fabric.proofs.StationMotion.{first_stage, known_still}
use Rattle.ev_fabric.proofs.StationRounds.{beside_runs}

module _ {old : Fabric} {i j : ℕ} {s : Station} {mid : Fabric} (sound : IsSound old)
    (m : StationComes old i j s mid) where
  abbrev p : Plan
  p = plan sound m false

  -- each edge knows the updates of the station that the pool had before the move
  abbrev AllKnow : Fabric → Type 0
  AllKnow f = (y : ℕ) (w : Fields) → Contains old.pool w → is_of s w.register ≡ true → Has f y w

  know_mid : AllKnow mid
  know_mid y w in' of = known_still sound m w (λ z. agreed_known old s m.agree z in' of) y

  -- ---- whose adverts an edge has
  module _ {new : Fabric} (still_sound : IsSound new) (know : AllKnow new)
      (stage : Stage p new.pool new.edges) where
    -- an advert that was in the pool before and is there still is the old place's
    old_advert : (x : ℕ) {a : Edge} → IsEdge new x a → (o : ℕ) (ip : Option Ip) (v : Value)
        → value_at (table_of a) (register_of o (Mac s.vni s.mac ip)) ≡ Some v → (y : Advert)
        → advert_in v.content ≡ Some y → Contains old.pool (update_of (register_of o (Mac s.vni s.mac ip)) v)
        → o ≡ address_of m.from
    old_advert x {a} at o ip v there y says in' =
        let r : Register = register_of o (Mac s.vni s.mac ip) in
        let of = about_station s ip in
        let l = sound.sources (update_of r v) in' in
        let w = m.agree.arrived l.0 l.1 (update_of r v) l.2 of in' in
        let same = neither_newer v w.0 w.2
        (ap (λ z. is_news z w.0) (sym there)
        ∙ (know x (update_of r w.0) (station_from s sound m.agree l.0 l.1 r w.0 l.2 of w.1) of a at)) in
        sym l.3 ∙ ap (λ (e : Edge). address_of e)
        (sym (one_edge old.edges (station_one s sound m.agree l.0 i l.1 m.from l.2 m.at_from (
          ip,
          y,
          ap advert_of (ap (λ q. value_at (table_of l.1) (register_of q (Mac s.vni s.mac ip))) l.3 ∙ w.1)
              ∙ ap (λ (z : Value). advert_in z.content) (sym same) ∙ says,
        ) m.had) l.2 m.at_from))

    -- an advert of another edge in an edge's table is of the old place or of the new one
    of_two : (x : ℕ) {a : Edge} → IsEdge new x a → (o : ℕ) → o ≢ address_of a → (ip : Option Ip) (y : Advert)
        → advert_at (table_of a) o (Mac s.vni s.mac ip) ≡ Some y → (o ≡ address_of m.from) ⊎ (o ≡ address_of m.to)
    of_two x {a} at o other ip y is = go (value_at (table_of a) r) refl is
      where
        r : Register
        r = register_of o (Mac s.vni s.mac ip)

        among : (v : Value) → value_at (table_of a) r ≡ Some v → advert_in v.content ≡ Some y
            → Contains (updates_on s new.pool) (update_of r v) → (o ≡ address_of m.from) ⊎ (o ≡ address_of m.to)
        among v there says in' = elim (Contains-append_cases p.base stage.n.extra (update_of r v)
            (rw stage.of.grown at in')) [
              | inl earlier ↦ inl (old_advert x at o ip v there y says
                  (filter_from (on s) old.pool (update_of r v) earlier).0)
              | inr now ↦ elim (phase_news p stage.phase (update_of r v) now) [
                | inl same ↦ inr (ap (λ (f : Fields). f.register.originator) same)
                | inr none ↦ cc
              ]
            ]

        go : (v : Option Value) → value_at (table_of a) r ≡ v → advert_of v ≡ Some y
            → (o ≡ address_of m.from) ⊎ (o ≡ address_of m.to)
        go None there says = cc
        go (Some v) there says = among v there says
            (filter_has (on s) new.pool (update_of r v) (about_station s ip)
            ((still_sound.told x a at).foreign r v other there))

    -- an edge that advertises the station is one of the two
    at_two : (x : ℕ) {a : Edge} → IsEdge new x a → Advertises a s → (x ≡ i) ⊎ (x ≡ j)
    at_two x {a} at says = elim (stage.of.roles x a at) [
      | Old is t ↦ inl is
      | New is t ↦ inr is
      | Other ne ne' t ↦ cc (aside_quiet s t, (advert_bare s (still_sound.good x a at) says).1)
    ]

-- ---- frames

-- a frame of which this is known
module _ {i j : ℕ} {s : Station} {old mid : Fabric} (new : Fabric) (steps : List Step) (sound : IsSound old)
    (m : StationComes old i j s mid) (runs : RunsBeside i j s mid steps new) (none : NoneRestarts steps) (x : ℕ)
    (a b : Edge) (at : IsEdge new x a) (event : Event) (port : ℕ) (reply : Reply) (frame : IsFrameFor a event port s)
    (does : Steps a event (Ok reply) b) where
  abbrev Goes : Type 0
  Goes = (((x ≡ i) ⊎ (x ≡ j)) × GoesHome a s port reply) ⊎ GoesTo (address_of m.from) reply
      ⊎ GoesTo (address_of m.to) reply ⊎ IsFlooded b s port reply

  end : Stage (plan sound m false) new.pool new.edges × IsSound new
  end = runs_stage (plan sound m false) steps new (mid_sound sound m) runs (first_stage sound m false)

  know : AllKnow sound m new
  know y w in' of = runs_has steps new y w (mid_sound sound m) (beside_runs i j s steps mid new runs) none
      (know_mid sound m y w in' of)

  single : is_group s.mac ≡ false
  single = individual s (sound.good i m.from m.at_from) m.had

  sent : IsSent a b s (Port port) reply
  sent = frame_sent b reply frame does

  away : (Advertises a s → ⊥) → Goes
  away quiet = owned (owner (table_of b) s.vni s.mac) refl (owner_is (table_of b) s.vni s.mac)
    where
      unlearnt : port_of b s.vni s.mac ≡ None
      unlearnt = rw (sent.leaves.entry, no_entry s (end.1.good x a at) quiet)

      unknown : sent.decision.local ≡ open_ports (Port port) (record {
        members = sent.is.members;
        passing = sent.is.passing;
      }) → sent.decision.remote.items ≡ others_of (address_of b)
          (up_edges b.away (flood_of (table_of b) s.vni)) → Goes
      unknown local remote = inr (inr (inr (record {
        decision = sent.decision;
        there = sent.there;
        members = sent.is.members;
        are_members = sent.is.are_members;
        passing = sent.is.passing;
        are_passing = sent.is.are_passing;
        local = local;
        remote = remote;
      })))

      nobody : up_owner b.away (owner (table_of b) s.vni s.mac) ≡ None → Goes
      nobody is = unknown (rw (sent.is.local, single, unlearnt, is)) (rw (sent.is.remote, single, unlearnt, is))

      to_one : (o : ℕ) → up_owner b.away (owner (table_of b) s.vni s.mac) ≡ Some o → (o == address_of b) ≡ false
          → GoesTo o reply
      to_one o is far = record {
        decision = sent.decision;
        there = sent.there;
        local = rw (sent.is.local, single, unlearnt, is, far);
        remote = rw (sent.is.remote, single, unlearnt, is, far);
      }

      -- the owner, unless it is away
      owned : (o : Option ℕ) → owner (table_of b) s.vni s.mac ≡ o
          → MatchOption o (IsUnowned (table_of b) s.vni s.mac) (IsOwner (table_of b) s.vni s.mac) → Goes
      owned None is h = nobody (ap (up_owner b.away) is)
      owned (Some o) is h = elim (cases_Bool (is_up b.away o)) [
        | inl up ↦
            let there = owner_up b.away (owner (table_of b) s.vni s.mac) o is up in
            elim (cases_Bool (o == address_of b)) [
              | inl mine ↦ unknown (rw (sent.is.local, single, unlearnt, there, mine))
                  (rw (sent.is.remote, single, unlearnt, there, mine))
              | inr far ↦
                  let other : o ≢ address_of a = (λ same. let mine : o ≡ address_of b = same
                  ∙ sym sent.leaves.address in
                  grind (arith, nat_tests)) in
                  elim (of_two sound m end.1 know end.0 x at o other h.ip h.advert
                  (sym (sent.leaves.adverts o h.ip) ∙ h.own)) [
                    | inl from ↦ inr (inl (rw from at (to_one o there far)))
                    | inr to ↦ inr (inr (inl (rw to at (to_one o there far))))
                  ]
            ]
        | inr gone ↦ nobody (owner_away b.away (owner (table_of b) s.vni s.mac) o is gone)
      ]

  goes : (y : Option Advert) → own_advert a.routes.speaker (key_of s) ≡ y → Goes
  goes (Some y) is =
      let says : Advertises a s = (None, y, is) in
      inl (
        at_two sound m end.1 know end.0 x at says,
        frames_come_out a b s (end.1.good x a at) says event port reply frame does,
      )
  goes None is = away (λ says. let z = advert_bare s (end.1.good x a at) says in
      cc (z.1))

pub frames_meanwhile : FramesMeanwhile
frames_meanwhile i j s old mid new steps sound m runs none x a b at event port reply frame does =
    goes new steps sound m runs none x a b at event port reply frame does
    (own_advert a.routes.speaker (key_of s)) refl
