-- In every run edges stay, their incarnations rise, and the pool grows.
use Rattle.std.proofs.Common.{◌≡◌, inl, inr, ℕ, zero, suc, ◌≤◌, Some, Result, Ok, Err, List, [], ◌∷◌}
use Rattle.std.proofs.Common.{◌++◌, refl, sym, ap, ◌∙◌, arith, length-set}
use Rattle.std.proofs.lemmas.Bool.{cases_eq}
use Rattle.std.proofs.lemmas.List.{append-nil, append_assoc}
use Rattle.std.proofs.lemmas.Option.{none-some}
use Rattle.std.specs.Prelude.{slice_get, slice_set}
use Rattle.route_wire.specs.Fields.{Fields}
use Rattle.ev_edge.specs.declared.reply.Reply.{Reply}
use Rattle.ev_edge.specs.Edge.{Edge}
use Rattle.ev_fabric.specs.declared.refusal.FabricRefusal.{FabricRefusal}
use Rattle.ev_fabric.specs.declared.refusal.FabricRefusal.TheVariants.{NoSuchEdge}
use Rattle.ev_fabric.specs.declared.step.Step.{Step}
use Rattle.ev_fabric.specs.declared.step.Step.TheVariants.{Restart}
use Rattle.ev_fabric.specs.Fabric.{Fabric, IsEdge, nth, incarnation_of}
use Rattle.ev_fabric.specs.Sound.{IsSound, IsOf}
use Rattle.ev_fabric.specs.Steps.{in_incarnation, OpensAnew, RestartsAt, FabricSteps}
use Rattle.ev_fabric.specs.Later.{IsLaterEdge, IsLaterFabric, RunsLead, RestsRun, AdvertsAreAnew}
use Rattle.ev_fabric.proofs.Places.{minus, set_same, set_other}
use Rattle.ev_fabric.proofs.Voices.{talks_one}
use Rattle.ev_fabric.proofs.Events.{local_talks}
use Rattle.ev_fabric.proofs.Opened.{opened_of, fit_in_life}
use Rattle.ev_fabric.proofs.Cases.{at_edge}
use Rattle.ev_fabric.proofs.ConvergingEdge.{heard_later, after_hearing, after_telling}
use Rattle.ev_fabric.proofs.ConvergingMoves.{Stays, Tells, Takes, told, taken}
use Rattle.ev_fabric.proofs.Fabrics.{Did, Moved, Spoke, Opened, did, step_sound, runs_sound}
use Rattle.ev_fabric.proofs.Agreements.{none_back}

-- ---- one step

edge_further : {a b c : Edge} → IsLaterEdge a b → IsLaterEdge b c → IsLaterEdge a c
edge_further h g = omega arith

unchanged : (old new : Fabric) → new ≡ old → IsLaterFabric old new
unchanged old new is = rw is (record {
  count = refl;
  edges = λ i a at. (a, at, omega arith);
  more = [];
  pool = sym (append-nil old.pool);
})

pub one_there : (f : Fabric) (i : ℕ) (a x : Edge) → IsEdge f i a → IsEdge f i x → a ≡ x
one_there f i a x p q = cc

-- one edge becomes another one, and the pool may grow
one_later : {old : Fabric} (new : Fabric) (i : ℕ) {a : Edge} (b : Edge) (more : List Fields) → IsEdge old i a
    → new.edges ≡ slice_set old.edges i b → new.pool ≡ old.pool ++ more → IsLaterEdge a b → IsLaterFabric old new
one_later {old} new i {a} b more at edges pool later = record {
  count = rw edges (length-set old.edges i b);
  edges = λ j x at_x. elim (cases_eq j i) [
    | inl same ↦
        let is : a ≡ x = one_there old i a x at (rw same at at_x) in
        (b, rw (edges, same) (set_same old.edges i b at), rw is at later)
    | inr ne ↦ (x, rw edges (set_other old.edges i b j ne at_x), omega arith)
  ];
  more = more;
  pool = pool;
}

-- the edge that is opened again
anew : {old new : Fabric} (i : ℕ) {a : Edge} {n : ℕ} {reply : Reply} → IsSound old → IsEdge old i a
    → (s : OpensAnew old (suc i) a n reply new) → IsOf (in_incarnation s.config n) s.after
anew i {a} {n} h at s = opened_of (fit_in_life n (h.configs i s.config a s.config_is at).config) s.opened

did_later : {old new : Fabric} {step : Step} → IsSound old → Did old step new → IsLaterFabric old new
did_later {old} h (Moved Stays) = unchanged old old refl
did_later h (Moved (Tells t)) = one_later (told t) t.place (after_telling t.edge t.rest) (t.update ∷ []) t.at refl refl
    (omega arith)
did_later {old} h (Moved (Takes t)) =
    let one = heard_later t.edge.routes (h.good t.place t.edge t.at).routes.numbers t.ok in
    one_later (taken t) t.place (after_hearing t.edge t.update) [] t.at refl (sym (append-nil old.pool))
    (omega (arith, one.address, one.incarnation))
did_later {old} h (Spoke x a b event answer at steps) =
    let one = talks_one (local_talks a event answer b steps) in
    one_later (record old { edges = slice_set old.edges x b }) x b [] at refl (sym (append-nil old.pool))
    (omega (arith, one.address, one.incarnation))
did_later {old} h (Opened x a n reply new at s) =
    let after = anew x h at s in
    one_later new x s.after [] at (rw (s.new_is, minus x)) (rw s.new_is (sym (append-nil old.pool)))
    (omega (arith, after.address, (h.configs x s.config a s.config_is at).address, after.life, s.higher))

-- ---- lists of steps

pub fabric_further : (f g k : Fabric) → IsLaterFabric f g → IsLaterFabric g k → IsLaterFabric f k
fabric_further f g k x y = record {
  count = y.count ∙ x.count;
  edges = λ i a at. let b = x.edges i a at in let c = y.edges i b.0 b.1 in (c.0, c.1, edge_further b.2 c.2);
  more = x.more ++ y.more;
  pool = y.pool ∙ ap (λ l. l ++ y.more) x.pool ∙ append_assoc f.pool x.more y.more;
}

pub runs_lead : RunsLead
runs_lead [] old new h s = unchanged old new s
runs_lead (step ∷ steps) old new h s = fabric_further old s.0 new (did_later h (did s.0 step s.1 h s.2))
    (runs_lead steps s.0 new (step_sound old s.0 step s.1 s.2 h) s.3)

pub rests_run : RestsRun
rests_run [] old new s = s
rests_run (step ∷ steps) old new s = (s.0, s.1, s.4, rests_run steps s.0 new s.5)

-- ---- after a restart

no_answer : (reply : Reply) → ◌≡◌ {A = Result Reply FabricRefusal} (Ok reply) (Err NoSuchEdge) → ⊥
no_answer reply q = cc

-- the edge that was opened again is there, in its new incarnation
pub opened_there : (old mid : Fabric) (e n : ℕ) (reply : Reply) → IsSound old
    → FabricSteps old (Restart e n) (Ok reply) mid
    → (a : Edge) × (nth mid.edges e ≡ Some a) × (incarnation_of a ≡ n)
opened_there old mid e n reply h s =
    at_edge ((a : Edge) × (nth mid.edges e ≡ Some a) × (incarnation_of a ≡ n)) old mid (Ok reply)
    (λ e a. RestartsAt old e a n (Ok reply) mid) e s (λ is. absurd (no_answer reply is.0)) (λ i a e_is at s. (
      s.after,
      ap (nth mid.edges) e_is ∙ ap (λ l. slice_get l i) (rw (s.new_is, minus i)) ∙ set_same old.edges i s.after at,
      (anew i h at s).life,
    ))

pub adverts_are_anew : AdvertsAreAnew
adverts_are_anew old mid new e n reply steps h restart runs agree i b c at_b at_c r v mine is some =
    go e at_b (opened_there old mid e n reply h restart)
  where
    sound_mid : IsSound mid
    sound_mid = step_sound old mid (Restart e n) (Ok reply) restart h

    sound : IsSound new
    sound = runs_sound steps mid new runs sound_mid

    go : (e : ℕ) → nth new.edges e ≡ Some b → (a : Edge) × (nth mid.edges e ≡ Some a) × (incarnation_of a ≡ n)
        → n ≤ v.incarnation
    go zero at anew = absurd (none-some b at)
    go (suc j) at anew =
        let x = (runs_lead steps mid new sound_mid runs).edges j anew.0 anew.1 in
        let here : slice_get new.edges j ≡ Some b = at in
        let same : x.0 ≡ b = one_there new j x.0 b x.1 here in
        omega (
          arith,
          x.2.life,
          anew.2,
          ap incarnation_of same,
          none_back new sound agree i j c b at_c here r v mine is
              some,
        )
