-- A history of running edges is a run of a fabric.
use Rattle.std.proofs.Common.{◌≡◌, ◌≢◌, ℕ, zero, suc, ◌+◌, ◌-◌, ◌<◌, false, Option, Some, None}
use Rattle.std.proofs.Common.{List, [], ◌∷◌, ◌++◌, length, refl, ap, sym, ◌∙◌, subst, arith, Contains, slice_get}
use Rattle.std.proofs.Common.{slice_set, append_assoc, Result, Ok, Err}
use Rattle.std.proofs.lemmas.Option.{slice_get_within, slice_get_read}
use Rattle.std.proofs.lemmas.List.{length-set}
use Rattle.std.specs.Option.{MatchOption}
use Rattle.route_wire.specs.Fields.{Fields}
use Rattle.ev_edge.specs.declared.config.EdgeConfig.{EdgeConfig}
use Rattle.ev_edge.specs.declared.event.Event.{Event}
use Rattle.ev_edge.specs.declared.event.Event.TheVariants as events
use Rattle.ev_edge.specs.declared.reply.Reply.{Reply}
use Rattle.ev_edge.specs.declared.refusal.Refusal.{Refusal}
use Rattle.ev_edge.specs.Edge.{Edge, IsGoodEdge}
use Rattle.ev_edge.specs.Opening as openings
use Rattle.ev_edge.specs.Steps.{Steps}
use Rattle.ev_fabric.specs.declared.refusal.FabricRefusal.{FabricRefusal}
use Rattle.ev_fabric.specs.declared.refusal.FabricRefusal.TheVariants.{NoSuchEdge}
use Rattle.ev_fabric.specs.declared.step.Step.{Step}
use Rattle.ev_fabric.specs.declared.step.Step.TheVariants.{Local, Announce, Deliver}
use Rattle.ev_fabric.specs.declared.step.LocalEvent.{LocalEvent}
use Rattle.ev_fabric.specs.declared.step.LocalEvent.TheVariants as locals
use Rattle.ev_fabric.specs.Fabric.{Fabric, fabric_of}
use Rattle.ev_fabric.specs.Local.{event_of}
use Rattle.ev_fabric.specs.Opening.{AreOpened}
use Rattle.ev_fabric.specs.Steps.{FabricSteps, AnnouncesAt, IsRefused, of_edge, with_edge, with_announced}
use Rattle.ev_fabric.specs.Runs.{Runs}
use Rattle.ev_book.specs.declared.log_entry.Deed.{Deed}
use Rattle.ev_book.specs.declared.log_entry.Deed.TheVariants.{Opens, Announces, Takes}
use Rattle.ev_book.specs.declared.log_entry.LogEntry.{LogEntry}
use Rattle.ev_book.specs.declared.log_entry.LogEntry.TheVariants.{Begins, Does}
use Rattle.ev_book.specs.Log.{World, world_after, pool_after, end_of, begun, Follows, AreLegal, Goes}
use Rattle.ev_book.specs.Log.{Reaches, IsQuiet, IsOpening, world, IsHistory, announced_by}
use Rattle.ev_book.proofs.Histories.{edges_here, edges_there, Same, same, other, decide}
use Rattle.ev_book.specs.Standing.{Stands, AllStand}
use Rattle.ev_sites.specs.RunningEdges.{IsRunOf}

-- ---- lists

get_set_same : {A : Type 0} (xs : List A) (i : ℕ) (x y : A) → slice_get xs i ≡ Some y
    → slice_get (slice_set xs i x) i ≡ Some x
get_set_same [] i x y h = absurd cc
get_set_same (z ∷ xs) zero x y h = refl
get_set_same (z ∷ xs) (suc i) x y h = get_set_same xs i x y h

get_set_other : {A : Type 0} (xs : List A) (i j : ℕ) (x : A) → j ≢ i → slice_get (slice_set xs i x) j ≡ slice_get xs j
get_set_other [] i j x apart = refl
get_set_other (z ∷ xs) zero zero x apart = absurd (apart refl)
get_set_other (z ∷ xs) zero (suc j) x apart = refl
get_set_other (z ∷ xs) (suc i) zero x apart = refl
get_set_other (z ∷ xs) (suc i) (suc j) x apart = get_set_other xs i j x (λ e. apart (rw e))

set_get : {A : Type 0} (xs : List A) (i : ℕ) (x : A) → slice_get xs i ≡ Some x → slice_set xs i x ≡ xs
set_get [] i x h = refl
set_get (z ∷ xs) zero x h = cc h
set_get (z ∷ xs) (suc i) x h = rw (set_get xs i x h)

set_set : {A : Type 0} (xs : List A) (i : ℕ) (x y : A) → slice_set (slice_set xs i x) i y ≡ slice_set xs i y
set_set [] i x y = refl
set_set (z ∷ xs) zero x y = refl
set_set (z ∷ xs) (suc i) x y = rw (set_set xs i x y)

get_there : {A : Type 0} (xs : List A) (i : ℕ) → i < length xs → (x : A) × (slice_get xs i ≡ Some x)
get_there [] i lt = absurd (omega arith)
get_there (x ∷ xs) zero lt = (x, refl)
get_there (x ∷ xs) (suc i) lt = get_there xs i (omega arith)

-- ---- runs

runs_append : (f g h : Fabric) (xs ys : List Step) → Runs f xs g → Runs g ys h → Runs f (xs ++ ys) h
runs_append f g h [] ys p q = (rw p at q)
runs_append f g h (x ∷ xs) ys p q = (p.0, p.1, p.2, runs_append p.0 g h xs ys p.3 q)

module _ (configs : List EdgeConfig) where
  abbrev fabric : List Edge → List Fields → Fabric
  fabric edges pool = fabric_of edges configs pool

  record OneStep (edges : List Edge) (pool more : List Fields) (place : ℕ) (b : Edge) : Type 0 where
    step : Step
    result : Result Reply FabricRefusal
    steps : FabricSteps (fabric edges pool) step result (fabric (slice_set edges place b) more)

  -- steps at a place whose edge becomes another one
  module _ (edges : List Edge) (pool : List Fields) (place : ℕ) (a b : Edge) (is : slice_get edges place ≡ Some a) where
    at_place : with_edge (fabric edges pool) (suc place) b ≡ fabric (slice_set edges place b) pool
    at_place = (let index : suc place - 1 ≡ place = omega arith in
        rw index)

    -- an event
    local_step : (event : LocalEvent) (answer : Result Reply Refusal) → Steps a (event_of event) answer b
        → FabricSteps (fabric edges pool) (Local (suc place) event) (of_edge answer) (fabric
        (slice_set edges place b) pool)
    local_step event answer steps =
        rw is (record { after = b; answer = answer; steps = steps; result_is = refl; new_is = sym at_place })

    announce_step : (reply : Reply) → Steps a events.Announce (Ok reply) b
        → FabricSteps (fabric edges pool) (Announce (suc place)) (Ok reply)
        (fabric (slice_set edges place b) (with_announced pool reply.announced))
    announce_step reply steps =
        subst (λ (o : Option Edge). MatchOption o
        (IsRefused NoSuchEdge (fabric edges pool) (Ok reply)
        (fabric (slice_set edges place b) (with_announced pool reply.announced)))
        (λ x. AnnouncesAt (fabric edges pool) (suc place) x (Ok reply)
        (fabric (slice_set edges place b) (with_announced pool reply.announced)))) (sym is)
        (b, steps, ap (λ (k : ℕ). fabric (slice_set edges k b) (with_announced pool reply.announced)) (omega arith))

    deliver_step : (k : ℕ) {u : Fields} (answer : Result Reply Refusal) → slice_get pool k ≡ Some u
        → Steps a (events.Take u) answer b
        → FabricSteps (fabric edges pool) (Deliver (suc place) (suc k)) (of_edge answer) (fabric
        (slice_set edges place b) pool)
    deliver_step k answer known steps =
        rw is (rw known (record { after = b; answer = answer; steps = steps; result_is = refl; new_is = sym at_place }))

    locally : (event : LocalEvent) (answer : Result Reply Refusal) → Steps a (event_of event) answer b
        → OneStep edges pool pool place b
    locally event answer steps = record {
      step = Local (suc place) event;
      result = of_edge answer;
      steps = local_step event answer steps;
    }

    quiet_announce : (answer : Result Reply Refusal) → announced_by answer ≡ None → Steps a events.Announce answer b
        → OneStep edges pool pool place b
    quiet_announce (Ok reply) quiet steps = record {
      step = Announce (suc place);
      result = Ok reply;
      steps = subst (λ o. FabricSteps (fabric edges pool) (Announce (suc place)) (Ok reply)
          (fabric (slice_set edges place b) (with_announced pool o))) quiet (announce_step reply steps);
    }
    quiet_announce (Err r) quiet steps = absurd (cc (steps.0))

    -- an event that no other edge can see is a step of the fabric
    quiet_step : (event : Event) (answer : Result Reply Refusal) → IsQuiet event answer → Steps a event answer b
        → OneStep edges pool pool place b
    quiet_step (events.Take u) answer quiet steps = absurd quiet
    quiet_step events.Announce answer quiet steps = quiet_announce answer quiet steps
    quiet_step (events.Frame port octets) answer quiet steps = locally (locals.Frame port octets) answer steps
    quiet_step (events.TunnelFrame from octets) answer quiet steps = locally (locals.TunnelFrame from octets) answer
        steps
    quiet_step (events.Pin s port) answer quiet steps = locally (locals.Pin s port) answer steps
    quiet_step (events.Unpin s) answer quiet steps = locally (locals.Unpin s) answer steps
    quiet_step (events.Thaw s) answer quiet steps = locally (locals.Thaw s) answer steps
    quiet_step events.Second answer quiet steps = locally locals.Second answer steps
    quiet_step (events.PortUp port) answer quiet steps = locally (locals.PortUp port) answer steps
    quiet_step (events.PortDown port) answer quiet steps = locally (locals.PortDown port) answer steps
    quiet_step (events.Mcheck port) answer quiet steps = locally (locals.Mcheck port) answer steps
    quiet_step (events.Away o) answer quiet steps = locally (locals.Away o) answer steps
    quiet_step (events.Back o) answer quiet steps = locally (locals.Back o) answer steps

  goes_runs : (edges : List Edge) (pool : List Fields) (place : ℕ) (a : Edge) (events : List Event) (b : Edge)
      → slice_get edges place ≡ Some a → Goes a events b
      → (steps : List Step) × Runs (fabric edges pool) steps (fabric (slice_set edges place b) pool)
  goes_runs edges pool place a [] b there goes =
      ([], rw (ap (λ x. slice_set edges place x) goes ∙ set_get edges place a there))
  goes_runs edges pool place a (event ∷ earlier) b there goes =
      let mid = goes.0 in
      let first = goes_runs edges pool place a earlier mid there goes.2 in
      let one = quiet_step (slice_set edges place mid) pool place mid b
      (get_set_same edges place mid a there) event goes.1
      goes.3 goes.4 in (
        first.0 ++ one.step ∷ [],
        runs_append (fabric edges pool) (fabric (slice_set edges place mid) pool)
            (fabric (slice_set edges place b) pool) first.0 (one.step ∷ []) first.1 (
              fabric (slice_set (slice_set edges place mid) place b) pool,
              one.result,
              one.steps,
              rw
                  (set_set edges place mid b),
            ),
      )

  -- quiet events, and then one step more
  turn_runs : (edges : List Edge) (pool more : List Fields) (place : ℕ) (a mid later : Edge)
      → slice_get edges place ≡ Some a → Reaches a mid
      → ((es : List Edge) → slice_get es place ≡ Some mid → OneStep es pool more place later)
      → (steps : List Step) × Runs (fabric edges pool) steps (fabric (slice_set edges place later) more)
  turn_runs edges pool more place a mid later there reaches is_step =
      let first = goes_runs edges pool place a reaches.0 mid there reaches.1 in
      let middle = slice_set edges place mid in
      let one = is_step middle (get_set_same edges place mid a there) in (
        first.0 ++ one.step ∷ [],
        runs_append (fabric edges pool) (fabric middle pool)
            (fabric (slice_set edges place later) more) first.0 (one.step ∷ []) first.1 (
              fabric (slice_set middle place later) more,
              one.result,
              one.steps,
              (rw (set_set edges place mid later)),
            ),
      )

-- ---- from the end of a log back to its beginning

-- the edges as they were in this world, those that weren't open as they were opened, and the steps from there
pub record Begun (w : World) (pool : List Fields) (edges : List Edge) : Type 0 where
  pub before : List Edge
  pub len : length before ≡ length w.configs
  pub were : (n : ℕ) (a : Edge) → w.edges n ≡ Some a → slice_get before n ≡ Some a
  pub not_yet : (n : ℕ) (a : Edge) → w.edges n ≡ None → slice_get before n ≡ Some a
      → (config : EdgeConfig) × (slice_get w.configs n ≡ Some config) × openings.IsOpening config a × IsGoodEdge a
  pub steps : List Step
  pub runs : Runs (fabric_of before w.configs w.pool) steps (fabric_of edges w.configs pool)

-- each open edge has a place
abbrev pub Seated : World → Type 0
Seated w = (n : ℕ) (a : Edge) → w.edges n ≡ Some a → n < length w.configs

-- an edge did something: before it, the edge was another one
done_back : {w : World} {place : ℕ} (deed : Deed) {later old : Edge} {pool : List Fields} {edges : List Edge}
    → Seated w → w.edges place ≡ Some old
    → (rest : Begun (world_after w (Does place deed later)) pool edges)
    → ((before : List Edge) → slice_get before place ≡ Some old
    → (steps : List Step) × Runs (fabric_of before w.configs w.pool) steps
    (fabric_of (slice_set before place later) w.configs (pool_after w.pool deed)))
    → Begun w pool edges
done_back {w} {place} deed {later} {old} {pool} {edges} seated is rest step =
    let there = rest.were place later
    (edges_here place place w.edges later refl) in
    let before = slice_set rest.before place old in
    let one = step before (get_set_same rest.before place old later there) in
    record {
      before = before;
      len = length-set rest.before place old ∙ rest.len;
      were = λ n a h. were n a h (decide n place);
      not_yet = λ n a h at. not_yet n a h at (decide n place);
      steps = one.0 ++ rest.steps;
      runs = runs_append (fabric_of before w.configs w.pool)
          (fabric_of (slice_set before place later) w.configs (pool_after w.pool deed))
          (fabric_of edges w.configs pool) one.0 rest.steps one.1
          (rw (set_set rest.before place old later ∙ set_get rest.before place later there) rest.runs);
    }
  where
    were : (n : ℕ) (a : Edge) → w.edges n ≡ Some a → Same n place
        → slice_get (slice_set rest.before place old) n ≡ Some a
    were n a h (same eq) =
        (rw eq) ∙
        (get_set_same rest.before place old later (rest.were place later
        (edges_here place place w.edges later refl)) ∙ (sym is ∙ ((rw eq) ∙ h)))
    were n a h (other ne) =
        get_set_other rest.before place n old ne ∙ rest.were n a (edges_there n place w.edges later ne ∙ h)

    not_yet : (n : ℕ) (a : Edge) → w.edges n ≡ None → slice_get (slice_set rest.before place old) n ≡ Some a
        → Same n place
        → (config : EdgeConfig) × (slice_get w.configs n ≡ Some config) × openings.IsOpening config a × IsGoodEdge a
    not_yet n a h at (same eq) = absurd (cc (sym is ∙ ((rw eq) ∙ h)))
    not_yet n a h at (other ne) =
        rest.not_yet n a (edges_there n place w.edges later ne ∙ h)
        (sym (get_set_other rest.before place n old ne) ∙ at)

-- an edge was opened: before it, it was as it was opened
opened_back : {w : World} {place : ℕ} {later : Edge} {pool : List Fields} {edges : List Edge} → IsOpening w place later
    → Begun (world_after w (Does place Opens later)) pool edges → Begun w pool edges
opened_back {w} {place} {later} opens rest = record {
  before = rest.before;
  len = rest.len;
  were = λ n a h. were n a h (decide n place);
  not_yet = λ n a h at. not_yet n a h at (decide n place);
  steps = rest.steps;
  runs = rest.runs;
}
  where
    were : (n : ℕ) (a : Edge) → w.edges n ≡ Some a → Same n place → slice_get rest.before n ≡ Some a
    were n a h (same eq) = absurd (cc (sym opens.closed ∙ ((rw eq) ∙ h)))
    were n a h (other ne) = rest.were n a (edges_there n place w.edges later ne ∙ h)

    not_yet : (n : ℕ) (a : Edge) → w.edges n ≡ None → slice_get rest.before n ≡ Some a → Same n place
        → (config : EdgeConfig) × (slice_get w.configs n ≡ Some config) × openings.IsOpening config a × IsGoodEdge a
    not_yet n a h at (same eq) =
        let is_later : a ≡ later = cc (sym at ∙ (rest.were n later (edges_here n place w.edges later eq))) in (
          opens.config,
          (rw eq) ∙ opens.is_there,
          rw is_later opens.opens,
          rw is_later opens.good,
        )
    not_yet n a h at (other ne) = rest.not_yet n a (edges_there n place w.edges later ne ∙ h) at

place_seated : (w : World) {place : ℕ} (deed : Deed) (later : Edge) → Seated w → Follows w (Does place deed later)
    → place < length w.configs
place_seated w {place} Opens later s f = slice_get_within w.configs place f.config f.is_there
place_seated w {place} (Announces u) later s f = s place f.turns.before f.turns.is_open
place_seated w {place} (Takes u) later s f = s place f.turns.before f.turns.is_open

seated_after : (w : World) (place : ℕ) (deed : Deed) (later : Edge) → Seated w → Follows w (Does place deed later)
    → Seated (world_after w (Does place deed later))
seated_after w place deed later s f n a h = by_case (decide n place)
  where
    by_case : Same n place → n < length w.configs
    by_case (same eq) = rw eq (place_seated w deed later s f)
    by_case (other ne) = s n a (sym (edges_there n place w.edges later ne) ∙ h)

place_in_pool : (pool : List Fields) {u : Fields} → Contains pool u → (k : ℕ) × (slice_get pool k ≡ Some u)
place_in_pool pool {u} h = (h.0, slice_get_read pool (length pool) h.0 u refl h.1 (sym h.2))

-- a log is a run from edges as they were opened
pub run_back : (es : List LogEntry) (w : World) → w.outside ≡ false → AreLegal w es → Seated w → (edges : List Edge)
    → length edges ≡ length w.configs
    → ((n : ℕ) (a : Edge) → slice_get edges n ≡ Some a → (end_of w es).edges n ≡ Some a)
    → Begun w (end_of w es).pool edges
run_back [] w closed legal seated edges len are = record {
  before = edges;
  len = len;
  were = λ n a h.
      let x = get_there edges n (omega (arith, seated n a h, len)) in x.1 ∙ (sym (are n x.0 x.1) ∙ h);
  not_yet = λ n a h at. absurd (cc (sym h ∙ are n a at));
  steps = [];
  runs = refl;
}
run_back (Begins o cs ∷ es) w closed legal seated edges len are = absurd legal.0
run_back (Does place Opens later ∷ es) w closed legal seated edges len are =
    opened_back legal.0 (run_back es
    (world_after w (Does place Opens later)) closed legal.1 (seated_after w place Opens later seated legal.0) edges
    len are)
run_back (Does place (Announces u) later ∷ es) w closed legal seated edges len are =
    let t = legal.0.turns in
    let reply = legal.0.reply in
    done_back (Announces u) seated t.is_open
    (run_back es (world_after w (Does place (Announces u) later)) closed legal.1 (seated_after w place
    (Announces u) later seated legal.0) edges len are)
    (λ before there. turn_runs w.configs before w.pool (w.pool ++ u ∷ []) place t.before t.mid later there t.reaches
    (λ es at. record {
      step = Announce (suc place);
      result = Ok reply;
      steps = rw (ap (with_announced w.pool) (sym legal.0.says)) (announce_step w.configs es w.pool place t.mid later
          at reply t.steps);
    }))
run_back (Does place (Takes u) later ∷ es) w closed legal seated edges len are =
    let answer = legal.0.answer in
    let k = place_in_pool w.pool (rw closed at legal.0.known) in
    let t = legal.0.turns in
    done_back (Takes u) seated t.is_open (run_back es
    (world_after w (Does place (Takes u) later)) closed legal.1 (seated_after w place
    (Takes u) later seated legal.0) edges len are)
    (λ before there. turn_runs w.configs before w.pool w.pool place t.before t.mid later there t.reaches
    (λ es at. record {
      step = Deliver (suc place) (suc k.0);
      result = of_edge answer;
      steps = deliver_step w.configs es w.pool place t.mid later at k.0 answer k.1 t.steps;
    }))

-- ---- the events after the last entries

abbrev pub AllReach : List Edge → List Edge → Type 0
AllReach [] [] = Unit {0}
AllReach [] (a ∷ xs) = ⊥
AllReach (b ∷ bs) [] = ⊥
AllReach (b ∷ bs) (a ∷ xs) = Reaches b a × AllReach bs xs

get_middle : {A : Type 0} (done : List A) (x : A) (xs : List A) → slice_get (done ++ x ∷ xs) (length done) ≡ Some x
get_middle [] x xs = refl
get_middle (y ∷ done) x xs = get_middle done x xs

set_middle : {A : Type 0} (done : List A) (x y : A) (xs : List A)
    → slice_set (done ++ x ∷ xs) (length done) y ≡ (done ++ y ∷ []) ++ xs
set_middle [] x y xs = refl
set_middle (z ∷ done) x y xs = rw (set_middle done x y xs)

tails_run : (configs : List EdgeConfig) (pool : List Fields) (done bs xs : List Edge) → AllReach bs xs
    → (steps : List Step) × Runs (fabric_of (done ++ bs) configs pool) steps (fabric_of (done ++ xs) configs pool)
tails_run configs pool done [] [] r = ([], refl)
tails_run configs pool done [] (a ∷ xs) r = absurd r
tails_run configs pool done (b ∷ bs) [] r = absurd r
tails_run configs pool done (b ∷ bs) (a ∷ xs) r =
    let one = goes_runs configs (done ++ b ∷ bs) pool (length done) b r.0.0 a (get_middle done b bs) r.0.1 in
    let rest = tails_run configs pool (done ++ a ∷ []) bs xs r.1 in (
      one.0 ++ rest.0,
      runs_append (fabric_of (done ++ b ∷ bs) configs pool)
          (fabric_of ((done ++ a ∷ []) ++ bs) configs pool) (fabric_of (done ++ a ∷ xs) configs pool) one.0 rest.0
          (rw (set_middle done b a bs) at one.1)
          (rw (append_assoc done (a ∷ []) xs) at rest.1),
    )

-- ---- the law

record Lasts (log : List LogEntry) (k : ℕ) (edges : List Edge) : Type 0 where
  lasts : List Edge
  len : length lasts ≡ length edges
  are : (i : ℕ) (b : Edge) → slice_get lasts i ≡ Some b → (world log).edges (k + i) ≡ Some b
  reach : AllReach lasts edges

lasts_of : (log : List LogEntry) (k : ℕ) (edges : List Edge) → AllStand log k edges → Lasts log k edges
lasts_of log k [] all = record { lasts = []; len = refl; are = λ i b h. absurd cc; reach = tt }
lasts_of log k (a ∷ xs) all =
    let s = all.0 in
    let rest = lasts_of log (k + 1) xs all.1 in
    record {
      lasts = s.before ∷ rest.lasts;
      len = rw rest.len;
      are = are s rest;
      reach = (s.reaches, rest.reach);
    }
  where
    are : (s : Stands k log a) (rest : Lasts log (k + 1) xs) (i : ℕ) (b : Edge)
        → slice_get (s.before ∷ rest.lasts) i ≡ Some b → (world log).edges (k + i) ≡ Some b
    are s rest zero b h = subst (λ n. (world log).edges n ≡ Some b) (omega arith) (s.is_open ∙ h)
    are s rest (suc i) b h = subst (λ n. (world log).edges n ≡ Some b) (omega arith) (rest.are i b h)

opened_there : (configs : List EdgeConfig) (edges : List Edge) (pool : List Fields)
    (b : Begun (begun false configs) pool edges) → AreOpened configs b.before
opened_there configs edges pool b = record {
  count = b.len;
  opened = λ i c a config there.
      let o = b.not_yet i a refl there in subst (λ k. openings.IsOpening k a) (cc (sym o.1 ∙ config)) o.2;
  good = λ i a there. (b.not_yet i a refl there).3;
}

-- a history at whose end these edges stand is a run of the fabric
pub history_runs : (configs : List EdgeConfig) (es : List LogEntry) (edges : List Edge)
    → IsHistory (Begins false configs ∷ es) → length edges ≡ length configs
    → AllStand (Begins false configs ∷ es) 0 edges → IsRunOf configs edges
history_runs configs es edges legal len all =
    let lasts = lasts_of (Begins false configs ∷ es) 0 edges all in
    let b = run_back es (begun false configs) refl legal (λ n a h. absurd cc) lasts.lasts (lasts.len ∙ len)
    (λ n a h. subst (λ k. (end_of (begun false configs) es).edges k ≡ Some a) (omega arith) (lasts.are n a h)) in
    let pool = (end_of (begun false configs) es).pool in
    let tail = tails_run configs pool [] lasts.lasts edges lasts.reach in
    record {
      opened = b.before;
      are_opened = opened_there configs lasts.lasts pool b;
      steps = b.steps ++ tail.0;
      pool = pool;
      runs = runs_append (fabric_of b.before configs []) (fabric_of lasts.lasts configs pool)
          (fabric_of edges configs pool) b.steps tail.0 b.runs tail.1;
    }
