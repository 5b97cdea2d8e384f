-- An edge beside its entries in the log.
use Rattle.std.proofs.Common.{◌≡◌, ℕ, zero, suc, ◌+◌, ◌<◌, ◌≤◌, Bool, true, false, Option, Some, None, List, [], ◌∷◌}
use Rattle.std.proofs.Common.{◌++◌, length, refl, ap, sym, ◌∙◌, subst, arith, Contains, slice_get, Result, Ok, Err}
use Rattle.std.proofs.lemmas.List.Elements.{Contains-append_right}
use mathlib.Core.List.{IsPrefix}
use Rattle.route_wire.specs.Fields.{Fields}
use Rattle.ev_edge.specs.declared.config.EdgeConfig.{EdgeConfig}
use Rattle.ev_edge.specs.declared.event.Event.{Event}
use Rattle.ev_edge.specs.declared.event.Event.TheVariants as events
use Rattle.ev_edge.specs.declared.reply.Reply.{Reply}
use Rattle.ev_edge.specs.declared.refusal.Refusal.{Refusal}
use Rattle.ev_edge.specs.Edge.{Edge, IsGoodEdge}
use Rattle.ev_edge.specs.Opening as openings
use Rattle.ev_edge.specs.Steps.{Steps}
use Rattle.ev_book.specs.declared.log_entry.Deed.{Deed}
use Rattle.ev_book.specs.declared.log_entry.Deed.TheVariants.{Opens, Announces, Takes}
use Rattle.ev_book.specs.declared.log_entry.LogEntry.{LogEntry}
use Rattle.ev_book.specs.declared.log_entry.LogEntry.TheVariants.{Begins, Does}
use Rattle.ev_book.specs.Log.{World, world, end_of, world_after, edges_after, IsHistory, IsQuiet, IsKnown, Turns}
use Rattle.ev_book.specs.Log.{Follows, count}
use Rattle.logbook.specs.Pages.{Book, Named}
use Rattle.ev_book.specs.Rule.{IsAdded, IsSeat, told}
use Rattle.ev_book.proofs.Extending.{one_self}
use Rattle.ev_book.specs.Standing.{Stands}
use Rattle.ev_book.proofs.Histories.{count-append, world-append, later_end, configs_same}
use Rattle.ev_book.proofs.Histories.{edges_here}

-- an event that no other edge can see adds nothing to the log
pub stands_quiet : (place : ℕ) (log : List LogEntry) (a b : Edge) (event : Event) (answer : Result Reply Refusal)
    → Stands place log a → IsQuiet event answer → Steps a event answer b → Stands place log b
stands_quiet place log a b event answer s quiet steps = record {
  before = s.before;
  is_open = s.is_open;
  reaches = (event ∷ s.reaches.0, (a, answer, s.reaches.1, quiet, steps));
}

pub stands_turns : (place : ℕ) (log : List LogEntry) (a b : Edge) (event : Event) (answer : Result Reply Refusal)
    → Stands place log a → Steps a event answer b → Turns ((world log).edges place) event answer b
stands_turns place log a b event answer s steps = record
    { before = s.before; is_open = s.is_open; mid = a; reaches = s.reaches; steps = steps }

pub added_world : (place before : ℕ) (old new : List LogEntry) (entry : LogEntry)
    → (a : IsAdded place before old entry new) → world new ≡ world_after (world a.log) entry
added_world place before old new entry a = ap world a.new_is ∙ world-append a.log (entry ∷ []) a.was

-- after its entry, the edge has the entry's state
pub added_stands : (place before : ℕ) (old new : List LogEntry) (deed : Deed) (later : Edge)
    → IsAdded place before old (Does place deed later) new → Stands place new later
added_stands place before old new deed later a = record {
  before = later;
  is_open = ap (λ (w : World). w.edges place) (added_world place before old new (Does place deed later) a) ∙
      edges_here place place (world a.log).edges later refl;
  reaches = ([], refl);
}

-- the update of its entry was announced
pub added_told : (place before : ℕ) (old new : List LogEntry) (u : Fields) (later : Edge)
    → IsAdded place before old (Does place (Announces u) later) new → Contains (world new).pool u
added_told place before old new u later a =
    subst (λ (w : World). Contains w.pool u)
    (sym (added_world place before old new (Does place (Announces u) later) a))
    (Contains-append_right (world a.log).pool (u ∷ []) u (0, omega arith, refl))

-- and is known
pub told_known : (place before : ℕ) (old new : List LogEntry) (u : Fields) (later : Edge)
    → IsAdded place before old (Does place (Announces u) later) new → IsKnown (world new).outside (world new).pool u
told_known place before old new u later a = known_told u (world new).outside (world new).pool
    (added_told place before old new u later a)
  where
    known_told : (u : Fields) (o : Bool) (pool : List Fields) → Contains pool u → IsKnown o pool u
    known_told u true pool h = tt
    known_told u false pool h = h

-- a longer log in which the edge has no more entries
pub stands_later : (place : ℕ) (v x : List LogEntry) (edge : Edge) → IsHistory v → IsPrefix v x
    → count place x ≡ count place v → Stands place v edge → Stands place x edge
stands_later place v x edge hv pre same s =
    let none : count place pre.0 ≡ 0 = omega (arith, same, ap (count place) pre.1, count-append place v pre.0) in
    let on : (end_of (world v) pre.0).edges place ≡ (world v).edges place =
    (later_end place (world v) pre.0 none).edge in
    record {
      before = s.before;
      is_open = ap (λ (w : World). w.edges place) (sym (ap world pre.1) ∙ world-append v pre.0 hv) ∙ (on ∙ s.is_open);
      reaches = s.reaches;
    }

pub count_between : (place : ℕ) (v x log : List LogEntry) → IsPrefix v x → IsPrefix x log
    → count place log ≡ count place v → count place x ≡ count place v
count_between place v x log p q same =
    omega (arith, same, ap (count place) p.1, ap (count place) q.1, count-append place v p.0, count-append place x q.0)

-- ---- entries that may follow

pub opening_follows : (place : ℕ) (config : EdgeConfig) (log : List LogEntry) (z : World) (edge : Edge)
    → slice_get (world log).configs place ≡ Some config → (world log).edges place ≡ None
    → openings.IsOpening config edge → IsGoodEdge edge → Follows (told (world log) z) (Does place Opens edge)
opening_follows place config log z edge there closed opens good = record
    { config = config; is_there = there; closed = closed; opens = opens; good = good }

pub announcing_follows : (place : ℕ) (u : Fields) (log : List LogEntry) (z : World) (reply : Reply) (a b : Edge)
    → Stands place log a → Steps a events.Announce (Ok reply) b → reply.announced ≡ Some u
    → Follows (told (world log) z) (Does place (Announces u) b)
announcing_follows place u log z reply a b s steps says = record
    { reply = reply; turns = stands_turns place log a b events.Announce (Ok reply) s steps; says = says }

pub taking_follows : (place : ℕ) (u : Fields) (log : List LogEntry) (z : World) (answer : Result Reply Refusal)
    (a b : Edge) → IsKnown z.outside z.pool u → Stands place log a → Steps a (events.Take u) answer b
    → Follows (told (world log) z) (Does place (Takes u) b)
taking_follows place u log z answer a b has s steps = record
    { known = has; answer = answer; turns = stands_turns place log a b (events.Take u) answer s steps }

-- the seat after its entry
pub added_seat : (book : Book) (place entries : ℕ) (word : Named) (front new : List LogEntry) (deed : Deed)
    (later : Edge) → IsSeat book place entries word front
    → IsAdded place (count place front) front (Does place deed later) new → IsSeat book place (entries + 1) word new
added_seat book place entries word front new deed later s a =
    let e = Does place deed later in
    let log_configs : (world a.log).configs ≡ (world front).configs = configs_same front a.log s.legal a.begins in
    let configs : (world new).configs ≡ (world front).configs = ap (λ (w : World). w.configs)
    (added_world place (count place front) front new e a) ∙ log_configs in
    record {
      counted = omega (
        arith,
        s.counted,
        a.had,
        one_self place,
        ap (count place) a.new_is,
        count-append place a.log
            (e ∷ []),
      );
      legal = a.legal;
      word_is = s.word_is;
      seated = subst (λ (cs : List EdgeConfig). place < length cs) (sym configs) s.seated;
    }

-- ---- lists that grow

data Last {A : Type 0} (xs : List A) (y : A) (n : ℕ) (s : A) : Type 0 where
  before : slice_get xs n ≡ Some s → Last xs y n s
  last : n ≡ length xs → s ≡ y → Last xs y n s

get_snoc : {A : Type 0} (xs : List A) (y : A) (n : ℕ) (s : A) → slice_get (xs ++ y ∷ []) n ≡ Some s → Last xs y n s
get_snoc [] y zero s h = last refl (sym (cc h))
get_snoc [] y (suc n) s h = absurd (cc h)
get_snoc (x ∷ xs) y zero s h = before h
get_snoc (x ∷ xs) y (suc n) s h = more (get_snoc xs y n s h)
  where
    more : Last xs y n s → Last (x ∷ xs) y (suc n) s
    more (before p) = before p
    more (last e f) = last (omega (arith, e)) f

-- one element more, at its place
pub places_push : {A : Type 0} (place : A → ℕ) (xs : List A) (y : A)
    → ((n : ℕ) (s : A) → slice_get xs n ≡ Some s → place s ≡ n) → place y ≡ length xs
    → (n : ℕ) (s : A) → slice_get (xs ++ y ∷ []) n ≡ Some s → place s ≡ n
places_push place xs y all is n s h = by_case (get_snoc xs y n s h)
  where
    by_case : Last xs y n s → place s ≡ n
    by_case (before p) = all n s p
    by_case (last e f) = ap place f ∙ (is ∙ sym e)

-- one element more of a kind
pub all_push : {A : Type 0} (P : A → Type 0) (xs : List A) (y : A)
    → ((n : ℕ) (s : A) → slice_get xs n ≡ Some s → P s) → P y
    → (n : ℕ) (s : A) → slice_get (xs ++ y ∷ []) n ≡ Some s → P s
all_push P xs y all is n s h = by_case (get_snoc xs y n s h)
  where
    by_case : Last xs y n s → P s
    by_case (before p) = all n s p
    by_case (last e f) = subst P (sym f) is

-- ---- a log that has just begun

pub first_none : (n : ℕ) (outside : Bool) (configs : List EdgeConfig) (log : List LogEntry)
    → log ≡ Begins outside configs ∷ [] → count n log ≡ 0
first_none n outside configs log is = ap (count n) is ∙ omega arith

pub first_legal : (outside : Bool) (configs : List EdgeConfig) (log : List LogEntry) → log ≡ Begins outside configs ∷ []
    → IsHistory log
first_legal outside configs log is = subst IsHistory (sym is) tt

pub first_seated : (n len : ℕ) (outside : Bool) (configs : List EdgeConfig) (log : List LogEntry)
    → log ≡ Begins outside configs ∷ [] → n < len → len ≡ length configs → n < length (world log).configs
first_seated n len outside configs log is lt same = subst (λ (l : List LogEntry). n < length (world l).configs) (sym is)
    (omega (arith, lt, same))

pub first_closed : (n : ℕ) (outside : Bool) (configs : List EdgeConfig) (log : List LogEntry)
    → log ≡ Begins outside configs ∷ [] → (world log).edges n ≡ None
first_closed n outside configs log is = ap (λ (l : List LogEntry). (world l).edges n) is

pub first_config : (n : ℕ) (config : EdgeConfig) (outside : Bool) (configs : List EdgeConfig) (log : List LogEntry)
    → log ≡ Begins outside configs ∷ [] → slice_get configs n ≡ Some config
    → slice_get (world log).configs n ≡ Some config
first_config n config outside configs log is at = ap (λ (l : List LogEntry). slice_get (world l).configs n) is ∙ at
