-- Logs that go on.
use Rattle.std.proofs.Common.{◌≡◌, ◌≢◌, ℕ, ◌+◌, ◌==◌, Bool, true, false, if◌then◌else◌, Option, Some, None, List, []}
use Rattle.std.proofs.Common.{◌∷◌, ◌++◌, length, refl, ap, sym, ◌∙◌, subst, arith, Contains, Result}
use Rattle.std.proofs.lemmas.List.Elements.{Contains-append_left}
use Rattle.std.proofs.lemmas.Bool.Decides.{nat_tests}
use mathlib.Core.List.{IsPrefix}
use Rattle.route_wire.specs.Fields.{Fields}
use Rattle.ev_edge.specs.Edge.{Edge}
use Rattle.ev_edge.specs.declared.event.Event.{Event}
use Rattle.ev_edge.specs.declared.reply.Reply.{Reply}
use Rattle.ev_edge.specs.declared.refusal.Refusal.{Refusal}
use Rattle.ev_book.specs.declared.log_entry.Deed.{Deed}
use Rattle.ev_book.specs.declared.log_entry.Deed.TheVariants.{Opens, Announces, Takes}
use Rattle.ev_book.specs.declared.log_entry.LogEntry.{LogEntry}
use Rattle.ev_book.specs.declared.log_entry.LogEntry.TheVariants.{Begins, Does}
use Rattle.ev_book.specs.Log.{World, world_after, edges_after, pool_after, end_of, begun, world, Follows, AreLegal}
use Rattle.ev_book.specs.Log.{IsHistory, is_one, is_of, count, Turns, IsOpening, IsKnown}
use Rattle.ev_book.specs.Inner.Rule.{IsLater}

pub count-append : (n : ℕ) (xs ys : List LogEntry) → count n (xs ++ ys) ≡ count n xs + count n ys
count-append n [] ys = omega arith
count-append n (x ∷ xs) ys = let r = count-append n xs ys in omega arith

pub end-append : (w : World) (xs ys : List LogEntry) → end_of w (xs ++ ys) ≡ end_of (end_of w xs) ys
end-append w [] ys = refl
end-append w (x ∷ xs) ys = end-append (world_after w x) xs ys

pub legal-append : (w : World) (xs ys : List LogEntry) → AreLegal w xs → AreLegal (end_of w xs) ys
    → AreLegal w (xs ++ ys)
legal-append w [] ys p q = q
legal-append w (x ∷ xs) ys p q = (p.0, legal-append (world_after w x) xs ys p.1 q)

-- a history goes on by entries that follow in its world
pub history-append : (log more : List LogEntry) → IsHistory log → AreLegal (world log) more → IsHistory (log ++ more)
history-append [] more p q = absurd p
history-append (Begins o cs ∷ es) more p q = legal-append (begun o cs) es more p q
history-append (Does place deed later ∷ es) more p q = absurd p

pub world-append : (log more : List LogEntry) → IsHistory log → world (log ++ more) ≡ end_of (world log) more
world-append [] more p = absurd p
world-append (Begins o cs ∷ es) more p = end-append (begun o cs) es more
world-append (Does place deed later ∷ es) more p = absurd p

-- ---- a world that is later, in which one edge has done nothing that others can see

pub later_self : (n : ℕ) (w : World) → IsLater n w w
later_self n w = record { outside = refl; configs = refl; edge = refl; pool = λ u h. h }

pub later_trans : (n : ℕ) (w x y : World) → IsLater n w x → IsLater n x y → IsLater n w y
later_trans n w x y p q = record {
  outside = q.outside ∙ p.outside;
  configs = q.configs ∙ p.configs;
  edge = q.edge ∙ p.edge;
  pool = λ u h. q.pool
      u (p.pool u h);
}

pub pool_grows : (pool : List Fields) (deed : Deed) (u : Fields) → Contains pool u → Contains (pool_after pool deed) u
pool_grows pool Opens u h = h
pool_grows pool (Announces v) u h = Contains-append_left pool (v ∷ []) u h
pool_grows pool (Takes v) u h = h

pub edges_other : (n place : ℕ) (edges : ℕ → Option Edge) (later : Edge) → is_one (place == n) ≡ 0
    → edges_after edges place later n ≡ edges n
edges_other n place edges later h = by_case (place == n) refl h
  where
    by_case : (b : Bool) → (place == n) ≡ b → is_one b ≡ 0 → edges_after edges place later n ≡ edges n
    by_case true is h = absurd (omega arith)
    by_case false is h = rw is refl

pub later_one : (n : ℕ) (w : World) (e : LogEntry) → is_of n e ≡ 0 → IsLater n w (world_after w e)
later_one n w (Begins o cs) h = later_self n w
later_one n w (Does place deed later) h = record {
  outside = refl;
  configs = refl;
  edge = edges_other n place w.edges later h;
  pool = λ u has. pool_grows w.pool deed u has;
}

-- if none of the new entries is of the edge
pub later_end : (n : ℕ) (w : World) (es : List LogEntry) → count n es ≡ 0 → IsLater n w (end_of w es)
later_end n w [] h = later_self n w
later_end n w (e ∷ es) h =
    later_trans n w (world_after w e) (end_of (world_after w e) es) (later_one n w e (omega arith))
    (later_end n (world_after w e) es (omega arith))

turns_later : {event : Event} {answer : Result Reply Refusal} {later : Edge} (old new : Option Edge)
    → Turns old event answer later → new ≡ old → Turns new event answer later
turns_later old new t same = record {
  before = t.before;
  is_open = same ∙ t.is_open;
  mid = t.mid;
  reaches = t.reaches;
  steps = t.steps;
}

-- a known update stays known
known_later : (u : Fields) (o o' : Bool) (pool pool' : List Fields) → o' ≡ o → (Contains pool u → Contains pool' u)
    → IsKnown o pool u → IsKnown o' pool' u
known_later u true true pool pool' same more h = tt
known_later u true false pool pool' same more h = absurd cc
known_later u false true pool pool' same more h = tt
known_later u false false pool pool' same more h = more h

-- an entry that follows in a world follows in a later one
pub follows_later : (n : ℕ) (w z : World) (deed : Deed) (later : Edge) → IsLater n w z
    → Follows w (Does n deed later) → Follows z (Does n deed later)
follows_later n w z Opens later p f = record {
  config = f.config;
  is_there = rw p.configs f.is_there;
  closed = p.edge ∙ f.closed;
  opens = f.opens;
  good = f.good;
}
follows_later n w z (Announces u) later p f = record {
  reply = f.reply;
  turns = turns_later (w.edges n) (z.edges n) f.turns p.edge;
  says = f.says;
}
follows_later n w z (Takes u) later p f = record {
  known = known_later u w.outside z.outside w.pool z.pool p.outside (p.pool u) f.known;
  answer = f.answer;
  turns = turns_later (w.edges n) (z.edges n) f.turns p.edge;
}

pub configs_end : (w : World) (es : List LogEntry) → (end_of w es).configs ≡ w.configs
configs_end w [] = refl
configs_end w (Begins o cs ∷ es) = configs_end w es
configs_end w (Does place deed later ∷ es) = configs_end (world_after w (Does place deed later)) es

pub pool_end : (w : World) (es : List LogEntry) (u : Fields) → Contains w.pool u → Contains (end_of w es).pool u
pool_end w [] u h = h
pool_end w (Begins o cs ∷ es) u h = pool_end w es u h
pool_end w (Does place deed later ∷ es) u h =
    pool_end (world_after w (Does place deed later)) es u (pool_grows w.pool deed u h)

pub outside_end : (w : World) (es : List LogEntry) → (end_of w es).outside ≡ w.outside
outside_end w [] = refl
outside_end w (Begins o cs ∷ es) = outside_end w es
outside_end w (Does place deed later ∷ es) = outside_end (world_after w (Does place deed later)) es

-- a longer log is of the same edges
pub configs_same : (v x : List LogEntry) → IsHistory v → IsPrefix v x → (world x).configs ≡ (world v).configs
configs_same v x hv pre =
    ap (λ (w : World). w.configs) (sym (ap world pre.1) ∙ world-append v pre.0 hv) ∙ configs_end (world v) pre.0

-- a longer log is as open to other processes
pub outside_same : (v x : List LogEntry) → IsHistory v → IsPrefix v x → (world x).outside ≡ (world v).outside
outside_same v x hv pre =
    ap (λ (w : World). w.outside) (sym (ap world pre.1) ∙ world-append v pre.0 hv) ∙ outside_end (world v) pre.0

-- ---- two places

pub edges_here : (n place : ℕ) (edges : ℕ → Option Edge) (later : Edge) → n ≡ place
    → edges_after edges place later n ≡ Some later
edges_here n place edges later same = by_case (place == n) refl
  where
    by_case : (b : Bool) → (place == n) ≡ b → edges_after edges place later n ≡ Some later
    by_case true is = rw is refl
    by_case false is = absurd (grind (arith, nat_tests, is, same))

pub edges_there : (n place : ℕ) (edges : ℕ → Option Edge) (later : Edge) → n ≢ place
    → edges_after edges place later n ≡ edges n
edges_there n place edges later other = by_case (place == n) refl
  where
    by_case : (b : Bool) → (place == n) ≡ b → edges_after edges place later n ≡ edges n
    by_case true is = absurd (other (grind (arith, nat_tests, is)))
    by_case false is = rw is refl

pub data Same (n place : ℕ) : Type 0 where
  same : n ≡ place → Same n place
  other : n ≢ place → Same n place

pub decide : (n place : ℕ) → Same n place
decide n place = by_case (n == place) refl
  where
    by_case : (b : Bool) → (n == place) ≡ b → Same n place
    by_case true is = same (grind (arith, nat_tests, is))
    by_case false is = other (grind (arith, nat_tests, is))
