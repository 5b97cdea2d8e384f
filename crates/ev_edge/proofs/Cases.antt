-- What holds of a station in each case of learning, and what learning leaves.
use Rattle.std.proofs.Common.{◌≡◌, inl, inr, ℕ, Bool, true, false, cond, eqb, Option, Some, None}
use Rattle.std.proofs.Common.{refl, ap, ◌∙◌, arith}
use Rattle.std.specs.Prelude.{IsSome}
use Rattle.std.specs.FinMap.{get}
use Rattle.std.proofs.lemmas.Bool.Decides.{nat_tests}
use Rattle.mac_arena.specs.declared.station.Station.{Station}
use Rattle.mac_arena.specs.declared.station.Entry.{Entry}
use Rattle.mac_arena.specs.Learning.{entry_at, is_full, is_pinned}
use Rattle.ev_mobility.specs.declared.alert.Alert.{Alert}
use Rattle.ev_mobility.specs.declared.alert.Alert.TheVariants.{CounterSpent, TableFull, PortFull, PortBusy}
use Rattle.ev_mobility.specs.declared.seq.Seq.{Seq}
use Rattle.ev_mobility.specs.declared.seq.Seq.TheVariants.{Next, Static, Spent}
use Rattle.ev_mobility.specs.Seq.{seq_for}
use Rattle.ev_mobility.specs.Window.{is_frozen, is_fifth}
use Rattle.ev_edge.specs.declared.learning.Case.{Case}
use Rattle.ev_edge.specs.declared.learning.Case.TheVariants.{Leave, Refresh, Refuse, Freeze, Learn, Move}
use Rattle.ev_edge.specs.Edge.{Edge, table_of, address_of}
use Rattle.ev_edge.specs.Learning.{is_spent, move_case, numbered_case, case_at, case_of, refreshed, moved, learnt}
use Rattle.ev_edge.specs.Learning.{is_crowded, is_busy, limited, case_on, OrNoMemory, Does}
use Rattle.ev_edge.specs.Steps.{LearnsIf}

-- what holds where a station is learnt with this number, at a port without limits
record IsFree (e : Edge) (s : Station) (n : ℕ) : Type 0 where
  pub none : entry_at e.routes.learned s ≡ None
  pub room : is_full e.routes.learned ≡ false
  pub few : is_spent e.routes ≡ false
  pub next : seq_for (table_of e) (address_of e) s.vni s.mac ≡ Next n

-- what holds where a station is learnt on the port with this number
pub record IsNew (e : Edge) (s : Station) (port n : ℕ) : Type 0 where
  pub none : entry_at e.routes.learned s ≡ None
  pub room : is_full e.routes.learned ≡ false
  pub few : is_spent e.routes ≡ false
  pub next : seq_for (table_of e) (address_of e) s.vni s.mac ≡ Next n
  pub place : is_crowded e s port ≡ false
  pub calm : is_busy e s port ≡ false

-- a station that sends again is learnt, and not pinned
record IsKnown (e : Edge) (s : Station) : Type 0 where
  pub known : IsSome (entry_at e.routes.learned s)
  pub loose : is_pinned (entry_at e.routes.learned s) ≡ false

-- a station that sends again on the port has a place there
pub record IsHeard (e : Edge) (s : Station) (port : ℕ) : Type 0 where
  pub known : IsSome (entry_at e.routes.learned s)
  pub loose : is_pinned (entry_at e.routes.learned s) ≡ false
  pub place : is_crowded e s port ≡ false

-- what holds of a station in its case, at a port without limits
abbrev Holds : Edge → Station → Case → Type 0
Holds e s Leave = Unit {0}
Holds e s Refresh = IsKnown e s
Holds e s (Refuse alert) = Unit {0}
Holds e s Freeze = is_fifth (get e.windows s) e.clock ≡ true
Holds e s Learn = IsFree e s 0
Holds e s (Move n) = IsFree e s n

-- what holds of a station in its case on the port
abbrev pub HoldsOn : Edge → Station → ℕ → Case → Type 0
HoldsOn e s port Leave = Unit {0}
HoldsOn e s port Refresh = IsHeard e s port
HoldsOn e s port (Refuse alert) = Unit {0}
HoldsOn e s port Freeze = is_fifth (get e.windows s) e.clock ≡ true
HoldsOn e s port Learn = IsNew e s port 0
HoldsOn e s port (Move n) = IsNew e s port n

module _ (e : Edge) (s : Station) where
  move : (n : ℕ) → IsFree e s n → (b : Bool) → eqb n 0 ≡ b → (fifth : Bool)
      → is_fifth (get e.windows s) e.clock ≡ fifth → Holds e s (cond b Learn (cond fifth Freeze (Move n)))
  move n new true zero fifth is = rw (let is : n ≡ 0 = grind (arith, nat_tests) in is) at new
  move n new false zero true is = is
  move n new false zero false is = new

  numbered : (n : ℕ) → entry_at e.routes.learned s ≡ None → seq_for (table_of e) (address_of e) s.vni s.mac ≡ Next n
      → (spent full : Bool) → is_spent e.routes ≡ spent → is_full e.routes.learned ≡ full
      → Holds e s (cond spent (Refuse CounterSpent)
      (cond full (Refuse TableFull) (move_case (get e.windows s) e.clock n)))
  numbered n none next true full few room = tt
  numbered n none next false true few room = tt
  numbered n none next false false few room = move n
      (record { none = none; room = room; few = few; next = next }) (eqb n 0) refl (is_fifth (get e.windows s) e.clock)
      refl

  new : entry_at e.routes.learned s ≡ None → (frozen : Bool) → (q : Seq)
      → seq_for (table_of e) (address_of e) s.vni s.mac ≡ q
      → Holds e s (cond frozen Leave (numbered_case e (get e.windows s) q))
  new none true q next = tt
  new none false Static next = tt
  new none false Spent next = tt
  new none false (Next n) next = numbered n none next (is_spent e.routes) (is_full e.routes.learned) refl refl

  known : (x : Entry) → entry_at e.routes.learned s ≡ Some x → (b : Bool) → x.pinned ≡ b
      → Holds e s (cond b Leave Refresh)
  known x at true loose = tt
  known x at false loose = record { known = rw at refl; loose = ap is_pinned at ∙ loose }

  at_entry : (o : Option Entry) → entry_at e.routes.learned s ≡ o → Holds e s (case_at e s o)
  at_entry (Some x) at = known x at x.pinned refl
  at_entry None at = new at (is_frozen (get e.windows s)) (seq_for (table_of e) (address_of e) s.vni s.mac) refl

-- ---- the limits of the port

module _ (e : Edge) (s : Station) (port : ℕ) where
  new_on : (n : ℕ) → IsFree e s n → is_crowded e s port ≡ false → is_busy e s port ≡ false → IsNew e s port n
  new_on n h place calm = record {
    none = h.none;
    room = h.room;
    few = h.few;
    next = h.next;
    place = place;
    calm = calm;
  }

  -- with room and time enough the case stays
  new_limited : (c : Case) → (is_crowded e s port ≡ false → is_busy e s port ≡ false → HoldsOn e s port c)
      → (crowded busy : Bool) → is_crowded e s port ≡ crowded → is_busy e s port ≡ busy
      → HoldsOn e s port (cond crowded (Refuse (PortFull port)) (cond busy (Refuse (PortBusy port)) c))
  new_limited c h true busy place calm = tt
  new_limited c h false true place calm = tt
  new_limited c h false false place calm = h place calm

  refresh_limited : IsKnown e s → (crowded : Bool) → is_crowded e s port ≡ crowded
      → HoldsOn e s port (cond crowded (Refuse (PortFull port)) Refresh)
  refresh_limited h true place = tt
  refresh_limited h false place = record { known = h.known; loose = h.loose; place = place }

  holds_limited : (c : Case) → Holds e s c → HoldsOn e s port (limited e s port c)
  holds_limited Leave h = tt
  holds_limited Refresh h = refresh_limited h (is_crowded e s port) refl
  holds_limited (Refuse alert) h = tt
  holds_limited Freeze h = new_limited Freeze (λ place calm. h) (is_crowded e s port) (is_busy e s port) refl refl
  holds_limited Learn h = new_limited Learn (new_on 0 h) (is_crowded e s port) (is_busy e s port) refl refl
  holds_limited (Move n) h = new_limited (Move n) (new_on n h) (is_crowded e s port) (is_busy e s port) refl refl

  pub holds_on : HoldsOn e s port (case_on e s port)
  holds_on = holds_limited (case_of e s) (at_entry e s (entry_at e.routes.learned s) refl)

  pub case_holds : (c : Case) → c ≡ case_on e s port → HoldsOn e s port c
  case_holds c is = rw is holds_on

-- what holds of the edge before and of the one after holds where memory was refused too
pub or_refused : {needs : Bool} {e after e' : Edge} {alert told : Option Alert} (P : Edge → Type 0) → P e → P after
    → OrNoMemory needs e alert after told e' → P e'
or_refused P before now (inl done) = rw done.1 now
or_refused P before now (inr refused) = rw refused.1 before

-- what holds of the edge before and of each that learning may come to holds of the one that it leaves
pub learnt_by : (P : Edge → Type 0) (e : Edge) (s : Station) (port : ℕ) (told : Option Alert) (e' : Edge) → P e
    → (IsHeard e s port → P (refreshed e s port)) → P (moved e s) → (IsNew e s port 0 → P (learnt e s port 0))
    → ((n : ℕ) → IsNew e s port n → P (learnt (moved e s) s port n)) → (b : Bool) → LearnsIf b e s port told e' → P e'
learnt_by P e s port told e' before refresh freeze learn move b h = go b h
  where
    does : (c : Case) → HoldsOn e s port c → Does c e s port told e' → P e'
    does Leave holds d = rw d.1 before
    does Refresh holds d = rw d.1 (refresh holds)
    does (Refuse alert) holds d = rw d.1 before
    does Freeze holds d = rw d.1 freeze
    does Learn holds d = or_refused P before (learn holds) d
    does (Move n) holds d = or_refused P before (move n holds) d

    go : (b : Bool) → LearnsIf b e s port told e' → P e'
    go true d = does (case_on e s port) (holds_on e s port) d
    go false d = rw d.1 before
