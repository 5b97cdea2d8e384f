-- But for its decisions an edge doesn't depend on who is away.
use Rattle.std.proofs.Common.{◌≡◌, inl, inr, ℕ, Bool, true, false, cond, eqb, Option, Some, None, Result, Ok, Err}
use Rattle.std.proofs.Common.{List, [], ◌∷◌, refl, sym, ap, ◌∙◌}
use Rattle.std.proofs.lemmas.Bool.{true≢false, false≢true, not-true as up_not_away}
use Rattle.route_wire.specs.Fields.{Fields}
use Rattle.route_join.specs.Table.{is_listed}
use Rattle.mac_arena.specs.declared.station.Station.{Station}
use Rattle.mac_arena.specs.declared.station.Entry.{Entry}
use Rattle.mac_arena.specs.Learning.{entry_at, is_pinned}
use Rattle.rstp_run.specs.declared.event.Event as tree
use Rattle.vxlan_wire.specs.Vxlan.{instance_of}
use Rattle.vxlan_wire.specs.declared.vxlan.VxlanRefusal as vxlan
use Rattle.ev_mobility.specs.declared.alert.Alert.{Alert}
use Rattle.ev_mobility.specs.declared.seq.Seq.{Seq}
use Rattle.ev_mobility.specs.declared.seq.Seq.TheVariants.{Next, Static, Spent}
use Rattle.ev_mobility.specs.declared.window.Window.{Window}
use Rattle.ev_mobility.specs.Seq.{seq_for}
use Rattle.ev_mobility.specs.Window.{is_frozen}
use Rattle.std.specs.FinMap.{get}
use Rattle.std.proofs.lemmas.Bool.{cases_Bool}
use Rattle.ev_tunnel.specs.declared.decision.Decision.{Decision}
use Rattle.ev_tunnel.specs.declared.decision.Source.{Source}
use Rattle.ev_tunnel.specs.declared.decision.Source.TheVariants.{Port, Tunnel}
use Rattle.ev_tunnel.specs.Decision.{local_up, remote_up, is_away}
use Rattle.ev_claims.specs.LocalRoutes.{LocalRoutes, vni_at, after_removal}
use Rattle.ev_edge.specs.declared.arrival.Arrival.{Arrival}
use Rattle.ev_edge.specs.declared.arrival.Arrival.TheVariants.{Dropped, Message, Data}
use Rattle.ev_edge.specs.declared.event.Event.{Event}
use Rattle.ev_edge.specs.declared.event.Event.TheVariants as events
use Rattle.ev_edge.specs.declared.learning.Case.{Case}
use Rattle.ev_edge.specs.declared.learning.Case.TheVariants.{Leave, Refresh, Refuse, Freeze, Learn, Move}
use Rattle.ev_edge.specs.declared.pinning.PinCase.{PinCase}
use Rattle.ev_edge.specs.declared.pinning.PinCase.TheVariants.{Keep, Shift, Deny, Pin}
use Rattle.ev_edge.specs.declared.refusal.EdgeRefusal.{EdgeRefusal}
use Rattle.ev_edge.specs.declared.refusal.EdgeRefusal.TheVariants.{UnknownOriginator}
use Rattle.ev_edge.specs.declared.refusal.Refusal.{Refusal}
use Rattle.ev_edge.specs.declared.refusal.Refusal.TheVariants.{Edge as OfEdge}
use Rattle.ev_edge.specs.declared.reply.Reply.{Reply}
use Rattle.ev_edge.specs.Edge.{Edge, table_of, address_of}
use Rattle.ev_edge.specs.Arrival.{frame_arrival, tunnel_arrival, datagram_arrival, is_other}
use Rattle.ev_edge.specs.Away.{with_away, with_back}
use Rattle.ev_edge.specs.Learning.{case_of, case_at, numbered_case, limited, case_on, OrNoMemory, Does}
use Rattle.ev_edge.specs.Pinning.{pin_case, pin_case_at, refused_pin, DoesPin, after_unpin}
use Rattle.ev_edge.specs.Sending.{port_of}
use Rattle.ev_edge.specs.Storms.{taking_on}
use Rattle.ev_edge.specs.Steps.{Steps, LearnsIf, SendsIf, FrameSteps, TunnelSteps, Bridges, BridgesAt, Seconds, Takes}
use Rattle.ev_edge.specs.Steps.{Pins, Marks, nothing}
use Rattle.ev_edge.specs.AwayLaws.{with_all_up, SameButDecision, is_mark, ComesBack, DependsNotOnAway, MarksOnlyAway}
use Rattle.ev_edge.specs.AwayLaws.{Entered, EdgeRuns, without_marks, AreAlike, AsIfNeverAway}
use Rattle.ev_edge.proofs.Giving.{learnt_away}
use Rattle.ev_edge.proofs.Marking.{back_again}

-- the edge with all others up has an answer with this property that is alike, and who is away stays
abbrev Like : (Result Reply Refusal → Type 0) → Edge → Result Reply Refusal → Edge → Type 0
Like P e result e' = (e'.away ≡ e.away) × (answer : Result Reply Refusal) × SameButDecision result answer × P answer

same_answer : (result : Result Reply Refusal) → SameButDecision result result
same_answer (Ok reply) = refl
same_answer (Err r) = refl

-- the same answer
likewise : (P : Result Reply Refusal → Type 0) (e : Edge) (result : Result Reply Refusal) (e' : Edge)
    → e'.away ≡ e.away → P result → Like P e result e'
likewise P e result e' away h = (away, result, same_answer result, h)

away_is : (e e' : Edge) → e' ≡ e → e'.away ≡ e.away
away_is e e' is = rw is

-- ---- the bridge

bridges_alike : (event : tree.Event) (e : Edge) (result : Result Reply Refusal) (e' : Edge) → Bridges event e result e'
    → Like (λ r. Bridges event (with_all_up e) r (with_all_up e')) e result e'
bridges_alike event e (Ok reply) e' h = likewise _ e (Ok reply) e' (rw h.after) (record {
  flush = h.flush;
  goes = h.goes;
  after = rw h.after;
  reply_is = h.reply_is;
})
bridges_alike event e (Err r) e' h = absurd h

at_alike : (o : Option ℕ) (event : tree.Event) (e : Edge) (result : Result Reply Refusal) (e' : Edge)
    → BridgesAt o event e result e'
    → Like (λ r. BridgesAt o event (with_all_up e) r (with_all_up e')) e result e'
at_alike None event e result e' h = likewise _ e result e' (rw h.1) (h.0, rw h.1)
at_alike (Some vni) event e result e' h = bridges_alike event e result e' h

seconds_alike : (e : Edge) (result : Result Reply Refusal) (e' : Edge) → Seconds e result e'
    → Like (λ r. Seconds (with_all_up e) r (with_all_up e')) e result e'
seconds_alike e (Ok reply) e' h = likewise _ e (Ok reply) e' (rw h.after) (record {
  flush = h.flush;
  goes = h.goes;
  after = rw h.after;
  reply_is = h.reply_is;
})
seconds_alike e (Err r) e' h = absurd h

-- ---- learning

numbered_alike : (e : Edge) (w : Option Window) (q : Seq) → numbered_case (with_all_up e) w q ≡ numbered_case e w q
numbered_alike e w Static = refl
numbered_alike e w Spent = refl
numbered_alike e w (Next n) = refl

case_alike : (e : Edge) (s : Station) → case_of (with_all_up e) s ≡ case_of e s
case_alike e s = go (entry_at e.routes.learned s)
  where
    go : (o : Option Entry) → case_at (with_all_up e) s o ≡ case_at e s o
    go (Some x) = refl
    go None = ap (cond (is_frozen (get e.windows s)) Leave)
        (numbered_alike e (get e.windows s) (seq_for (table_of e) (address_of e) s.vni s.mac))

limited_alike : (e : Edge) (s : Station) (port : ℕ) (c : Case)
    → limited (with_all_up e) s port c ≡ limited e s port c
limited_alike e s port Leave = refl
limited_alike e s port Refresh = refl
limited_alike e s port (Refuse alert) = refl
limited_alike e s port Freeze = refl
limited_alike e s port Learn = refl
limited_alike e s port (Move n) = refl

case_on_alike : (e : Edge) (s : Station) (port : ℕ) → case_on (with_all_up e) s port ≡ case_on e s port
case_on_alike e s port = ap (limited (with_all_up e) s port) (case_alike e s) ∙ limited_alike e s port (case_of e s)

memory_alike : (needs : Bool) (e after e' : Edge) (alert told : Option Alert) → OrNoMemory needs e alert after told e'
    → OrNoMemory needs (with_all_up e) alert (with_all_up after) told (with_all_up e')
memory_alike needs e after e' alert told (inl done) = inl (done.0, ap with_all_up done.1)
memory_alike needs e after e' alert told (inr refused) = inr (refused.0, ap with_all_up refused.1, refused.2)

does_alike : (c : Case) (e : Edge) (s : Station) (port : ℕ) (told : Option Alert) (e' : Edge)
    → Does c e s port told e' → Does c (with_all_up e) s port told (with_all_up e')
does_alike Leave e s port told e' h = (h.0, rw h.1)
does_alike Refresh e s port told e' h = (h.0, rw h.1)
does_alike (Refuse alert) e s port told e' h = (h.0, rw h.1)
does_alike Freeze e s port told e' h = (h.0, rw h.1)
does_alike Learn e s port told e' h = memory_alike _ e _ e' None told h
does_alike (Move n) e s port told e' h = memory_alike _ e _ e' None told h

learns_alike : (b : Bool) (e : Edge) (s : Station) (port : ℕ) (told : Option Alert) (e' : Edge)
    → LearnsIf b e s port told e' → LearnsIf b (with_all_up e) s port told (with_all_up e')
learns_alike true e s port told e' h =
    rw (case_on_alike e s port) (does_alike (case_on e s port) e s port told e' h)
learns_alike false e s port told e' h = (h.0, rw h.1)

-- ---- frames

-- the edge with all others up decides, too
sends_alike : (b : Bool) (e : Edge) (vni destination : ℕ) (from : Source) (o : Option Decision)
    → SendsIf b e vni destination from o
    → (p : Option Decision) × SendsIf b (with_all_up e) vni destination from p
sends_alike b e vni destination from None h = absurd h
sends_alike true e vni destination from (Some d) h = (
  Some (record {
    local = local_up [] (table_of e) vni destination (port_of e vni destination) (address_of e) from h.members
        h.passing;
    remote = record {
      items = remote_up [] (table_of e) vni destination (port_of e vni destination) (address_of e) from;
    };
  }),
  record {
    members = h.members;
    members_fit = h.members_fit;
    are_members = h.are_members;
    passing = h.passing;
    passing_fit = h.passing_fit;
    are_passing = h.are_passing;
    local = refl;
    remote = refl;
  },
)
sends_alike false e vni destination from (Some d) h = (Some d, h)

frames_alike : (a : Result Arrival Refusal) (e : Edge) (port : ℕ) (result : Result Reply Refusal) (e' : Edge)
    → FrameSteps a e port result e'
    → Like (λ r. FrameSteps a (with_all_up e) port r (with_all_up e')) e result e'
frames_alike (Err r) e port result e' h = likewise _ e result e' (rw h.1) (h.0, rw h.1)
frames_alike (Ok Dropped) e port result e' h = likewise _ e result e' (rw h.1) (h.0, rw h.1)
frames_alike (Ok (Message b)) e port result e' h = bridges_alike _ e result e' h
frames_alike (Ok (Data vni destination source)) e port (Ok reply) e' h =
    let sent = sends_alike h.passes e' vni destination (Port port) reply.decision h.sending in (
      learnt_away (taking_on e port vni destination) (record { vni = vni; mac = source }) port reply.alert e' _
          h.learning.learning,
      Ok (record nothing { decision = sent.0; alert = reply.alert }),
      ap (λ (r : Reply). record r { decision = None }) h.reply_is,
      record {
        learning = record {
          learns = h.learning.learns;
          are_learnt = h.learning.are_learnt;
          learning = learns_alike _ (taking_on e port vni destination) (record { vni = vni; mac = source }) port
              reply.alert e' h.learning.learning;
        };
        passes = h.passes;
        are_passed = h.are_passed;
        sending = sent.1;
        reply_is = refl;
      },
    )
frames_alike (Ok (Data vni destination source)) e port (Err r) e' h = absurd h

tunnels_alike : (a : Result Arrival Refusal) (e : Edge) (result : Result Reply Refusal) (e' : Edge)
    → TunnelSteps a e result e' → Like (λ r. TunnelSteps a (with_all_up e) r (with_all_up e')) e result e'
tunnels_alike (Err r) e result e' h = likewise _ e result e' (rw h.1) (h.0, rw h.1)
tunnels_alike (Ok Dropped) e result e' h = likewise _ e result e' (rw h.1) (h.0, rw h.1)
tunnels_alike (Ok (Message b)) e result e' h = absurd h
tunnels_alike (Ok (Data vni destination source)) e (Ok reply) e' h =
    let sent = sends_alike true e vni destination Tunnel reply.decision h.0 in (
      away_is _ e' h.2,
      Ok (record nothing { decision = sent.0 }),
      ap (λ (r : Reply). record r { decision = None }) h.1,
      (sent.1, refl, rw h.2),
    )
tunnels_alike (Ok (Data vni destination source)) e (Err r) e' h = absurd h

arrival_alike : (e : Edge) (from : ℕ) (octets : List ℕ)
    → tunnel_arrival (with_all_up e) from octets ≡ tunnel_arrival e from octets
arrival_alike e from octets =
    ap (λ (a : Result Arrival Refusal). cond (is_other e from) a (Err (OfEdge UnknownOriginator)))
    (go (instance_of octets))
  where
    go : (i : Result (ℕ × List ℕ) vxlan.VxlanRefusal) → datagram_arrival (with_all_up e) i ≡ datagram_arrival e i
    go (Ok inner) = refl
    go (Err r) = refl

-- ---- updates and pins

takes_alike : (b : Bool) (e : Edge) (u : Fields) (result : Result Reply Refusal) (e' : Edge) → Takes b e u result e'
    → Like (λ r. Takes b (with_all_up e) u r (with_all_up e')) e result e'
takes_alike true e u (Ok reply) e' h =
    likewise _ e (Ok reply) e' (rw h.3) (h.0, h.1, h.2, rw h.3)
takes_alike true e u (Err r) e' h = likewise _ e (Err r) e' (rw h.1) (h.0, rw h.1)
takes_alike false e u (Ok reply) e' h =
    likewise _ e (Ok reply) e' (rw h.2) (h.0, h.1, rw h.2)
takes_alike false e u (Err r) e' h = likewise _ e (Err r) e' (rw h.1) (h.0, rw h.1)

pin_case_alike : (e : Edge) (s : Station) (port : ℕ) (o : Option Entry)
    → pin_case_at (with_all_up e) s port o ≡ pin_case_at e s port o
pin_case_alike e s port None = refl
pin_case_alike e s port (Some x) = refl

does_pin_alike : (c : PinCase) (e : Edge) (s : Station) (port : ℕ) (told : Option Alert) (e' : Edge)
    → DoesPin c e s port told e' → DoesPin c (with_all_up e) s port told (with_all_up e')
does_pin_alike Keep e s port told e' h = (h.0, rw h.1)
does_pin_alike Shift e s port told e' h = (h.0, rw h.1)
does_pin_alike (Deny alert) e s port told e' h = (h.0, rw h.1)
does_pin_alike Pin e s port told e' h = memory_alike _ e _ e' None told h

memory_away : (needs : Bool) (e after e' : Edge) (alert told : Option Alert) → after.away ≡ e.away
    → OrNoMemory needs e alert after told e' → e'.away ≡ e.away
memory_away needs e after e' alert told same (inl done) = away_is after e' done.1 ∙ same
memory_away needs e after e' alert told same (inr refused) = away_is e e' refused.1

pin_away : (c : PinCase) (e : Edge) (s : Station) (port : ℕ) (told : Option Alert) (e' : Edge)
    → DoesPin c e s port told e' → e'.away ≡ e.away
pin_away Keep e s port told e' h = away_is _ e' h.1
pin_away Shift e s port told e' h = away_is _ e' h.1
pin_away (Deny alert) e s port told e' h = away_is _ e' h.1
pin_away Pin e s port told e' h = memory_away _ e _ e' None told refl h

pins_alike : (o : Option EdgeRefusal) (e : Edge) (s : Station) (port : ℕ) (result : Result Reply Refusal) (e' : Edge)
    → Pins o e s port result e' → Like (λ r. Pins o (with_all_up e) s port r (with_all_up e')) e result e'
pins_alike (Some r) e s port result e' h = likewise _ e result e' (rw h.1) (h.0, rw h.1)
pins_alike None e s port (Ok reply) e' h =
    likewise _ e (Ok reply) e' (pin_away (pin_case e s port) e s port reply.alert e' h.0) (
      rw (pin_case_alike e s port (entry_at e.routes.learned s)) (does_pin_alike (pin_case e s port) e s port
          reply.alert e' h.0),
      h.1,
    )
pins_alike None e s port (Err r) e' h = absurd h

-- a pinned station goes
chosen_alike : (b : Bool) (e : Edge) (c : LocalRoutes)
    → with_all_up (cond b (record e { routes = c }) e) ≡ cond b (record (with_all_up e) { routes = c }) (with_all_up e)
chosen_alike true e c = refl
chosen_alike false e c = refl

chosen_away : (b : Bool) (e : Edge) (c : LocalRoutes) → (cond b (record e { routes = c }) e).away ≡ e.away
chosen_away true e c = refl
chosen_away false e c = refl

unpin_alike : (e : Edge) (s : Station) → with_all_up (after_unpin e s) ≡ after_unpin (with_all_up e) s
unpin_alike e s = chosen_alike (is_pinned (entry_at e.routes.learned s)) e (after_removal e.routes s)

-- ---- all events

steps_alike : (e : Edge) (event : Event) (result : Result Reply Refusal) (e' : Edge) → is_mark event ≡ false
    → Steps e event result e' → Like (λ r. Steps (with_all_up e) event r (with_all_up e')) e result e'
steps_alike e (events.Frame port octets) result e' quiet h =
    frames_alike (frame_arrival e port octets.now) e port result e' h
steps_alike e (events.TunnelFrame from octets) result e' quiet h =
    rw (arrival_alike e from octets.now) (tunnels_alike (tunnel_arrival e from octets.now) e result e' h)
steps_alike e (events.Take u) result e' quiet h =
    takes_alike (eqb u.register.originator (address_of e)) e u result e' h
steps_alike e (events.Pin s port) result e' quiet h = pins_alike (refused_pin e s port) e s port result e' h
steps_alike e (events.Unpin s) result e' quiet h = likewise _ e result e'
    (away_is _ e' h.1 ∙ chosen_away (is_pinned (entry_at e.routes.learned s)) e (after_removal e.routes s))
    (h.0, ap with_all_up h.1 ∙ unpin_alike e s)
steps_alike e (events.Thaw s) result e' quiet h =
    likewise _ e result e' (rw h.1) (h.0, rw h.1)
steps_alike e events.Second result e' quiet h = seconds_alike e result e' h
steps_alike e (events.PortUp port) result e' quiet h = at_alike (vni_at e.routes.ports port) _ e result e' h
steps_alike e (events.PortDown port) result e' quiet h = at_alike (vni_at e.routes.ports port) _ e result e' h
steps_alike e (events.Mcheck port) result e' quiet h = at_alike (vni_at e.routes.ports port) _ e result e' h
steps_alike e events.Announce result e' quiet h =
    likewise _ e result e' (rw h.1) (h.0, rw h.1)
steps_alike e (events.Away a) result e' quiet h = absurd (true≢false quiet)
steps_alike e (events.Back a) result e' quiet h = absurd (true≢false quiet)

pub depends_not : DependsNotOnAway
depends_not e e' event result quiet h =
    let like = steps_alike e event result e' quiet h in
    (like.0, record { answer = like.1; alike = like.2; steps = like.3 })

mark_alike : (b : Bool) (e : Edge) (away : List ℕ) (result : Result Reply Refusal) (e' : Edge)
    → Marks b e away result e' → with_all_up e' ≡ with_all_up e
mark_alike true e away result e' h = rw h.1
mark_alike false e away result e' h = rw h.1

pub marks_only : MarksOnlyAway
marks_only e e' (events.Frame port octets) result is h = absurd (false≢true is)
marks_only e e' (events.TunnelFrame from octets) result is h = absurd (false≢true is)
marks_only e e' (events.Take u) result is h = absurd (false≢true is)
marks_only e e' (events.Pin s port) result is h = absurd (false≢true is)
marks_only e e' (events.Unpin s) result is h = absurd (false≢true is)
marks_only e e' (events.Thaw s) result is h = absurd (false≢true is)
marks_only e e' events.Second result is h = absurd (false≢true is)
marks_only e e' (events.PortUp port) result is h = absurd (false≢true is)
marks_only e e' (events.PortDown port) result is h = absurd (false≢true is)
marks_only e e' (events.Mcheck port) result is h = absurd (false≢true is)
marks_only e e' events.Announce result is h = absurd (false≢true is)
marks_only e e' (events.Away a) result is h =
    mark_alike (is_listed (table_of e) a) e (with_away (table_of e).originators e.away a) result e' h
marks_only e e' (events.Back a) result is h =
    mark_alike (is_listed (table_of e) a) e (with_back e.away a) result e' h

-- ---- away and back

pub back_is : ComesBack
back_is e mid e' a first second good up one two = elim (cases_Bool (is_listed (table_of e) a)) [
  | inl is ↦ (let gone = (rw is at one).1 in
      (rw (gone, is) at two).1 ∙ ap (λ (l : List ℕ). record e { away = l })
      (back_again (table_of e).originators e.away a good.keeps.away (up_not_away (is_away e.away a) up)))
  | inr is ↦ (let same = (rw is at one).1 in (rw (same, is) at two).1)
]

-- ---- runs

runs_alike : (run : List Entered) (e e' : Edge) → EdgeRuns e run e'
    → (others : List Entered) × AreAlike (without_marks run) others × EdgeRuns (with_all_up e) others (with_all_up e')
runs_alike [] e e' h = ([], tt, ap with_all_up h)
runs_alike (x ∷ run) e e' h = (let rest = runs_alike run h.0 e' h.2 in elim (cases_Bool (is_mark x.0)) [
  | inl is ↦ rw is (rest.0, rest.1, rw (marks_only e h.0 x.0 x.1 is h.1) at rest.2)
  | inr is ↦ rw is (let like = steps_alike e x.0 x.1 h.0 is h.1 in
      ((x.0, like.1) ∷ rest.0, (refl, like.2, rest.1), (with_all_up h.0, like.3, rest.2)))
])

all_are_up : (e : Edge) → e.away ≡ [] → with_all_up e ≡ e
all_are_up e none = ap (λ (l : List ℕ). record e { away = l }) (sym none)

pub never_away : AsIfNeverAway
never_away run e e' h none none' =
    let r = runs_alike run e e' h in (
      r.0,
      r.1,
      rw (all_are_up e none) at (rw (all_are_up e' none') at r.2),
    )
