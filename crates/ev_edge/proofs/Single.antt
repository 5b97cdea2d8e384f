-- An event of the bridge has one outcome.
use Rattle.std.proofs.Common.{◌≡◌, ℕ, true, Option, Some, None, Result, Ok, Err, List, sym, ap, ◌∙◌}
use Rattle.std.proofs.lemmas.Bool.{false≢true}
use Rattle.bpdu_wire.specs.declared.bpdu.Bpdu.{Bpdu}
use Rattle.rstp_run.specs.declared.event.Event as tree
use Rattle.rstp_run.specs.declared.event.Event.TheVariants as tree_events
use Rattle.rstp_run.specs.Events.{OneOutcome, IsSameOutcome, firings_at, sent_from}
use Rattle.rstp_run.specs.Rules.{Tree}
use Rattle.ev_claims.specs.LocalRoutes.{vni_at}
use Rattle.ev_edge.specs.declared.arrival.Arrival.{Arrival}
use Rattle.ev_edge.specs.declared.arrival.Arrival.TheVariants.{Dropped, Message, Data}
use Rattle.ev_edge.specs.declared.event.Event.{Event}
use Rattle.ev_edge.specs.declared.event.Event.TheVariants as events
use Rattle.ev_edge.specs.declared.refusal.Refusal.{Refusal}
use Rattle.ev_edge.specs.declared.reply.Reply.{Reply}
use Rattle.ev_edge.specs.Arrival.{frame_arrival}
use Rattle.ev_edge.specs.Bridging.{BridgeGoes, after_bridge, after_second}
use Rattle.ev_edge.specs.Edge.{Edge}
use Rattle.ev_edge.specs.Laws.{is_of_bridge, is_message}
use Rattle.ev_edge.specs.Steps.{Steps, FrameSteps, Bridges, BridgesAt, Seconds, nothing}

abbrev IsSame : Result Reply Refusal → Result Reply Refusal → Edge → Edge → Type 0
IsSame x y a b = (x ≡ y) × (a ≡ b)

-- only messages are sent, and they are those in the slots
same_reply : (x y : Reply) (s t : Tree) → x ≡ record nothing { bpdus = x.bpdus }
    → y ≡ record nothing { bpdus = y.bpdus } → x.bpdus.items ≡ sent_from 1 s.ports
    → y.bpdus.items ≡ sent_from 1 t.ports → s ≡ t → x ≡ y
same_reply x y s t x_is y_is x_sent y_sent same =
    let items : x.bpdus.items ≡ y.bpdus.items = x_sent ∙ ap (λ (v : Tree). sent_from 1 v.ports) same ∙ sym y_sent in
    x_is ∙ ap (λ list. record nothing { bpdus = record { items = list } }) items ∙ sym y_is

module _ (law : OneOutcome) where
  same_goes : (event : tree.Event) (old s t : Tree) (flush flush' : ℕ) (sent sent' : List (ℕ × Bpdu))
      → (h : BridgeGoes event old s flush sent) → (k : BridgeGoes event old t flush' sent')
      → IsSameOutcome s t h.settled k.settled flush flush'
  same_goes event old s t flush flush' sent sent' h k =
      law event (firings_at old) old s t h.settled k.settled flush flush' h.happens k.happens

  same_bridge : (event : tree.Event) (e a b : Edge) (x y : Result Reply Refusal) → Bridges event e x a
      → Bridges event e y b → IsSame x y a b
  same_bridge event e a b (Ok x) (Ok y) h k =
      let same = same_goes event e.tree a.tree b.tree h.flush k.flush x.bpdus.items y.bpdus.items h.goes k.goes in (
        ap Ok (same_reply x y a.tree b.tree h.reply_is k.reply_is h.goes.slots k.goes.slots same.bridge),
        h.after ∙ ap (λ t. after_bridge e t h.flush) same.bridge ∙ ap (after_bridge e b.tree) same.flush ∙ sym k.after,
      )
  same_bridge event e a b (Ok x) (Err r) h k = absurd k
  same_bridge event e a b (Err r) y h k = absurd h

  same_second : (e a b : Edge) (x y : Result Reply Refusal) → Seconds e x a → Seconds e y b → IsSame x y a b
  same_second e a b (Ok x) (Ok y) h k =
      let same = same_goes tree_events.Second e.tree a.tree b.tree h.flush k.flush x.bpdus.items y.bpdus.items h.goes
      k.goes in (
        ap Ok (same_reply x y a.tree b.tree h.reply_is k.reply_is h.goes.slots k.goes.slots same.bridge),
        h.after ∙ ap (λ t. after_second e t h.flush) same.bridge ∙ ap (after_second e b.tree) same.flush ∙ sym k.after,
      )
  same_second e a b (Ok x) (Err r) h k = absurd k
  same_second e a b (Err r) y h k = absurd h

  same_at : (o : Option ℕ) (event : tree.Event) (e a b : Edge) (x y : Result Reply Refusal) → BridgesAt o event e x a
      → BridgesAt o event e y b → IsSame x y a b
  same_at None event e a b x y h k = (h.0 ∙ sym k.0, h.1 ∙ sym k.1)
  same_at (Some vni) event e a b x y h k = same_bridge event e a b x y h k

  same_frame : (arrival : Result Arrival Refusal) (e a b : Edge) (port : ℕ) (x y : Result Reply Refusal)
      → is_message arrival ≡ true → FrameSteps arrival e port x a → FrameSteps arrival e port y b → IsSame x y a b
  same_frame (Err r) e a b port x y is h k = cc
  same_frame (Ok Dropped) e a b port x y is h k = cc
  same_frame (Ok (Message message)) e a b port x y is h k =
      same_bridge (tree_events.Bpdu port message) e a b x y h k
  same_frame (Ok (Data vni destination source)) e a b port x y is h k = absurd (false≢true is)

  pub one_outcome : (e a b : Edge) (event : Event) (x y : Result Reply Refusal) → is_of_bridge e event ≡ true
      → Steps e event x a → Steps e event y b → (x ≡ y) × (a ≡ b)
  one_outcome e a b (events.Frame port octets) x y is h k =
      same_frame (frame_arrival e port octets.now) e a b port x y is h k
  one_outcome e a b events.Second x y is h k = same_second e a b x y h k
  one_outcome e a b (events.PortUp port) x y is h k =
      same_at (vni_at e.routes.ports port) (tree_events.PortUp port) e a b x y h k
  one_outcome e a b (events.PortDown port) x y is h k =
      same_at (vni_at e.routes.ports port) (tree_events.PortDown port) e a b x y h k
  one_outcome e a b (events.Mcheck port) x y is h k =
      same_at (vni_at e.routes.ports port) (tree_events.Mcheck port) e a b x y h k
  one_outcome e a b (events.TunnelFrame from octets) x y is h k = absurd (false≢true is)
  one_outcome e a b (events.Take u) x y is h k = absurd (false≢true is)
  one_outcome e a b (events.Pin s port) x y is h k = absurd (false≢true is)
  one_outcome e a b (events.Unpin s) x y is h k = absurd (false≢true is)
  one_outcome e a b (events.Thaw s) x y is h k = absurd (false≢true is)
  one_outcome e a b events.Announce x y is h k = absurd (false≢true is)
  one_outcome e a b (events.Away o) x y is h k = absurd (false≢true is)
  one_outcome e a b (events.Back o) x y is h k = absurd (false≢true is)
