-- Frames within the storm limit of a port, and beyond it.
use Rattle.std.proofs.Common.{◌≡◌, ◌⊎◌, inl, inr, ℕ, Bool, true, false, cond, Result, Ok, Err, ap}
use Rattle.ev_edge.specs.declared.arrival.Arrival.{Arrival}
use Rattle.ev_edge.specs.declared.arrival.Arrival.TheVariants.{Dropped, Message, Data}
use Rattle.ev_edge.specs.declared.refusal.EdgeRefusal.TheVariants.{PortStorm}
use Rattle.ev_edge.specs.declared.refusal.Refusal.{Refusal}
use Rattle.ev_edge.specs.declared.refusal.Refusal.TheVariants.{Edge as OfEdge}
use Rattle.ev_edge.specs.declared.reply.Reply.{Reply}
use Rattle.ev_edge.specs.Edge.{Edge}
use Rattle.ev_edge.specs.Arrival.{admitted}
use Rattle.ev_edge.specs.Storms.{is_stormy}
use Rattle.ev_edge.specs.Steps.{FrameSteps}

-- a frame, or its refusal
abbrev either_of : Bool → ℕ → ℕ → ℕ → ℕ → Result Arrival Refusal
either_of b p v d s = cond b (Err (OfEdge (PortStorm p))) (Ok (Data v d s))

-- a frame that was admitted arrived as it does without a limit
pub of_admitted : (a : Result Arrival Refusal) (e : Edge) (p vni destination source : ℕ)
    → admitted e p a ≡ Ok (Data vni destination source) → a ≡ Ok (Data vni destination source)
of_admitted (Err r) e p vni destination source is = cc
of_admitted (Ok Dropped) e p vni destination source is = cc
of_admitted (Ok (Message b)) e p vni destination source is = cc
of_admitted (Ok (Data v d s)) e p vni destination source is = go (is_stormy e p v d) is
  where
    go : (b : Bool) → either_of b p v d s ≡ Ok (Data vni destination source)
        → either_of false p v d s ≡ Ok (Data vni destination source)
    go true is = cc
    go false is = is

-- the step is that of a port without a limit, or the frame was refused
pub unadmitted : (a : Result Arrival Refusal) (e : Edge) (p : ℕ) (result : Result Reply Refusal) (e' : Edge)
    → FrameSteps (admitted e p a) e p result e'
    → FrameSteps a e p result e' ⊎ ((result ≡ Err (OfEdge (PortStorm p))) × (e' ≡ e))
unadmitted (Err r) e p result e' h = inl h
unadmitted (Ok Dropped) e p result e' h = inl h
unadmitted (Ok (Message b)) e p result e' h = inl h
unadmitted (Ok (Data v d s)) e p result e' h = go (is_stormy e p v d) h
  where
    go : (b : Bool) → FrameSteps (either_of b p v d s) e p result e'
        → FrameSteps (Ok (Data v d s)) e p result e' ⊎ ((result ≡ Err (OfEdge (PortStorm p))) × (e' ≡ e))
    go true h = inr h
    go false h = inl h

-- the arrival of a frame that the limit allows, and of one beyond it
pub admits : (e : Edge) (p vni destination source : ℕ) → is_stormy e p vni destination ≡ false
    → admitted e p (Ok (Data vni destination source)) ≡ Ok (Data vni destination source)
admits e p vni destination source calm =
    ap (λ b. either_of b p vni destination source) calm

pub refuses : (e : Edge) (p vni destination source : ℕ) → is_stormy e p vni destination ≡ true
    → admitted e p (Ok (Data vni destination source)) ≡ Err (OfEdge (PortStorm p))
refuses e p vni destination source stormy =
    ap (λ b. either_of b p vni destination source) stormy
