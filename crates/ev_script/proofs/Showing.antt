-- The text for a port, and for an edge that doesn't exist.
use Rattle.std.proofs.Common.{◌≡◌, ◌↔◌, ℕ, ◌≤◌, ◌<◌, ◌-◌, zero, suc, Bool, true, false, List, length, Option, Some}
use Rattle.std.proofs.Common.{None, IsTrue, nat_lt, slice_get, refl, subst, arith}
use Rattle.std.proofs.lemmas.Bool.Decides.{nat_tests}
use Rattle.std.proofs.lemmas.Option.{slice_get_past}
use Rattle.rstp_state.specs.declared.port.PortState.{PortState}
use Rattle.rstp_run.specs.Rules.{Tree}
use Rattle.rstp_run.specs.Events.{IsPort, Passes}
use Rattle.ev_edge.specs.Edge.{Edge}
use Rattle.ev_edge.specs.declared.refusal.EdgeRefusal.TheVariants as own
use Rattle.ev_edge.specs.declared.refusal.Refusal.TheVariants as at_edge
use Rattle.ev_fabric.specs.declared.refusal.FabricRefusal.TheVariants as refusals
use Rattle.ev_fabric.specs.Fabric.{nth}
use Rattle.ev_script.specs.Printing.{refusal_text, port_text}
use Rattle.ev_script.specs.Simulation.{ShowsPort, ShowsPortOf}

-- the element at a place that is counted from 1, by the place that is counted from 0
nth_at : {X : Type 0} (xs : List X) (n : ℕ) (x : X) → 1 ≤ n → slice_get xs (n - 1) ≡ Some x → nth xs n ≡ Some x
nth_at xs zero x some at = absurd (omega (arith, some))
nth_at xs (suc i) x some at =
    let same : suc i - 1 ≡ i = omega arith in subst (λ (k : ℕ). slice_get xs k ≡ Some x) same at

-- there is no element at a place outside
none_outside : {X : Type 0} (xs : List X) (n : ℕ) → (IsPort n (length xs) → ⊥) → nth xs n ≡ None
none_outside xs zero h = refl
none_outside xs (suc i) h = go (nat_lt i (length xs)) refl
  where
    go : (b : Bool) → nat_lt i (length xs) ≡ b → slice_get xs i ≡ None
    go true e =
        let within : i < length xs = grind (arith, nat_tests) in
        let first : 1 ≤ suc i = omega arith in
        let last : suc i ≤ length xs = omega (arith, within) in
        absurd (h (first, last))
    go false e = let past : length xs ≤ i = grind (arith, nat_tests) in slice_get_past xs i past

pub shows_port : (e p : ℕ) (tree : Tree) (state : PortState) (passes : Bool) → 1 ≤ p
    → slice_get tree.ports (p - 1) ≡ Some state → (IsTrue passes ↔ Passes tree p)
    → ShowsPort e p tree (port_text e p state passes)
shows_port e p tree state passes some at exact = rw (nth_at tree.ports p state some at) (passes, exact, refl)

pub shows_no_port : (e p : ℕ) (tree : Tree) → (IsPort p (length tree.ports) → ⊥)
    → ShowsPort e p tree (refusal_text e (refusals.Edge (at_edge.Edge own.NoSuchPort)))
shows_no_port e p tree outside = rw (none_outside tree.ports p outside) refl

pub shows_port_of : (e p : ℕ) (found : Option Edge) (edge : Edge) (text : List ℕ) → found ≡ Some edge
    → ShowsPort e p edge.tree text → ShowsPortOf e p found text
shows_port_of e p found edge text is h = rw is h

pub shows_no_edge : (e p : ℕ) (found : Option Edge) → found ≡ None
    → ShowsPortOf e p found (refusal_text e refusals.NoSuchEdge)
shows_no_edge e p found none = rw none refl
