-- The set of the ports that pass, by a walk over all ports.
use Rattle.std.proofs.Common.{◌≡◌, ◌⊎◌, inl, inr, ℕ, ◌+◌, ◌≤◌, true, eqb, ◌||◌, sym}
use Rattle.std.proofs.Common.{◌∙◌, arith}
use Rattle.std.specs.Prelude.{length}
use Rattle.std.proofs.lemmas.Bool.{eq-eqb}
use Rattle.std.proofs.lemmas.Bool.{cases_eq, ne_eqb, false≢true, or_right}
use Rattle.ether_wire.specs.Ports.{has_port}
use Rattle.ether_wire.proofs.PortLemmas.{has_port-none}
use Rattle.rstp_run.specs.Rules.{Tree}
use Rattle.rstp_run.specs.Events.{Passes}
use Rattle.ev_edge.specs.Edge.{ArePassing}
use Rattle.ev_edge.specs.Inner.Bridging.{AddsPassing}

-- the set has the ports up to this one that pass
pub record Upto (s : Tree) (n set : ℕ) : Type 0 where
  pub only : (p : ℕ) → has_port set p ≡ true → (1 ≤ p) × (p ≤ n) × Passes s p
  pub all : (p : ℕ) → 1 ≤ p → p ≤ n → Passes s p → has_port set p ≡ true

pub upto_none : (s : Tree) → Upto s 0 0
upto_none s = record {
  only = λ p h. absurd (false≢true (sym (has_port-none p) ∙ h));
  all = λ p some low. absurd (omega (arith, some, low));
}

pub upto_more : (s : Tree) (n set more : ℕ) → Upto s n set → AddsPassing s set (n + 1) more → Upto s (n + 1) more
upto_more s n set more upto adds = record {
  only = λ p h. elim ((adds p).0 h) [
    | inl was ↦ (let o = upto.only p was in (o.0, omega (arith, o.1), o.2))
    | inr new ↦ (let same = new.0 in (omega (arith, same), omega (arith, same), new.1))
  ];
  all = λ p some low passes. elim (cases p low) [
    | inl below ↦ (adds p).1 (inl (upto.all p some below passes))
    | inr same ↦ (adds p).1 (inr (sym same, passes))
  ];
}
  where
    cases : (p : ℕ) → p ≤ n + 1 → (p ≤ n) ⊎ (p ≡ n + 1)
    cases p low = elim (cases_eq p (n + 1)) [
      | inl same ↦ inr same
      | inr ne ↦ inl (omega (arith, low, ne))
    ]

pub upto_all : (s : Tree) (set : ℕ) → Upto s (length s.ports) set → ArePassing s set
upto_all s set upto p = (λ h. (let o = upto.only p h in ((o.0, o.1), o.2)), λ h. upto.all p h.0.0 h.0.1 h.1)

-- ---- one port
pub adds_yes : (s : Tree) (set port more : ℕ) → Passes s port
    → ((p : ℕ) → has_port more p ≡ (eqb port p || has_port set p)) → AddsPassing s set port more
adds_yes s set port more passes ports p = (
  λ h. elim (cases_eq port p) [
    | inl same ↦ inr (same, rw same at passes)
    | inr ne ↦ inl (rw (ports p, ne_eqb port p ne) at h)
  ],
  λ h. rw (ports p) (elim h [
    | inl was ↦ or_right (eqb port p) (has_port set p) was
    | inr new ↦ rw (eq-eqb port p new.0)
  ]),
)

pub adds_no : (s : Tree) (set port : ℕ) → (Passes s port → ⊥) → AddsPassing s set port set
adds_no s set port never p = (λ h. inl h, λ h. back h)
  where
    back : (has_port set p ≡ true) ⊎ ((port ≡ p) × Passes s p) → has_port set p ≡ true
    back (inl was) = was
    back (inr new) = absurd (never (rw new.0 new.1))
