-- A way through a network after a rest, by ports that were in the tree, is a way through the network at rest.
use Rattle.std.proofs.Common.{◌≡◌, ℕ, ◌+◌, ◌-◌, ◌⊎◌, inl, inr, ◌||◌, false, true, List, [], ◌∷◌, Option, Some, None}
use Rattle.std.proofs.Common.{slice_get, refl}
use Rattle.std.proofs.Common.{sym, ap, ◌∙◌, arith}
use Rattle.std.proofs.lemmas.Bool.{false≢true}
use Rattle.std.specs.Option.{option_map_or}
use Rattle.rstp_state.specs.declared.port.PortState.{PortState}
use Rattle.rstp_state.specs.Port.{is_designated, is_root, test_at}
use Rattle.rstp_run.specs.TopologyChange.{is_in_tree}
use Rattle.rstp_run.specs.Lasting.{LastingIsReached, LosingKeepsTree, RolesLast}
use Rattle.rstp_run.specs.declared.event.Event.TheVariants as events
use Rattle.rstp_run.specs.Laws.{IsInTree}
use Rattle.rstp_run.specs.RootPort.{IsAtPlace}
use Rattle.rstp_run.specs.Rules.{Tree}
use Rattle.rstp_run.specs.Runs.{IsSettled}
use Rattle.rstp_run.specs.Settled.{IsReached, PassingIsInTree}
use Rattle.ev_sites.specs.After.{IsAfterLosses, IsKept, IsLater, IsWithin, Keeps, KeepsOn}
use Rattle.ev_sites.specs.Inner.Bridges.{BridgeLaws}
use Rattle.ev_sites.specs.Network.{Spot, Network, IsNetwork, IsAtRest, PassesAt, Travels}
use Rattle.ev_sites.proofs.Ways.{IsRootAt, IsDesignatedAt, Leads, comes_back_by_none, tree_at}

module _ (laws : BridgeLaws) (rest now : Network) (is : IsNetwork rest) (at_rest : IsAtRest rest)
    (within : IsWithin rest now) where
  was_in_tree : (x : Spot) → PassesAt now x → IsRootAt rest x ⊎ IsDesignatedAt rest x
  was_in_tree x passes =
      let was = within.in_tree x passes in
      tree_at laws rest is x was.0 was.1 (at_rest.settled x.bridge was.0 was.1) was.2

  led : (ports : List Spot) (x y : Spot) → Travels now ports x y → Leads rest ports x y
  led [] x y way = way
  led (z ∷ later) x y way =
      let c = way.0 in (
        record {
          out = c.out;
          bridge = c.bridge;
          other = c.other;
          segment = sym (within.segment c.out) ∙ c.segment ∙ within.segment z;
          apart = c.apart;
          enters = was_in_tree x c.enters;
          leaves = was_in_tree c.out c.leaves;
          arrives = was_in_tree z c.arrives;
        },
        at_rest.quiet (rest.segment z),
        led later z y way.1,
      )

  pub no_circle_within : (x : Spot) (ports : List Spot) → Travels now ports x x → ports ≡ []
  no_circle_within x ports way = comes_back_by_none laws rest is x ports (led ports x x way)

-- if a port in the tree has the role of the port at its place in another bridge, that port is in the tree
same_in_tree : (s t : Tree) (p : ℕ) → ((b : PortState) → IsAtPlace t p b → (a : PortState) × IsAtPlace s p a
    × (b.role ≡ a.role)) → IsInTree t (p + 1) → IsInTree s (p + 1)
same_in_tree s t p same tree =
    let zeroth : p + 1 - 1 ≡ p = omega arith in
    ap (λ q. test_at q is_in_tree s.ports) zeroth ∙ from (slice_get t.ports p) refl (sym (ap
    (λ q. test_at q is_in_tree t.ports) zeroth) ∙ tree)
  where
    from : (o : Option PortState) → slice_get t.ports p ≡ o → option_map_or is_in_tree o false ≡ true
        → test_at p is_in_tree s.ports ≡ true
    from None e h = absurd (false≢true h)
    from (Some b) e h =
        let was = same b e in
        ap (λ o. option_map_or is_in_tree o false) was.1
        ∙ sym (ap (λ r. is_root r || is_designated r) was.2) ∙ h

-- ---- the events of each bridge

kept_reached : LastingIsReached → (s t : Tree) → IsReached s → Keeps s t → IsReached t
kept_reached reach s t is (inl lasts) = reach lasts.0 s t is lasts.1
kept_reached reach s t is (inr loses) =
    (is.0, is.1, (events.PortDown loses.0 ∷ is.2.0, (s, loses.1, loses.2, loses.3, is.2.1, loses.6)))

on_reached : LastingIsReached → (through : List Tree) (s t : Tree) → IsReached s → KeepsOn through s t → IsReached t
on_reached reach [] s t is same = rw same is
on_reached reach (mid ∷ earlier) s t is kept =
    kept_reached reach mid t (on_reached reach earlier s mid is kept.0) kept.2

module _ (last : RolesLast) (reach : LastingIsReached) (loss : LosingKeepsTree) where
  in_tree_on : (through : List Tree) (s t : Tree) (p : ℕ) → IsReached s → KeepsOn through s t → IsSettled t
      → IsInTree t (p + 1) → IsInTree s (p + 1)
  in_tree_on [] s t p is same settled tree =
      let P : Tree → Type 0 = λ u. IsInTree u (p + 1) in (rw same at tree)
  in_tree_on (mid ∷ earlier) s t p is kept settled tree =
      let reached = on_reached reach earlier s mid is kept.0 in
      in_tree_on earlier s mid p is kept.0 kept.1 (elim kept.2 [
        | inl lasts ↦ same_in_tree mid t p (last lasts.0 mid t reached kept.1 settled lasts.1 p) tree
        | inr loses ↦ loss mid t reached kept.1 settled loses (p + 1) tree
      ])

  pub while_kept : PassingIsInTree → (rest now : Network) → IsNetwork rest → IsKept rest now → IsWithin rest now
  while_kept in_tree rest now is kept = record {
    segment = kept.segment;
    in_tree = λ x passes.
        let was = kept.bridge x.bridge passes.0 passes.1 in
        let reached = is.reached x.bridge was.0 was.2 in (
          was.0,
          was.2,
          in_tree_on was.1 was.0 passes.0 x.place reached was.3 passes.2.0 (in_tree passes.0
              (on_reached reach was.1 was.0 passes.0 reached was.3) (x.place + 1) passes.2),
        );
  }

-- ---- the two ways by themselves

pub until_selection : {rest now : Network} → IsAtRest rest → IsLater rest now → IsKept rest now
until_selection at_rest later = record {
  segment = later.segment;
  bridge = λ b t at.
      let was = later.bridge b t at in
      (was.0, was.0 ∷ [], was.2, (refl, at_rest.settled b was.0 was.2, inl (was.1, was.3)));
}

pub after_losses : {rest now : Network} → IsAtRest rest → IsAfterLosses rest now → IsKept rest now
after_losses at_rest later = record {
  segment = later.segment;
  bridge = λ b t at.
      let was = later.bridge b t at in elim was.2 [
        | inl same ↦ (was.0, [], was.1, same)
        | inr loses ↦ (was.0, was.0 ∷ [], was.1, (refl, at_rest.settled b was.0 was.1, inr loses))
      ];
}
