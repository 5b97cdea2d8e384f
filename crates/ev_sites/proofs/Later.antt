-- The ring after its rest: two seconds pass at the root and its Hello messages arrive, or the second bridge loses the
-- port that joins it to the third.
use Rattle.std.proofs.Common.{◌≡◌, ◌≢◌, ℕ, zero, suc, ◌+◌, ◌-◌, ◌⊎◌, inl, inr, Bool, true, false, not, List, [], ◌∷◌}
use Rattle.std.proofs.Common.{length, map, Some, is_none, refl, sym, ap, ◌∙◌}
use Rattle.std.proofs.lemmas.Bool.{false≢true}
use Rattle.rstp_state.specs.Port.{is_root, test_at}
use Rattle.rstp_state.specs.Selection.{selected_ports, selected_root, best_path}
use Rattle.rstp_run.specs.declared.event.Event.{Event}
use Rattle.rstp_run.specs.declared.event.Event.TheVariants as events
use Rattle.rstp_run.specs.declared.rule.TheConstants.{MAIN, SENDS}
use Rattle.rstp_run.specs.Events.{direct, RunsHappen}
use Rattle.rstp_run.specs.Lasting.{Lasts, LastingIsReached, LosesPort, LosingKeepsTree, RolesLast}
use Rattle.rstp_run.specs.RootPort.{IsAtPlace}
use Rattle.rstp_run.specs.Rules.{Tree}
use Rattle.rstp_run.specs.Runs.{IsSettled, flushed}
use Rattle.rstp_run.specs.Settled.{PassingIsInTree, SettledByLists}
use Rattle.ev_sites.specs.After.{IsAfterLosses, IsCutRing, IsKept, IsLater, IsWithin, KeepsOn}
use Rattle.ev_sites.specs.After.{RingCanBeCut, RingCanBeKept, RingCanLast}
use Rattle.ev_sites.specs.Network.{Network, IsBridgeAt, IsNetwork, IsAtRest, Crosses}
use Rattle.ev_sites.proofs.After.{after_losses, until_selection, while_kept}
use Rattle.ev_sites.proofs.Histories.{Happening, come_to, AllHappen, AreSwept, NoneSelects, happens_so, lasts}
use Rattle.ev_sites.proofs.Histories.{greeting, losing, repeating}
use Rattle.ev_sites.proofs.Ring.{a_ring, at_rest, network, off_at_two, passing, port_at, proposal, root_bridge}
use Rattle.ev_sites.proofs.Ring.{second_bridge, third_bridge}
use Rattle.ev_sites.proofs.Round.{IsOpen, closed_at, over_first, passes_at, passes_frames, ring_of, round, spot}

-- ---- three bridges and what became of them

abbrev Remains : Tree → Tree → Type 0
Remains s t = (events : List Event) × Lasts events s t

-- a test is true of one and false of the other
abbrev Differs : Tree → Tree → Type 0
Differs s t = (test : Tree → Bool) × (test s ≡ false) × (test t ≡ true)

differs : {x y s t : Tree} → Some x ≡ Some s → Some y ≡ Some t → Differs x y → s ≢ t
differs at now (test, off, on) same = absurd (false≢true (sym off ∙ ap test (cc) ∙ on))

module _ (a b c a' b' c' : Tree) where
  all_remain : Remains a a' → Remains b b' → Remains c c' → IsLater (ring_of a b c) (ring_of a' b' c')
  all_remain ra rb rc = record { segment = λ x. refl; bridge = each }
    where
      each : (n : ℕ) (t : Tree) → IsBridgeAt (ring_of a' b' c') n t
          → (s : Tree) × (events : List Event) × IsBridgeAt (ring_of a b c) n s × Lasts events s t
      each zero t at = (a, ra.0, refl, rw (let e : a' ≡ t = cc in e) at ra.1)
      each (suc zero) t at = (b, rb.0, refl, rw (let e : b' ≡ t = cc in e) at rb.1)
      each (suc (suc zero)) t at = (c, rc.0, refl, rw (let e : c' ≡ t = cc in e) at rc.1)
      each (suc (suc (suc n))) t at = absurd (cc)

  all_differ : Differs a a' → Differs b b' → Differs c c' → (n : ℕ) (s t : Tree) → IsBridgeAt (ring_of a b c) n s
      → IsBridgeAt (ring_of a' b' c') n t → s ≢ t
  all_differ da db dc zero s t at now = differs at now da
  all_differ da db dc (suc zero) s t at now = differs at now db
  all_differ da db dc (suc (suc zero)) s t at now = differs at now dc
  all_differ da db dc (suc (suc (suc n))) s t at now = absurd (cc)

second_loses : (a : Tree) {b : Tree} (c : Tree) {b' : Tree} → LosesPort b b' → IsAfterLosses (ring_of a b c)
    (ring_of a b' c)
second_loses a {b} c {b'} loses = record { segment = λ x. refl; bridge = each }
  where
    each : (n : ℕ) (t : Tree) → IsBridgeAt (ring_of a b' c) n t
        → (s : Tree) × IsBridgeAt (ring_of a b c) n s × ((t ≡ s) ⊎ LosesPort s t)
    each zero t at = (a, refl, inl ((cc)))
    each (suc zero) t at = (b, refl, inr (rw (let e : b' ≡ t = cc in e) at loses))
    each (suc (suc zero)) t at = (c, refl, inl ((cc)))
    each (suc (suc (suc n))) t at = absurd (cc)

abbrev Opens : ℕ → Tree → Type 0
Opens p s = test_at (p + 1 - 1) passes_frames s.ports ≡ true

all_open : {a b c : Tree} → IsSettled a → IsSettled b → IsSettled c → Opens 0 a → Opens 1 a → Opens 0 b → Opens 1 b
    → Opens 0 c → test_at 1 passes_frames c.ports ≡ false → IsOpen a b c
all_open {a} {b} {c} sa sb sc a0 a1 b0 b1 c0 c1 = record {
  a0 = passes_at (ring_of a b c) 0 0 a refl sa a0;
  a1 = passes_at (ring_of a b c) 0 1 a refl sa a1;
  b0 = passes_at (ring_of a b c) 1 0 b refl sb b0;
  b1 = passes_at (ring_of a b c) 1 1 b refl sb b1;
  c0 = passes_at (ring_of a b c) 2 0 c refl sc c0;
  c1 = closed_at (ring_of a b c) 2 1 refl c1;
}

-- ---- Hello messages

abbrev greets : List Happening
greets =
    record { event = events.Second; firings = greeting } ∷ record { event = events.Second; firings = [] } ∷ []

abbrev hears_again : ℕ → List Happening
hears_again port =
    record { event = events.Bpdu 1 (proposal 0 1152924433774542849 port 0); firings = repeating } ∷ []

abbrev root_later : Tree
root_later = come_to greets root_bridge

abbrev second_later : Tree
second_later = come_to (hears_again 32769) second_bridge

abbrev third_later : Tree
third_later = come_to (hears_again 32770) third_bridge

root_greets : AllHappen greets root_bridge
unfolding selected_ports selected_root best_path
root_greets = ((tt, refl), refl)

second_hears : AllHappen (hears_again 32769) second_bridge
unfolding selected_ports selected_root best_path
second_hears = (tt, refl)

third_hears : AllHappen (hears_again 32770) third_bridge
unfolding selected_ports selected_root best_path
third_hears = (tt, refl)

root_rests : SettledByLists → IsSettled root_later
unfolding selected_ports selected_root best_path
root_rests law = law root_later (off_at_two root_later MAIN refl refl refl) (off_at_two root_later SENDS refl refl refl)

second_rests : SettledByLists → IsSettled second_later
unfolding selected_ports selected_root best_path
second_rests law = law second_later (off_at_two second_later MAIN refl refl refl)
    (off_at_two second_later SENDS refl refl refl)

third_rests : SettledByLists → IsSettled third_later
unfolding selected_ports selected_root best_path
third_rests law = law third_later (off_at_two third_later MAIN refl refl refl)
    (off_at_two third_later SENDS refl refl refl)

now_open : SettledByLists → IsOpen root_later second_later third_later
unfolding selected_ports selected_root best_path
now_open law = all_open (root_rests law) (second_rests law) (third_rests law) refl
    refl refl refl refl refl

-- the port has sent a message at the last event
abbrev sent_at : ℕ → Tree → Bool
sent_at p s = test_at p (λ port. not (is_none port.slot)) s.ports

root_differs : Differs root_bridge root_later
unfolding selected_ports selected_root best_path
root_differs = (sent_at 0, refl, refl)

second_differs : Differs second_bridge second_later
unfolding selected_ports selected_root best_path
second_differs = ((λ s. not (sent_at 1 s)), refl, refl)

third_differs : Differs third_bridge third_later
unfolding selected_ports selected_root best_path
third_differs = ((λ s. not (sent_at 1 s)), refl, refl)

remains : RunsHappen → (history : List Happening) (s : Tree) → AllHappen history s → NoneSelects history
    → Remains s (come_to history s)
remains law history s all none = (map (λ h. h.event) history, lasts law history s all none)

abbrev at_first : Network
at_first = ring_of root_bridge second_bridge third_bridge

-- the laws of bridges that are needed
pub record Laws : Type 0 where
  pub lists : SettledByLists
  pub happens : RunsHappen
  pub roles : RolesLast
  pub reach : LastingIsReached
  pub loss : LosingKeepsTree
  pub in_tree : PassingIsInTree

pub laws_of : SettledByLists → RunsHappen → RolesLast → LastingIsReached → LosingKeepsTree → PassingIsInTree → Laws
laws_of lists happens roles reach loss in_tree =
    record { lists = lists; happens = happens; roles = roles; reach = reach; loss = loss; in_tree = in_tree }

module _ (laws : Laws) where
  is_network : IsNetwork at_first
  is_network = network _ _ _ _ _ _ _ _ _ (a_ring laws.lists laws.happens)

  rests : IsAtRest at_first
  rests = at_rest _ _ _ _ _ _ _ _ _ (a_ring laws.lists laws.happens)

  opened : IsOpen root_bridge second_bridge third_bridge
  opened = passing _ _ _ _ _ _ _ _ _ (a_ring laws.lists laws.happens)

  is_within : (now : Network) → IsKept at_first now → IsWithin at_first now
  is_within now kept = while_kept laws.roles laws.reach laws.loss laws.in_tree at_first now is_network kept

  root_remains : Remains root_bridge root_later
  root_remains = remains laws.happens greets root_bridge root_greets ((tt, refl), refl)

  third_remains : Remains third_bridge third_later
  third_remains = remains laws.happens (hears_again 32770) third_bridge third_hears (tt, refl)

  pub ring_lasts : RingCanLast
  ring_lasts =
      let now = ring_of root_later second_later third_later in
      let later = all_remain root_bridge second_bridge third_bridge root_later second_later
      third_later root_remains (remains laws.happens (hears_again 32769) second_bridge second_hears (tt, refl))
      third_remains in (
        at_first,
        now,
        record {
          network = is_network;
          at_rest = rests;
          later = later;
          within = is_within now (until_selection rests later);
          changed = all_differ root_bridge second_bridge third_bridge root_later second_later third_later root_differs
              second_differs third_differs;
          ring = round root_later second_later third_later (now_open laws.lists);
        },
      )

-- ---- a lost port

abbrev loses_second : Happening
loses_second = record { event = events.PortDown 2; firings = losing }

abbrev second_cut : Tree
second_cut = come_to (loses_second ∷ []) second_bridge

cut_happens : AreSwept (length losing) losing (direct (events.PortDown 2) second_bridge)
unfolding selected_ports selected_root best_path
cut_happens = refl

second_port : IsAtPlace second_bridge 1 (port_at second_bridge.ports 1)
unfolding selected_ports selected_root best_path
second_port = refl

not_root : is_root (port_at second_bridge.ports 1).role ≡ false
unfolding selected_ports selected_root best_path
not_root = refl

cut_loses : RunsHappen → LosesPort second_bridge second_cut
cut_loses law =
    let (settled, happens) = happens_so law loses_second second_bridge cut_happens in
    (2, length losing, settled, flushed losing 0, port_at second_bridge.ports 1, (second_port, not_root), happens)

cut_closed : test_at 1 passes_frames second_cut.ports ≡ false
unfolding selected_ports selected_root best_path
cut_closed = refl

-- the second bridge after the loss receives the root's Hello message
abbrev cut_later : Tree
cut_later = come_to (hears_again 32769) second_cut

cut_hears : AllHappen (hears_again 32769) second_cut
unfolding selected_ports selected_root best_path
cut_hears = (tt, refl)

cut_rests : SettledByLists → IsSettled second_cut
unfolding selected_ports selected_root best_path
cut_rests law = law second_cut (off_at_two second_cut MAIN refl refl refl) (off_at_two second_cut SENDS refl refl refl)

later_closed : test_at 1 passes_frames cut_later.ports ≡ false
unfolding selected_ports selected_root best_path
later_closed = refl

cut_differs : Differs second_bridge cut_later
unfolding selected_ports selected_root best_path
cut_differs = ((λ s. not (test_at 1 passes_frames s.ports)), refl, refl)

module _ (a b c a' b' c' : Tree) where
  all_keep : (through : List Tree) → KeepsOn through b b' → IsSettled a → IsSettled c → Remains a a' → Remains c c'
      → IsKept (ring_of a b c) (ring_of a' b' c')
  all_keep through kept sa sc ra rc = record { segment = λ x. refl; bridge = each }
    where
      each : (n : ℕ) (t : Tree) → IsBridgeAt (ring_of a' b' c') n t
          → (s : Tree) × (through : List Tree) × IsBridgeAt (ring_of a b c) n s × KeepsOn through s t
      each zero t at = let e : a' ≡ t = cc in (a, a ∷ [], refl, (refl, sa, inl (rw e at ra)))
      each (suc zero) t at = let e : b' ≡ t = cc in (b, through, refl, rw e at kept)
      each (suc (suc zero)) t at = let e : c' ≡ t = cc in (c, c ∷ [], refl, (refl, sc, inl (rw e at rc)))
      each (suc (suc (suc n))) t at = absurd (cc)

module _ (laws : Laws) where
  cut : (a b c : Tree) → IsKept at_first (ring_of a b c) → test_at 1 passes_frames b.ports ≡ false
      → Crosses (ring_of a b c) (spot 0 0) (spot 2 0) → IsCutRing at_first (ring_of a b c)
  cut a b c kept off crosses = record {
    network = is_network laws;
    at_rest = rests laws;
    within = is_within laws (ring_of a b c) kept;
    lost = spot 1 1;
    passed = (opened laws).b1;
    closed = closed_at (ring_of a b c) 1 1 refl off;
    x = spot 0 0;
    y = spot 2 0;
    crosses = crosses;
  }

  pub ring_is_cut : RingCanBeCut
  ring_is_cut =
      let later = second_loses root_bridge third_bridge
      (cut_loses laws.happens) in
      let was = opened laws in (
        at_first,
        (ring_of root_bridge second_cut third_bridge),
        later,
        cut root_bridge second_cut third_bridge (after_losses (rests laws) later) cut_closed
            (over_first root_bridge second_cut third_bridge was.a0 was.a1 was.c0),
      )

  pub ring_is_kept : RingCanBeKept
  ring_is_kept =
      let of_rest = (rests laws).settled in
      let kept = all_keep root_bridge second_bridge third_bridge root_later cut_later third_later
      (second_cut ∷ second_bridge ∷ []) (
        (
          refl,
          of_rest 1 second_bridge refl,
          inr
              (cut_loses laws.happens),
        ),
        cut_rests laws.lists,
        inl (remains laws.happens
            (hears_again 32769) second_cut cut_hears (tt, refl)),
      ) (of_rest 0 root_bridge refl)
      (of_rest 2 third_bridge refl)
      (root_remains laws) (third_remains laws) in
      let was = now_open laws.lists in (
        at_first,
        (ring_of root_later cut_later third_later),
        kept,
        all_differ root_bridge second_bridge third_bridge root_later cut_later third_later root_differs cut_differs
            third_differs,
        cut root_later cut_later third_later kept later_closed
            (over_first root_later cut_later third_later was.a0 was.a1 was.c0),
      )
