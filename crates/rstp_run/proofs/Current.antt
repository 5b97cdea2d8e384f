-- While all ports' roles are selected, the bridge's root and roles are those of its present information.
-- If Select doesn't fire, each port keeps its selected role. In a settled bridge that is the port's role.
use Rattle.rstp_run.proofs.Basics.{clash, informed, Off, On, parts, Relation}
use Rattle.rstp_run.proofs.Candidates.{best_stays, best_told, Remains, root_stays}
use Rattle.rstp_run.proofs.Each.{AtAll, at_each, at_selected, Each, each_as, each_back, each_flip, each_selected}
use Rattle.rstp_run.proofs.Kept.{at_start, IsKept, information_keeps, Keeps, keeps_quiet}
use Rattle.rstp_run.proofs.Names.{[], ap, arith, Bool, best_path, both, bridge_address, Comes, cond, designated_times}
use Rattle.rstp_run.proofs.Names.{designated_vector, direct, Event, enumerate_from, false, filter_map, handled, InfoIs}
use Rattle.rstp_run.proofs.Names.{InformationRule, IsReached, IsSettled, information_asks, information_does, inl, inr}
use Rattle.rstp_run.proofs.Names.{is_less, is_received, is_through, List, least_is_best, least_of_candidates, None}
use Rattle.rstp_run.proofs.Names.{nat_tests, no, not, Option, own_root, Path, PortSettings, PortState, path_at}
use Rattle.rstp_run.proofs.Names.{ports_from, Role, Root, refl, role_by, root_along, Settings, Some, same_times}
use Rattle.rstp_run.proofs.Names.{same_vector, selected_ports, slice_get, start, subst, sym, Times, Tree, updates_by}
use Rattle.rstp_run.proofs.Names.{Vector, with_change_flags, with_info_time, with_proposal, with_superior_flags, ℕ}
use Rattle.rstp_run.proofs.Names.{◌&&◌, ◌+◌, ◌==◌, ◌∙◌, ◌∷◌, ◌≡◌, ◌⊎◌}
use Rattle.rstp_run.proofs.Quiet.{answer_quiet, IsQuiet, Known, known_of}
use Rattle.rstp_run.proofs.Resting.{has_selected, is_selected}
use Rattle.rstp_run.proofs.Walk.{comes_holds, direct_holds, lasting_holds, Moves, Walks}
use Rattle.rstp_run.specs.Lasting.{IsSelection, Lasts}
use Rattle.rstp_state.specs.Selection.{own_path, selected_root}
use Rattle.std.proofs.Common.{min}
use Rattle.rstp_run.proofs.Names.info_is
use Rattle.rstp_run.proofs.Names.information_rule

-- ---- a port's choice

pub record Choice : Type 0 where
  pub info_is : InfoIs
  pub update_info : Bool
  pub identifier : ℕ
  pub cost : ℕ
  pub selected_role : Role
  pub designated_priority : Vector
  pub designated_times : Times
  pub port_priority : Vector
  pub port_times : Times

abbrev pub choice_in : Known → Choice
choice_in known = record {
  info_is = known.info_is;
  update_info = known.update_info;
  identifier = known.identifier;
  cost = known.cost;
  selected_role = known.selected_role;
  designated_priority = known.designated_priority;
  designated_times = known.designated_times;
  port_priority = known.port_priority;
  port_times = known.port_times;
}

abbrev choice_of : PortState → Choice
choice_of port = choice_in (known_of port)

-- the candidate at this place
abbrev pub path_in : Settings → ℕ → Choice → Option Path
path_in s n c =
    cond (is_received c.info_is && not (bridge_address c.port_priority.bridge == bridge_address s.identifier))
    (Some (record {
      vector = record c.port_priority { cost = min (c.port_priority.cost + c.cost) 4294967295 };
      port = c.identifier;
      place = Some n;
    })) None

-- role, pending update, and the vector and times to send are those that selection gives; the root port was told
abbrev pub IsChosenOf : Settings → Root → Bool → Choice → Type 0
IsChosenOf s root through c =
    let better = is_less (designated_vector s root c.identifier) c.port_priority in
    (c.selected_role ≡ role_by c.info_is through better (bridge_address c.port_priority.bridge == bridge_address
    s.identifier))
    × (c.update_info ≡ updates_by c.info_is through better
    (same_vector c.port_priority (designated_vector s root c.identifier)
    && same_times c.port_times (designated_times s root)))
    × (c.designated_priority ≡ designated_vector s root c.identifier)
    × (c.designated_times ≡ designated_times s root) × (On through → On (is_received c.info_is))

-- Update fired
abbrev updated : Choice → Choice
updated c = record c {
  info_is = info_is.Mine;
  update_info = false;
  port_priority = c.designated_priority;
  port_times = c.designated_times;
}

abbrev IsUpdate : Choice → Choice → Type 0
IsUpdate a b = On a.update_info × (b ≡ updated a)

vector_itself : (v : Vector) → On (same_vector v v)
vector_itself v = grind (arith, nat_tests)

times_itself : (t : Times) → On (same_times t t)
times_itself t = grind (arith, nat_tests)

-- a port whose update is pending becomes designated, and isn't the root port
role_of_update : (i : InfoIs) (t b o s : Bool) → On (updates_by i t b s) → role_by i t b o ≡ role_by info_is.Mine t b o
role_of_update i t b o s h = grind arith

not_through : (i : InfoIs) (t b s : Bool) → On (updates_by i t b s) → (On t → On (is_received i)) → Off t
not_through i t b s h r = grind arith

module _ (s : Settings) (root : Root) (through : Bool) (c d : Choice) (is : IsChosenOf s root through c)
    (up : IsUpdate c d) where
  off_path : Off through
  off_path = not_through c.info_is through _ _ (sym is.1 ∙ up.0) is.4

  updated_chosen : IsChosenOf s root through d
  updated_chosen =
      let vector = ap (same_vector c.designated_priority) (sym is.2) ∙ vector_itself c.designated_priority in
      let times = ap (same_times c.designated_times) (sym is.3) ∙ times_itself c.designated_times in
      subst (IsChosenOf s root through) (sym up.1) (
        is.0 ∙ role_of_update c.info_is through _ _ _ (sym is.1 ∙ up.0),
        ap not (sym (both _ _ vector times)),
        is.2,
        is.3,
        clash off_path,
      )

-- if the port's role is still selected, its choice is the same, or Update fired
abbrev Turns : Relation
Turns x y = On y.selected → On x.selected × ((choice_of y ≡ choice_of x) ⊎ IsUpdate (choice_of x) (choice_of y))

turns_quiet : (x y : PortState) → IsQuiet x y → Turns x y
turns_quiet x y h s = (sym (ap (λ k. k.selected) h) ∙ s, inl (ap choice_in h))

information_turns : (rule : InformationRule) (x : PortState) → On (information_asks rule x)
    → Turns x (information_does rule x)
information_turns information_rule.Disabled x g h = no h
information_turns information_rule.Enabled x g h = no h
information_turns information_rule.Update x g h = (h, inr ((parts g).1, refl))
information_turns information_rule.Aged x g h = no h
information_turns information_rule.Superior x g h =
    informed (λ y. Turns x (handled (with_info_time y))) x.message
    (with_superior_flags (with_change_flags (with_proposal x))) (λ vector times. no) h
information_turns information_rule.Inferior x g h =
    turns_quiet x (information_does information_rule.Inferior x) (answer_quiet information_rule.Inferior x refl) h
information_turns information_rule.NotDesignated x g h =
    turns_quiet x (information_does information_rule.NotDesignated x)
    (answer_quiet information_rule.NotDesignated x refl) h
information_turns rule x g h = (h, inl refl)

-- ---- a bridge

abbrev AllSelected : List PortState → Type 0
AllSelected = AtAll (λ q x. On x.selected)

abbrev AreChosen : Settings → Root → Path → List PortState → Type 0
AreChosen s root path = AtAll (λ q x. IsChosenOf s root (is_through path q) (choice_of x))

pub record IsCurrent (s : Tree) : Type 0 where
  pub root : s.root ≡ root_along s.settings s.ports (best_path s.settings s.ports)
  pub ports : AreChosen s.settings s.root (best_path s.settings s.ports) s.ports

abbrev StaysCurrent : Tree → Type 0
StaysCurrent s = AllSelected s.ports → IsCurrent s

-- a port's choice remains the candidate that it was, or Update fired
still : (s : Settings) (root : Root) (path : Path) (q : ℕ) (x y : PortState) → On y.selected
    → IsChosenOf s root (is_through path q) (choice_of x) → Turns x y
    → Remains s path q x y × IsChosenOf s root (is_through path q) (choice_of y)
still s root path q x y all c h = elim (h all).1 [
  | inl same ↦ (
    inl (ap (path_in s q) same, ap (λ (d : Choice). d.port_times) same),
    subst (IsChosenOf s root (is_through path q)) (sym same) c,
  )
  | inr up ↦ (
    inr (ap (path_in s q) up.1, off_path s root (is_through path q) (choice_of x) (choice_of y) c up),
    updated_chosen s root (is_through path q) (choice_of x) (choice_of y) c up,
  )
]

turned : (s : Tree) (ports : List PortState) → Each Turns s.ports ports → StaysCurrent s
    → StaysCurrent (record s { ports = ports })
turned s ports h k all =
    let cur = k (at_each (λ q x. On x.selected) (λ q x. On x.selected) ports s.ports
    (each_as (λ q y x. On y.selected → On x.selected) ports s.ports (each_flip (λ q. Turns) s.ports ports h)
    (λ q y x _ _ turns e. (turns e).0)) all) in
    let path = best_path s.settings s.ports in
    let now = each_as (λ q x y. Remains s.settings path q x y × IsChosenOf s.settings s.root (is_through path q)
    (choice_of y)) s.ports ports h (λ q x y at to. still s.settings s.root path q x y (all q y to) (cur.ports q x at))
    in
    let remains = each_as (Remains s.settings path) s.ports ports now (λ q x y _ _ r. r.0) in
    let best = best_stays s.settings path s.ports ports refl remains in
    record {
      root = cur.root ∙ sym (rw best (root_stays s.settings path s.ports ports remains));
      ports = rw best (λ q y at. (each_back _ s.ports ports now q y at).2.1);
    }

selected_now : (s : Settings) (ports : List PortState)
    → (selected_root s ports ≡ root_along s (selected_ports s ports) (best_path s (selected_ports s ports)))
    × AreChosen s (selected_root s ports) (best_path s (selected_ports s ports)) (selected_ports s ports)
unfolding selected_root
selected_now s ports =
    let path = best_path s ports in
    let remains = each_selected (Remains s path) s ports (λ q x at. inl (refl, refl)) in
    let best : best_path s (selected_ports s ports) ≡ path = best_stays s path ports (selected_ports s ports) refl
    remains in (
      sym (rw best (root_stays s path ports (selected_ports s ports) remains)),
      rw best (at_selected (λ q x. Unit {0})
          (λ q x. IsChosenOf s (selected_root s ports) (is_through path q) (choice_of x)) s ports
          (λ q x at any. (refl, refl, refl, refl, λ t. (parts (best_told s ports q x at t)).0)) (λ q x at. tt)),
    )

current_walks : Walks StaysCurrent (λ s. Turns)
current_walks = record {
  moves = record {
    by = turned;
    quiet = λ s. turns_quiet;
    informed = λ s. information_turns;
    second = λ s x h. (h, inl refl);
  };
  chosen = λ s p k all. let now = selected_now s.settings s.ports in record { root = now.0; ports = now.1 };
}

-- ---- the start

none_told : (s : Settings) (n m : ℕ) (ports : List PortSettings)
    → filter_map (path_at s) (enumerate_from n (ports_from m s ports)) ≡ []
none_told s n m [] = refl
none_told s n m (x ∷ xs) = none_told s (n + 1) (m + 1) xs

own_is_best : (s : Settings) (ports : List PortSettings) → best_path s (ports_from 1 s ports) ≡ own_path s
own_is_best s ports =
    rw (none_told s 0 1 ports) at
    (sym (least_is_best s (ports_from 1 s ports) _ (least_of_candidates s (ports_from 1 s ports))))

start_current : (s : Settings) (ports : List PortSettings) → StaysCurrent (start s ports)
start_current s ports all = record {
  root = rw (own_is_best s ports) refl;
  ports = rw (own_is_best s ports)
      (at_start (λ q x. IsChosenOf s (own_root s) (is_through (own_path s) q) (choice_of x))
      1 s ports (λ q x m. (refl, refl, refl, refl, no)));
}

-- ---- settled bridges

pub comes_current : (history : List Event) (settings : Settings) (ports : List PortSettings) (s : Tree)
    → Comes history (start settings ports) s → IsKept s.ports → IsSettled s → IsCurrent s
comes_current history settings ports s comes kept settled =
    comes_holds StaysCurrent (λ s. Turns) current_walks history (start settings ports) s comes
    (start_current settings ports) (is_selected s kept settled)

pub selection_current : (s : Tree) → IsKept s.ports → IsSettled s → IsCurrent s → IsSelection s
unfolding selected_root
selection_current s kept settled current = record {
  root = current.root;
  roles = λ p port at. has_selected s kept settled p port at ∙ (current.ports p port at).0;
}

-- each port has the selected role that the port at its place has among these
abbrev SameRoles : List PortState → List PortState → Type 0
SameRoles first =
    AtAll (λ q y. (x : PortState) × (slice_get first q ≡ Some x) × (y.selected_role ≡ x.selected_role))

keeping : (first : List PortState) → Moves (λ s. SameRoles first s.ports) (λ s. Keeps)
keeping first = record {
  by = λ s ports h k q y at.
      let (x, at_x, kept) = each_back (λ q. Keeps) s.ports ports h q y at in
      let was = k q x at_x in
      (was.0, was.1, kept.1 ∙ was.2);
  quiet = λ s. keeps_quiet;
  informed = λ s. information_keeps;
  second = λ s x. (λ h. h, refl, refl);
}

same_roles : (events : List Event) (s t : Tree) → Lasts events s t → SameRoles s.ports t.ports
same_roles [] s t lasts = rw lasts (λ q x at. (x, at, refl))
same_roles (event ∷ earlier) s t lasts =
    let P : Tree → Type 0 = λ u. SameRoles s.ports u.ports in
    lasting_holds P (λ u. Keeps) (keeping s.ports) (lasts.5).firings (direct event lasts.0) t (lasts.5).run lasts.6
    (direct_holds P (λ u. Keeps) (keeping s.ports) event lasts.0 (same_roles earlier s lasts.0 lasts.4))

pub lasting_reached : (events : List Event) (s t : Tree) → IsReached s → Lasts events s t → IsReached t
lasting_reached [] s t reached lasts = rw lasts reached
lasting_reached (event ∷ earlier) s t reached lasts =
    let r = lasting_reached earlier s lasts.0 reached lasts.4 in
    (r.0, r.1, (event ∷ r.2.0, (lasts.0, lasts.1, lasts.2, lasts.3, r.2.1, lasts.5)))

pub lasting_role : (events : List Event) (s t : Tree) → IsKept s.ports → IsKept t.ports → IsSettled s → IsSettled t
    → Lasts events s t → (p : ℕ) (b : PortState) → slice_get t.ports p ≡ Some b
    → (a : PortState) × (slice_get s.ports p ≡ Some a) × (b.role ≡ a.role)
lasting_role events s t kept_s kept_t settled_s settled_t lasts p b at =
    let (a, at_a, same) = same_roles events s t lasts p b at in
    (a, at_a, has_selected t kept_t settled_t p b at ∙ same ∙ sym (has_selected s kept_s settled_s p a at_a))
