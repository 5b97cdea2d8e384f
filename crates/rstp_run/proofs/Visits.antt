-- What is known of a port before and after the passes of an event of a settled bridge: `IsFirst` before the first
-- pass, `IsTaken` after it, `IsYoung` after the second, `IsCalm` after selection in the third. And what a single rule
-- does to these facts.
-- What the rules of one port do in a pass to the facts of that port.
use Rattle.rstp_run.proofs.Basics.{clash, current_not_out, discard_off, down_off, Fact, if-is, informed, Off, On, parts}
use Rattle.rstp_run.proofs.Measure.{has_to_turn}
use Rattle.rstp_run.proofs.Names.{arith, asks, Bool, discard_effect, discard_guard, drop, false, Going, Information}
use Rattle.rstp_run.proofs.Names.{InformationRule, information_asks, is_current, is_out, is_received, is_select, List}
use Rattle.rstp_run.proofs.Names.{main_order, no, not, not-true, or_left, PortState, Rule, receive_effect}
use Rattle.rstp_run.proofs.Names.{receive_guard, refl, Tree, take, timing_in, tries_all, true, ℕ, ◌&&◌, ◌==◌, ◌||◌, ◌∷◌}
use Rattle.rstp_run.proofs.Names.{◌≡◌}
use Rattle.rstp_run.proofs.Own.{all_keep, own}
use Rattle.rstp_run.proofs.Places.{keep-any, Leads, leads-end, main_rest, next-any, Stage, Zone}
use Rattle.rstp_run.proofs.Quiet.{is_plain, own_stays, Still, spread_stays, still_of}
use Rattle.rstp_run.proofs.Resting.{kept_yet, untaken}
use Rattle.rstp_run.proofs.Names.info
use Rattle.rstp_run.proofs.Names.information_rule
use Rattle.rstp_run.proofs.Names.rules

-- the role is selected, nothing is to be taken over, and a message comes only to a port whose machine is current
abbrev IsFirstOf : Still → Type 0
IsFirstOf x =
    (On x.known.selected) × (Off x.known.reselect) × (Off x.received_message)
    × (Off x.known.update_info)
    × (On (is_received x.known.info_is) → On (is_current x.known.information))
    × (On x.received_bpdu → On x.enabled → On (is_current x.known.information))

-- No message waits, and the information machine is out exactly at ports that are down.
abbrev pub IsTakenOf : Still → Type 0
IsTakenOf x =
    (Off x.received_bpdu) × (Off x.received_message)
    × (Off (has_to_turn x.enabled (is_out x.known.information)))
    × (On (x.known.selected || x.known.reselect))
    × (On (is_received x.known.info_is) → On (is_current x.known.information))

-- besides, the role is selected
abbrev pub IsChosenOf : Still → Type 0
IsChosenOf x = IsTakenOf x × (Off x.known.reselect)

-- besides, received information is not to be replaced
abbrev IsHeldOf : Still → Type 0
IsHeldOf x = IsTakenOf x × (On (is_received x.known.info_is) → Off x.known.update_info)

-- besides, received information is not too old
abbrev IsYoungOf : Still → Type 0
IsYoungOf x = IsTakenOf x × (On (is_received x.known.info_is) → Off (x.known.received_info_while == 0))

abbrev pub IsCalmOf : Still → Type 0
IsCalmOf x = IsYoungOf x × (Off x.known.reselect)

abbrev pub IsFirst : Fact
IsFirst port = IsFirstOf (still_of port)

abbrev pub IsTaken : Fact
IsTaken port = IsTakenOf (still_of port)

abbrev pub IsChosen : Fact
IsChosen port = IsChosenOf (still_of port)

abbrev IsHeld : Fact
IsHeld port = IsHeldOf (still_of port)

abbrev pub IsYoung : Fact
IsYoung port = IsYoungOf (still_of port)

abbrev pub IsCalm : Fact
IsCalm port = IsCalmOf (still_of port)

-- a rule of information other than Update and Aged
abbrev pub is_idle : InformationRule → Bool
is_idle information_rule.Update = false
is_idle information_rule.Aged = false
is_idle _ = true

-- after Discard
abbrev IsHeard : Fact
IsHeard x = IsFirst x × (Off x.enabled → Off x.received_bpdu)

-- after Receive
abbrev IsFacedOf : Still → Type 0
IsFacedOf x =
    (Off x.received_bpdu)
    × (On x.received_message → (On x.enabled) × (On (is_current x.known.information)))
    × (On x.known.selected) × (Off x.known.update_info)
    × (On (is_received x.known.info_is) → On (is_current x.known.information))

abbrev IsFaced : Fact
IsFaced port = IsFacedOf (still_of port)

-- after Disabled, and after Drop
abbrev IsDownOf : Still → Type 0
IsDownOf x =
    (Off x.received_bpdu)
    × (On x.received_message → (On (is_current x.known.information)) × (Off x.known.update_info))
    × (Off x.enabled → On (is_out x.known.information))
    × (On (x.known.selected || x.known.reselect))
    × (On (is_received x.known.info_is) → On (is_current x.known.information))

abbrev IsDown : Fact
IsDown port = IsDownOf (still_of port)

-- after Enabled, Update, Aged and rules that take a message
abbrev IsOpenOf : Still → Type 0
IsOpenOf x =
    (Off x.received_bpdu)
    × (On x.received_message → (On (is_current x.known.information)) × (Off x.known.update_info))
    × (Off (has_to_turn x.enabled (is_out x.known.information)))
    × (On (x.known.selected || x.known.reselect))
    × (On (is_received x.known.info_is) → On (is_current x.known.information))

abbrev IsOpen : Fact
IsOpen port = IsOpenOf (still_of port)

-- a port whose message was taken
abbrev IsFree : Fact
IsFree port = IsOpen port × (Off port.received_message)

-- some rules that take a message have been tried
abbrev IsTried : Fact → Fact
IsTried off port = IsOpen port × (On port.received_message → off port)

abbrev Off1 : Fact
Off1 port = Off (info.superior_guard port)

abbrev Off2 : Fact
Off2 port = Off1 port × (Off (info.repeated_guard port))

abbrev Off3 : Fact
Off3 port = Off2 port × (Off (info.inferior_guard port))

abbrev Off4 : Fact
Off4 port = Off3 port × (Off (info.not_designated_guard port))

-- ---- truth values

out_not_current : (i : Information) → On (is_out i) → On (is_current i) → ⊥
out_not_current i h k = grind arith

-- the machine was not out, and still isn't
same_turn : (e o : Bool) → Off o → Off (has_to_turn e o) → Off (has_to_turn e false)
same_turn e o h k = grind arith

turned : (e o : Bool) → On (not e && not o) → Off (has_to_turn e o) → ⊥
turned e o h k = grind arith

turned_up : (e o : Bool) → On (o && e) → Off (has_to_turn e o) → ⊥
turned_up e o h k = grind arith

-- the second pass, after Update
chosen_held : (o s u r : Bool) → Off (not o && s && u) → Off o → On (s || r) → Off r → Off u
chosen_held o s u r g h k n = grind arith

receive_off : (b e m : Bool) → Off (b && e && not m) → Off m → (Off e → Off b) → Off b
receive_off b e m g h k = grind arith

up_turn : (e : Bool) → On e → Off (has_to_turn e false)
up_turn e h = grind arith

up_off : (e o : Bool) → Off (o && e) → (Off e → On o) → Off (has_to_turn e o)
up_off e o g h = grind arith

-- ---- the rules of one port

module _ (port : PortState) where
  -- ---- rules that a port with this fact never meets

  waits : On (info.may_take port) → On port.received_message
  waits h = (parts (parts h).0).1

  pub receive-off : IsTaken port → On (receive_guard port) → ⊥
  receive-off h g =
      clash h.0
      (parts (parts g).0).0

  -- ---- Discard, Update and Aged

  pub discard-taken : IsTaken port → IsTaken (discard_effect port)
  discard-taken h = (refl, refl, h.2, h.3, h.4)

  update_out : On (info.update_guard port) → Off (is_out port.information)
  update_out g =
      not-true (is_out port.information)
      (parts (parts g).0).0

  pub update-taken : On (info.update_guard port) → IsTaken port
      → IsTaken (info.update_effect port)
  update-taken g h = (
    h.0,
    h.1,
    same_turn port.enabled _ (update_out g) h.2,
    h.3,
    no,
  )

  aged_current : On (info.aged_guard port) → On (is_current port.information)
  aged_current g = (parts (parts (parts (parts g).0).0).0).0

  pub aged-taken : On (info.aged_guard port) → IsTaken port → IsTaken (info.aged_effect port)
  aged-taken g h = (
    h.0,
    h.1,
    same_turn port.enabled _ (current_not_out port.information (aged_current g)) h.2,
    refl,
    no,
  )

  update-held : Off (info.update_guard port) → IsChosen port → IsHeld port
  update-held g (h, none) = (
    h,
    λ r. chosen_held _ port.selected port.update_info port.reselect g
        (current_not_out port.information (h.4 r)) h.3 none,
  )

  -- the second pass, after Aged
  aged-young : Off (info.aged_guard port) → IsHeld port → IsYoung port
  aged-young g (h, free) = (
    h,
    λ r. kept_yet _ _ _
        port.update_info port.received_message g (h.4 r) r (free r) h.1,
  )

  -- later passes
  pub aged-off : IsYoung port → On (info.aged_guard port) → ⊥
  aged-off (h, young) g =
      let (second, old) = parts (parts (parts g).0).0 in
      clash (young (parts second).1) old

  -- ---- the first pass

  discard-fires : IsFirst port → IsHeard (discard_effect port)
  discard-fires h = ((h.0, h.1, refl, h.3, h.4, no), λ e. refl)

  discard-stays : Off (discard_guard port) → IsFirst port → IsHeard port
  discard-stays g h = (
    h,
    discard_off port.received_bpdu (not (port.edge_delay_while == 3)) port.enabled g,
  )

  receive-fires : On (receive_guard port) → IsHeard port → IsFaced (receive_effect port)
  receive-fires g (h, down) =
      let (came, up) = parts (parts g).0 in
      (refl, λ m. (up, h.5 came up), h.0, h.3, h.4)

  receive-stays : Off (receive_guard port) → IsHeard port → IsFaced port
  receive-stays g (h, down) = (
    receive_off port.received_bpdu port.enabled port.received_message g h.2 down,
    clash h.2,
    h.0,
    h.3,
    h.4,
  )

  disabled-fires : IsFaced port → IsDown (info.disabled_effect port)
  disabled-fires h = (h.0, no, λ e. refl, refl, no)

  disabled-stays : Off (info.disabled_guard port) → IsFaced port → IsDown port
  disabled-stays g h = (
    h.0,
    λ m. ((h.1 m).1, h.3),
    down_off port.enabled (is_out port.information) g,
    or_left port.selected port.reselect h.2,
    h.4,
  )

  drop-fires : IsDown port → IsDown (info.drop_effect port)
  drop-fires h = (h.0, no, h.2, h.3, h.4)

  enabled-fires : On (info.enabled_guard port) → IsDown port
      → IsOpen (info.enabled_effect port)
  enabled-fires g h = (
    h.0,
    λ m. absurd (out_not_current port.information (parts g).0 (h.1 m).0),
    up_turn port.enabled (parts g).1,
    refl,
    no,
  )

  enabled-stays : Off (info.enabled_guard port) → IsDown port → IsOpen port
  enabled-stays g h = (h.0, h.1, up_off port.enabled _ g h.2, h.3, h.4)

  update-open : On (info.update_guard port) → IsOpen port → IsOpen (info.update_effect port)
  update-open g h = (
    h.0,
    λ m. (refl, refl),
    same_turn port.enabled _ (update_out g) h.2,
    h.3,
    no,
  )

  aged-open : On (info.aged_guard port) → IsOpen port → IsOpen (info.aged_effect port)
  aged-open g h = (
    h.0,
    clash (not-true port.received_message (parts g).1),
    same_turn port.enabled _ (current_not_out port.information (aged_current g)) h.2,
    refl,
    no,
  )

  free-taken : IsFree port → IsTaken port
  free-taken (h, none) = (h.0, none, h.2, h.3, h.4)

  superior-fires : On (info.superior_guard port) → IsOpen port
      → IsFree (info.superior_effect port)
  superior-fires g h =
      let current = (parts (parts (parts g).0).0).0 in
      informed (λ y. IsFree (info.handled (info.with_info_time y))) port.message
      (info.with_superior_flags (info.with_change_flags (info.with_proposal port)))
      (λ vector times. ((h.0, no, h.2, refl, λ r. current), refl))

  repeated-fires : IsOpen port → IsFree (info.repeated_effect port)
  repeated-fires h = ((h.0, no, h.2, h.3, h.4), refl)

  inferior-fires : IsOpen port → IsFree (info.inferior_effect port)
  inferior-fires h =
      let free : IsFree (record port { received_message = false }) = ((h.0, no, h.2, h.3, h.4), refl) in
      if-is IsFree (info.rst_has 0x10 port.message) _ _ free free

  not_designated-fires : IsOpen port → IsFree (info.not_designated_effect port)
  not_designated-fires h =
      let free : IsFree (record port { received_message = false }) = ((h.0, no, h.2, h.3, h.4), refl) in
      if-is (λ y. IsFree (info.handled (info.with_change_flags y)))
      (port.point_to_point && info.message_has 0x40 port.message) _ _ free free

  other-fires : IsOpen port → IsFree (info.other_effect port)
  other-fires h = ((h.0, no, h.2, h.3, h.4), refl)

  -- a rule takes each message of a port whose machine is current
  all-tried : Off (info.other_guard port) → IsTried Off4 port → IsTaken port
  all-tried g (h, off) = free-taken (h, go port.received_message refl)
    where
      go : (b : Bool) → port.received_message ≡ b → Off port.received_message
      go false is = is
      go true is =
          let o = off is in
          let ready = h.1 is in
          untaken port o.0.0.0 o.0.0.1 o.0.1 o.1 g ready.0 ready.1

pub idle-off : (rule : InformationRule) (port : PortState) → On (is_idle rule) → IsTaken port
    → On (information_asks rule port) → ⊥
idle-off information_rule.Disabled port is h g = turned port.enabled (is_out port.information) g h.2
idle-off information_rule.Drop port is h g =
    clash h.1 (parts g).1
idle-off information_rule.Enabled port is h g = turned_up port.enabled (is_out port.information) g h.2
idle-off information_rule.Update port is h g = no is
idle-off information_rule.Aged port is h g = no is
idle-off _ port is h g =
    clash h.1 (waits port (parts g).0)

tried-free : (off : Fact) (port : PortState) → IsFree port → IsTried off port
tried-free off port (h, none) = (h, clash none)

-- a port's facts while its rules are tried; V is known of earlier ports, U of later ones
module _ (V U : Still → Type 0) (c n limit p : ℕ) where
  abbrev At : (Still → Type 0) → Fact
  At H x = H (still_of x)

  -- the visit goes on with these rules, from the fact H to the fact E
  abbrev Goes : Fact → List Rule → Fact → Type 0
  Goes H list E = Leads (At V) (At U) c n limit p H list E

  next : {H E : Fact} (K : Fact) {rule : Rule} {rest : List Rule} → Off (is_select rule)
      → ((s : Tree) (x : PortState) → Off (asks rule s p x) → H x → K x)
      → ((s : Tree) (x : PortState) → On (asks rule s p x) → H x → K (own rule (timing_in s) x)) → Goes K rest E
      → Goes H (rule ∷ rest) E
  next K other rests fires later =
      next-any (At V) (At U) c n limit p (spread_stays V) (spread_stays U) K other rests fires later

  plainly : {E : Fact} (H : Still → Type 0) (m : ℕ) {list : List Rule} → On (all_keep is_plain (take m list))
      → Goes (At H) (drop m list) E → Goes (At H) list E
  plainly H m ok later =
      keep-any (At V) (At U) c n limit p (spread_stays V) (spread_stays U) (At H) is_plain
      (λ rule s x other is on. own_stays H rule (timing_in s) x is) m ok later

  -- ---- the first pass

  take_first : Goes IsOpen (drop 15 main_order) IsTaken
  take_first =
      next (IsTried Off1) refl (λ s x off h. (h, λ m. off))
      (λ s x on h. tried-free Off1 (info.superior_effect x) (superior-fires x on h))
      (next (IsTried Off2) refl (λ s x off h. (h.0, λ m. (h.1 m, off)))
      (λ s x on h. tried-free Off2 (info.repeated_effect x) (repeated-fires x h.0))
      (next (IsTried Off3) refl (λ s x off h. (h.0, λ m. (h.1 m, off)))
      (λ s x on h. tried-free Off3 (info.inferior_effect x) (inferior-fires x h.0))
      (next (IsTried Off4) refl (λ s x off h. (h.0, λ m. (h.1 m, off)))
      (λ s x on h. tried-free Off4 (info.not_designated_effect x) (not_designated-fires x h.0))
      (next IsTaken refl (λ s. all-tried)
      (λ s x on h. free-taken (info.other_effect x) (other-fires x h.0))
      (plainly IsTakenOf 34 refl (leads-end (At V) (At U) c n limit p))))))

  begin_first : Goes IsFirst main_rest IsTaken
  begin_first =
      next IsHeard refl (λ s. discard-stays) (λ s x on. discard-fires x)
      (next IsFaced refl (λ s. receive-stays) (λ s. receive-fires)
      (plainly IsFacedOf 7 refl
      (next IsDown refl (λ s. disabled-stays) (λ s x on. disabled-fires x)
      (next IsDown refl (λ s x off h. h) (λ s x on. drop-fires x)
      (next IsOpen refl (λ s. enabled-stays) (λ s. enabled-fires)
      (next IsOpen refl (λ s x off h. h) (λ s. update-open)
      (next IsOpen refl (λ s x off h. h) (λ s. aged-open) take_first)))))))

  -- A is known before Update, B between Update and Aged, and C after Aged
  module _ (A B C : Still → Type 0) (taken_a : (x : PortState) → At A x → IsTaken x)
      (taken_c : (x : PortState) → At C x → IsTaken x) (discards : (x : PortState) → At A x → At A (discard_effect x))
      (update_rests : (x : PortState) → Off (info.update_guard x) → At A x → At B x)
      (update_fires : (x : PortState) → On (info.update_guard x) → At A x → At B (info.update_effect x))
      (aged_rests : (x : PortState) → Off (info.aged_guard x) → At B x → At C x)
      (aged_fires : (x : PortState) → On (info.aged_guard x) → At B x → At C (info.aged_effect x)) where
    -- a rule of information that isn't enabled
    idles : {E : Fact} (H : Still → Type 0) → ((x : PortState) → At H x → IsTaken x) → (rule : InformationRule)
        {rest : List Rule} → On (is_idle rule) → Goes (At H) rest E → Goes (At H) (rules.Information rule ∷ rest) E
    idles H taken rule idle later =
        next (At H) refl (λ s x off k. k) (λ s x on k. absurd (idle-off rule x idle (taken x k) on)) later

    take_later : Goes (At C) (drop 15 main_order) (At C)
    take_later =
        idles C taken_c information_rule.Superior refl (idles C taken_c information_rule.Repeated refl
        (idles C taken_c information_rule.Inferior refl (idles C taken_c information_rule.NotDesignated refl
        (idles C taken_c information_rule.Other refl (plainly C 34 refl (leads-end (At V) (At U) c n limit p))))))

    visit_later : Goes (At A) main_rest (At C)
    visit_later =
        next (At A) refl (λ s x off h. h) (λ s x on. discards x)
        (next (At A) refl (λ s x off h. h) (λ s x on h. absurd (receive-off x (taken_a x h) on))
        (plainly A 7 refl (idles A taken_a information_rule.Disabled refl (idles A taken_a information_rule.Drop refl
        (idles A taken_a information_rule.Enabled refl (next (At B) refl (λ s. update_rests) (λ s. update_fires)
        (next (At C) refl (λ s. aged_rests) (λ s. aged_fires) take_later)))))))

pub visit-first : (n limit p : ℕ) (g : Going) → Stage 0 n (Zone IsTaken IsFirst IsFirst p) limit g
    → Stage 0 n (Zone IsTaken IsTaken IsFirst p) limit (tries_all main_rest p limit g)
visit-first n limit p = (begin_first IsTakenOf IsFirstOf 0 n limit p).walk

-- the second pass
pub visit-second : (n limit p : ℕ) (g : Going) → Stage 1 n (Zone IsYoung IsChosen IsChosen p) limit g
    → Stage 1 n (Zone IsYoung IsYoung IsChosen p) limit (tries_all main_rest p limit g)
visit-second n limit p =
    (visit_later IsYoungOf IsChosenOf 1 n limit p IsChosenOf IsHeldOf IsYoungOf (λ x a. a.0) (λ x y. y.0)
    (λ x a. (discard-taken x a.0, a.1)) update-held
    (λ x on a. (update-taken x on a.0, no)) aged-young
    (λ x on b. (aged-taken x on b.0, no))).walk

-- all later passes
pub visit-later : (c n limit p : ℕ) (g : Going) → Stage c n (Zone IsCalm IsCalm IsCalm p) limit g
    → Stage c n (Zone IsCalm IsCalm IsCalm p) limit (tries_all main_rest p limit g)
visit-later c n limit p =
    (visit_later IsCalmOf IsCalmOf c n limit p IsCalmOf IsCalmOf IsCalmOf (λ x a. a.0.0) (λ x a. a.0.0)
    (λ x a. ((discard-taken x a.0.0, a.0.1), a.1)) (λ x off a. a)
    (λ x on a. ((update-taken x on a.0.0, no), a.1)) (λ x off a. a)
    (λ x on a. absurd (aged-off x a.0 on))).walk
