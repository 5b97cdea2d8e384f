-- The rules of the receive, migration, detection and transmit machines, and Update, lower the second level of the
-- measure and don't raise the first. All other rules of the information machine lower the first level.
use Rattle.bpdu_wire.specs.Numbers.{AGREEMENT, LEARNING}
use Rattle.rstp_run.proofs.Basics.{current_not_out, if-is, informed, not_zero, Off, On, parts}
use Rattle.rstp_run.proofs.Measure.{acting, changing-le, going_on-le, has_to_turn, Lowers, may_turn_edge, migrating}
use Rattle.rstp_run.proofs.Measure.{selecting, waiting-le}
use Rattle.rstp_run.proofs.Names.{arith, Bool, Bpdu, discard_guard, eqb-true, false, finds_no_bridge, Information}
use Rattle.rstp_run.proofs.Names.{InformationRule, information_asks, information_does, is_none, is_out, is_received}
use Rattle.rstp_run.proofs.Names.{Migration, MigrationRule, migration_asks, no, not, not-false, not-true, or_parts}
use Rattle.rstp_run.proofs.Names.{PortState, ReceiveRule, receive_asks, receive_does, receive_guard, sym, Timing}
use Rattle.rstp_run.proofs.Names.{TransmitRule, transmit_asks, true, ℕ, ◌&&◌, ◌*◌, ◌+◌, ◌<◌, ◌==◌, ◌||◌, ◌≡◌, ◌≤◌}
use Rattle.rstp_run.proofs.Quiet.{is_update}
use Rattle.rstp_run.proofs.Totals.{if_so, if_so-le}
use Rattle.rstp_run.specs.BridgeDetection.{edge_guard, not_edge_guard}
use Rattle.rstp_run.specs.PortReceive.{is_rst}
use Rattle.rstp_state.specs.Port.{is_checking, is_selecting, is_sensing}
use Rattle.rstp_run.proofs.Names.bpdus
use Rattle.rstp_run.proofs.Names.detection_rule
use Rattle.rstp_run.proofs.Names.info
use Rattle.rstp_run.proofs.Names.information_rule
use Rattle.rstp_run.proofs.Names.migration_rule
use Rattle.rstp_run.proofs.Names.receive_rule
use Rattle.rstp_run.proofs.Names.rules
use Rattle.rstp_run.proofs.Names.sends
use Rattle.rstp_run.proofs.Names.transmit_rule

-- ---- receive

migrating-heard : (state : Migration) (waits heard later : Bool)
    → migrating state waits later ≤ migrating state waits heard + 4
migrating-heard state waits heard later = grind arith

migrating-unheard : (state : Migration) (waits heard : Bool)
    → migrating state waits false ≤ migrating state waits heard
migrating-unheard state waits heard = grind arith

pub discards : (w : ℕ) (heard at_start enabled : Bool) → 1 ≤ w → On ((heard || not at_start) && not enabled)
    → 1 ≤ if_so w heard + if_so 1 (not at_start && not enabled)
discards w heard at_start enabled some h = grind arith

heard : (x : PortState) → On (receive_guard x) → On x.received_bpdu
heard x h = (parts (parts h).0).0

-- ---- migration

module _ (state : Migration) (waits heard : Bool) where
  checking_waits : On (is_checking state) → Off waits → migrating state waits heard ≡ 4
  checking_waits h k = grind arith

  from_selecting : On (is_selecting state) → migrating state waits heard ≡ 4
  from_selecting h = grind arith

  from_sensing : On (is_sensing state) → 2 ≤ migrating state waits heard
  from_sensing h = grind arith

  from_stp : On (is_sensing state) → On heard → migrating state waits heard ≡ 6
  from_stp h k = grind arith

pub zero_waits : (n : ℕ) → On (n == 0) → Off (n == 3)
zero_waits n h = rw (eqb-true n 0 h)

-- ---- detection

module _ (w : ℕ) (oper enabled admin : Bool) where
  -- Discard isn't enabled, so a port that is down finds no bridge
  pub edge_turns : (finds : Bool)
      → On (not oper && ((not enabled && admin) || finds)) → (On (not enabled) → Off finds)
      → (if_so w (may_turn_edge (enabled || admin) oper) ≡ w) × (if_so w (may_turn_edge (enabled || admin) true) ≡ 0)
  edge_turns finds h rests = grind arith

  pub not_edge_turns : On (oper && not enabled && not admin)
      → (if_so w (may_turn_edge (enabled || admin) oper) ≡ w) × (if_so w (may_turn_edge (enabled || admin) false) ≡ 0)
  not_edge_turns h = grind arith

down_off : (x down : Bool) → On down → Off (x && down) → Off x
down_off x down h k = grind arith

pub finds_none : (x : PortState) → Off (discard_guard x) → On (not x.enabled) → Off (finds_no_bridge x)
finds_none x off down =
    let none = down_off (x.received_bpdu || not (x.edge_delay_while == 3)) (not x.enabled) down off in
    let three = eqb-true x.edge_delay_while 3 (not-false (x.edge_delay_while == 3) (or_parts x.received_bpdu _ none).1)
    in
    rw three

-- ---- update

in_use : (enabled : Bool) (state : Information) → On (not (is_out state))
    → has_to_turn enabled false ≡ has_to_turn enabled (is_out state)
in_use enabled state h = rw (not-true (is_out state) h)

pub update_stays : (x : PortState) → On (info.update_guard x) → selecting (info.update_effect x) ≤ selecting x
update_stays x h = rw (in_use x.enabled x.information (parts (parts h).0).0) (omega arith)

pub receive_stays : (rule : ReceiveRule) (x : PortState) → On (receive_asks rule x)
    → selecting (receive_does rule x) ≤ selecting x
receive_stays receive_rule.Discard x h = omega arith
receive_stays receive_rule.Receive x h = rw (heard x h) (omega arith)

-- ---- the second level

module _ (n : ℕ) (timing : Timing) (x : PortState) where
  pub receive_lowers : (rule : ReceiveRule) → On (receive_asks rule x) → Lowers n timing x (rules.Receive rule)
  receive_lowers receive_rule.Discard h =
      omega (
        arith,
        discards (8 * n + 14) x.received_bpdu (x.edge_delay_while == 3) x.enabled (omega arith) h,
        migrating-unheard x.migration (x.migration_delay_while == 3) x.received_stp,
      )
  receive_lowers receive_rule.Receive h =
      rw (heard x h) (omega (
        arith,
        if_so-le (4 * n + 5) (may_turn_edge (x.enabled || x.admin_edge) false),
        migrating-heard x.migration (x.migration_delay_while == 3) x.received_stp
            (not (is_rst x.message) || x.received_stp),
        changing-le,
      ))

  pub migration_lowers : (rule : MigrationRule) → On (migration_asks rule x)
      → Lowers n timing x (rules.Migration rule)
  migration_lowers migration_rule.Recheck h =
      let (state, late) = parts (parts h).0 in
      omega (
        arith,
        checking_waits x.migration (x.migration_delay_while == 3) x.received_stp state (not-true _ late),
        waiting-le,
      )
  migration_lowers migration_rule.ToRstp h =
      omega (arith, from_sensing x.migration (x.migration_delay_while == 3) x.received_stp (parts h).0, waiting-le)
  migration_lowers migration_rule.Checked h =
      let (state, over) = parts (parts h).0 in
      omega (
        arith,
        checking_waits x.migration (x.migration_delay_while == 3) x.received_stp state
            (zero_waits x.migration_delay_while over),
      )
  migration_lowers migration_rule.Selected h =
      omega (arith, from_selecting x.migration (x.migration_delay_while == 3) x.received_stp (parts h).0)
  migration_lowers migration_rule.ToStp h =
      let (first, heard) = parts h in
      omega (
        arith,
        from_stp x.migration (x.migration_delay_while == 3) x.received_stp (parts first).0 heard,
        waiting-le,
      )

  pub edge_lowers : Off (discard_guard x) → On (edge_guard x)
      → Lowers n timing x (rules.Detection detection_rule.Edge)
  edge_lowers off h =
      let a = edge_turns (4 * n + 5) x.oper_edge x.enabled x.admin_edge (finds_no_bridge x) h (finds_none x off) in
      omega (arith, a.0, a.1, changing-le)

  pub not_edge_lowers : On (not_edge_guard x) → Lowers n timing x (rules.Detection detection_rule.NotEdge)
  not_edge_lowers h =
      let a = not_edge_turns (4 * n + 5) x.oper_edge x.enabled x.admin_edge h in
      omega (arith, a.0, a.1, changing-le)

  pub update_lowers : On (info.update_guard x) → Lowers n timing x (rules.Information information_rule.Update)
  update_lowers h =
      let due : On x.update_info = (parts h).1 in
      rw due (omega (arith, if_so-le (8 * n + 17) (not (x.synced && info.keeps_agreed x)), going_on-le))

-- ---- transmission

module _ (n : ℕ) (timing : Timing) (x : PortState) (some : 1 ≤ timing.hello) where
  -- a message goes into the empty slot
  sending_lowers : (message : Bpdu) → On (sends.is_ready timing x)
      → acting n timing (sends.sending timing message x) < acting n timing x
  sending_lowers message h =
      let empty : On (is_none x.slot) = (parts (parts (parts h).0).0).1 in
      rw (empty, not_zero timing.hello some) (omega arith)

  pub transmit_lowers : (rule : TransmitRule) → On (transmit_asks rule timing x)
      → Lowers n timing x (rules.Transmit rule)
  transmit_lowers transmit_rule.Periodic h =
      let due : On (x.hello_when == 0) = (parts h).1 in
      rw (due, not_zero timing.hello some) (omega arith)
  transmit_lowers transmit_rule.SendConfig h = omega (arith, sending_lowers bpdus.Tcn (parts (parts h).0).0)
  transmit_lowers transmit_rule.SendTcn h = omega (arith, sending_lowers bpdus.Tcn (parts (parts h).0).0)
  transmit_lowers transmit_rule.SendRst h = omega (arith, sending_lowers bpdus.Tcn (parts h).0)

-- the rules of the information machine, apart from Update
pub informs_select : (rule : InformationRule) (x : PortState) → Off (is_update rule) → On (information_asks rule x)
    → selecting (information_does rule x) < selecting x
informs_select information_rule.Update x n h = no (sym n)
informs_select information_rule.Disabled x n h =
    let (down, used) = parts h in
    rw (not-true x.enabled down, not-true (is_out x.information) used) (omega arith)
informs_select information_rule.Drop x n h =
    let got : On x.received_message = (parts h).1 in
    rw got (omega arith)
informs_select information_rule.Enabled x n h =
    let out : On (is_out x.information) = (parts h).0 in
    let up : On x.enabled = (parts h).1 in
    rw (out, up) (omega arith)
informs_select information_rule.Aged x n h =
    let current = (parts (parts (parts h).0).0).0 in
    let received : On (is_received x.info_is) = (parts current).1 in
    rw (received, current_not_out x.information (parts current).0) (omega (arith, if_so-le 1 x.reselect))
informs_select information_rule.Superior x n h =
    let got : On x.received_message = (parts (parts (parts h).0).0).1 in
    informed (λ y. selecting (info.handled (info.with_info_time y)) < selecting x) x.message
    (info.with_superior_flags (info.with_change_flags (info.with_proposal x)))
    (λ vector times. rw got (omega arith))
informs_select information_rule.Inferior x n h =
    let got : On x.received_message = (parts (parts (parts h).0).0).1 in
    if-is (λ y. selecting y < selecting x) (info.rst_has LEARNING x.message) _ _ (rw got (omega arith))
    (rw got (omega arith))
informs_select information_rule.NotDesignated x n h =
    let got : On x.received_message = (parts (parts (parts h).0).0).1 in
    if-is (λ y. selecting (info.handled (info.with_change_flags y)) < selecting x)
    (x.point_to_point && info.message_has AGREEMENT x.message) _ _ (rw got (omega arith)) (rw got (omega arith))
informs_select _ x n h =
    let got : On x.received_message = (parts (parts (parts h).0).0).1 in
    rw got (omega arith)
