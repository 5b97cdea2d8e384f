-- The tree information of a port, and the rules that don't change it: all except selection and those of information.
-- All of these except Discard and Receive don't change its pending messages either.
use Rattle.rstp_run.proofs.Basics.{if-is, On, Relation, timed}
use Rattle.rstp_run.proofs.Names.{ap, Bool, Bpdu, false, handled, InfoIs, Information, InformationRule}
use Rattle.rstp_run.proofs.Names.{information_does, message_has, no, PortState, ReceiveRule, Role, Rule, receive_does}
use Rattle.rstp_run.proofs.Names.{refl, rst_has, Times, Timing, true, Vector, with_change_flags, with_message, ℕ, ◌&&◌}
use Rattle.rstp_run.proofs.Names.{◌||◌, ◌≡◌}
use Rattle.rstp_run.proofs.Own.{Nothing, own, Spread, spread_by}
use Rattle.rstp_run.proofs.Names.detection_rule
use Rattle.rstp_run.proofs.Names.information_rule
use Rattle.rstp_run.proofs.Names.migration_rule
use Rattle.rstp_run.proofs.Names.receive_rule
use Rattle.rstp_run.proofs.Names.role_rule
use Rattle.rstp_run.proofs.Names.rules
use Rattle.rstp_run.proofs.Names.state_rule
use Rattle.rstp_run.proofs.Names.topology
use Rattle.rstp_run.proofs.Names.topology_rule
use Rattle.rstp_run.proofs.Names.transmit_rule

pub record Known : Type 0 where
  pub selected : Bool
  pub reselect : Bool
  pub selected_role : Role
  pub information : Information
  pub info_is : InfoIs
  pub update_info : Bool
  pub identifier : ℕ
  pub cost : ℕ
  pub designated_priority : Vector
  pub designated_times : Times
  pub port_priority : Vector
  pub port_times : Times
  pub received_info_while : ℕ

abbrev pub known_of : PortState → Known
known_of port = record {
  selected = port.selected;
  reselect = port.reselect;
  selected_role = port.selected_role;
  information = port.information;
  info_is = port.info_is;
  update_info = port.update_info;
  identifier = port.identifier;
  cost = port.cost;
  designated_priority = port.designated_priority;
  designated_times = port.designated_times;
  port_priority = port.port_priority;
  port_times = port.port_times;
  received_info_while = port.received_info_while;
}

-- the port's tree information stays
abbrev pub IsQuiet : Relation
IsQuiet port next = known_of next ≡ known_of port

-- the tree information of a port, its pending messages, and whether it is enabled
pub record Still : Type 0 where
  pub known : Known
  pub received_bpdu : Bool
  pub received_message : Bool
  pub enabled : Bool

abbrev pub still_of : PortState → Still
still_of port = record {
  known = known_of port;
  received_bpdu = port.received_bpdu;
  received_message = port.received_message;
  enabled = port.enabled;
}

-- all of this stays
abbrev pub IsStill : Relation
IsStill port next = still_of next ≡ still_of port

pub still_quiet : (x y : PortState) → IsStill x y → IsQuiet x y
still_quiet x y h = ap (λ s. s.known) h

-- neither Select nor a rule of receive or information
abbrev pub is_plain : Rule → Bool
is_plain rules.Select = false
is_plain (rules.Receive rule) = false
is_plain (rules.Information rule) = false
is_plain _ = true

pub own_still : (rule : Rule) (timing : Timing) (x : PortState) → On (is_plain rule) → IsStill x (own rule timing x)
own_still rules.Select timing x n = no n
own_still (rules.Receive rule) timing x n = no n
own_still (rules.Information rule) timing x n = no n
own_still (rules.Migration migration_rule.Recheck) timing x n = refl
own_still (rules.Detection detection_rule.Edge) timing x n = refl
own_still (rules.Role role_rule.Root) timing x n = refl
own_still (rules.State state_rule.ToLearning) timing x n = refl
own_still (rules.Topology topology_rule.Detected) timing x n =
    timed (IsStill x) timing (record x { topology = topology.Active }) (λ time new. refl)
own_still (rules.Topology topology_rule.NotifiedTcn) timing x n = timed (IsStill x) timing x (λ time new. refl)
own_still (rules.Topology topology_rule.Propagating) timing x n = timed (IsStill x) timing x (λ time new. refl)
own_still (rules.Transmit transmit_rule.Periodic) timing x n = refl
own_still _ timing x n = refl

pub spread_still : (k : Spread) (x : PortState) → IsStill x (spread_by k x)
spread_still Nothing x = refl
spread_still _ x = refl

-- a fact of this kind stays under these rules
pub own_stays : (F : Still → Type 0) (rule : Rule) (timing : Timing) (x : PortState) → On (is_plain rule)
    → F (still_of x) → F (still_of (own rule timing x))
own_stays F rule timing x is h = rw (own_still rule timing x is) h

pub spread_stays : (F : Still → Type 0) (k : Spread) (x : PortState) → F (still_of x) → F (still_of (spread_by k x))
spread_stays F k x h = rw (spread_still k x) h

pub receive_quiet : (rule : ReceiveRule) (x : PortState) → IsQuiet x (receive_does rule x)
receive_quiet receive_rule.Discard x = refl
receive_quiet receive_rule.Receive x = refl

abbrev pub is_update : InformationRule → Bool
is_update information_rule.Update = true
is_update _ = false

-- a rule of information that leaves the tree information
abbrev is_answer : InformationRule → Bool
is_answer information_rule.Inferior = true
is_answer information_rule.NotDesignated = true
is_answer _ = false

pub answer_quiet : (rule : InformationRule) (x : PortState) → On (is_answer rule) → IsQuiet x (information_does rule x)
answer_quiet information_rule.Inferior x n = if-is (IsQuiet x) (rst_has 0x10 x.message) _ _ refl refl
answer_quiet information_rule.NotDesignated x n =
    if-is (λ y. IsQuiet x (handled (with_change_flags y))) (x.point_to_point && message_has 0x40 x.message) _ _ refl
    refl
answer_quiet _ x n = no n

pub message_quiet : (message : Bpdu) (x : PortState) → IsQuiet x (with_message message x)
message_quiet message x = if-is (IsQuiet x) (x.received_bpdu || x.received_message) _ _ refl refl
