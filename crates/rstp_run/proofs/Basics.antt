-- Words and facts that several proofs share.
use Rattle.rstp_run.proofs.Names.{arith, Bool, Bpdu, false, Going, Information, if◌then◌else◌, is_current, is_out}
use Rattle.rstp_run.proofs.Names.{ne_eqb, no, not, Option, or_parts, PortState, Some, suc, sym, Times, Timing, true}
use Rattle.rstp_run.proofs.Names.{Vector, zero, ℕ, ◌&&◌, ◌+◌, ◌==◌, ◌||◌, ◌∙◌, ◌≡◌, ◌≤◌}
use Rattle.rstp_run.specs.Information.{with_info_of}
use Rattle.rstp_run.specs.TopologyChange.{with_change_timer}
use Rattle.rstp_state.specs.Vector.{times_of, vector_of}
use Rattle.std.proofs.lemmas.Bool.{and_parts}
use Rattle.rstp_run.proofs.Names.bpdus

-- a test holds, or fails
abbrev pub On : Bool → Type 0
On b = b ≡ true

abbrev pub Off : Bool → Type 0
Off b = b ≡ false

-- facts of a port, perhaps by its place; relations between two ports; changes of a port, and numbers of a port
abbrev pub Fact : Type 1
Fact = PortState → Type 0

abbrev pub Facts : Type 1
Facts = ℕ → Fact

abbrev pub Relation : Type 1
Relation = PortState → Fact

abbrev pub Relations : Type 1
Relations = ℕ → Relation

abbrev pub Effect : Type 0
Effect = PortState → PortState

abbrev pub Number : Type 0
Number = PortState → ℕ

-- functions of n flags
abbrev pub Bools : ℕ → Type 0 → Type 0
Bools zero A = A
Bools (suc n) A = Bool → Bools n A

-- facts of the sweep
abbrev pub Claim : Type 1
Claim = Going → Type 0

pub clash : {A : Type 0} {b : Bool} → Off b → On b → A
clash h k = no (sym h ∙ k)

-- the parts of a test that holds
pub parts : {a b : Bool} → On (a && b) → On a × On b
parts {a} {b} h = and_parts a b h

-- and of one that fails
pub neither : {a b : Bool} → Off (a || b) → Off a × Off b
neither {a} {b} h = or_parts a b h

-- current information isn't out
pub current_not_out : (i : Information) → On (is_current i) → Off (is_out i)
current_not_out i h = grind arith

-- what holds of two states holds of the one that a test picks
pub if-is : (P : Fact) (b : Bool) (x y : PortState) → P x → P y → P (if b then x else y)
if-is P true x y h k = h
if-is P false x y h k = k

-- a port with nothing to discard
pub discard_off : (b d e : Bool) → Off ((b || d) && not e) → Off e → Off b
discard_off b d e off h = grind arith

-- a port that doesn't leave use
pub down_off : (e o : Bool) → Off (not e && not o) → Off e → On o
down_off e o off h = grind arith

-- a number of at least 1 isn't 0
pub not_zero : (n : ℕ) → 1 ≤ n → Off (n == 0)
not_zero n h = ne_eqb n 0 (λ e. omega (arith, h, e))

pub add-step : (n q : ℕ) → n + suc q ≡ n + 1 + q
add-step n q = omega arith

-- a fact that the timer of changes doesn't concern
pub timed : (P : Fact) (timing : Timing) (x : PortState)
    → ((time : ℕ) (new : Bool) → P (record x { topology_change_while = time; new_info = new }))
    → P (with_change_timer timing x)
timed P timing x all =
    if-is P (x.topology_change_while == 0) _ x (if-is P x.send_rstp _ _ (all (timing.hello + 1) true)
    (all (timing.max_age + timing.forward_delay) x.new_info)) (all x.topology_change_while x.new_info)

-- a fact that the vector and times of a message don't concern
pub informed : (P : Fact) (m : Option Bpdu) (x : PortState)
    → ((vector : Vector) (times : Times) → P (record x { port_priority = vector; port_times = times }))
    → P (with_info_of m x)
informed P (Some (bpdus.Config message)) x h = h (vector_of message) (times_of message)
informed P (Some (bpdus.Rst message)) x h = h (vector_of message) (times_of message)
informed P _ x h = h x.port_priority x.port_times
