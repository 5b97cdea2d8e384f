-- The effect of a simulation: the steps that its lines request, from an opened fabric on, and their answers.
use Rattle.std.specs.Prelude.{◌≡◌, ◌↔◌, ℕ, ◌⊎◌, ◌+◌, ◌||◌, ◌==◌, Bool, false, nat_le, if◌then◌else◌, List, [], ◌∷◌}
use Rattle.std.specs.Prelude.{◌++◌, IsTrue}
use Rattle.ev_mobility.specs.Alert.{number_of}
use Rattle.ev_mobility.specs.declared.alert.Alert.{Alert}
use Rattle.std.specs.Prelude.{length, codes, decimal, Result, Ok, Err, Option, Some, None}
use Rattle.std.specs.Borrow.{Bor}
use Rattle.std.specs.List.{All, flat_map}
use Rattle.std.specs.Option.{MatchOption}
use Rattle.ether_wire.specs.Ends.{End}
use Rattle.rstp_run.specs.Rules.{Tree}
use Rattle.rstp_run.specs.Events.{Passes}
use Rattle.route_join.specs.Report.{report_of}
use Rattle.ev_edge.specs.Edge.{Edge, table_of}
use Rattle.ev_edge.specs.declared.refusal.EdgeRefusal.TheVariants as own
use Rattle.ev_edge.specs.declared.refusal.Refusal.TheVariants as at_edge
use Rattle.ev_fabric.specs.declared.refusal.FabricRefusal.TheVariants as refusals
use Rattle.ev_edge.specs.declared.config.EdgeConfig.{EdgeConfig}
use Rattle.ev_edge.specs.declared.reply.Reply.{Reply}
use Rattle.ev_fabric.specs.declared.refusal.FabricRefusal.{FabricRefusal}
use Rattle.ev_fabric.specs.declared.step.Step.{Step}
use Rattle.ev_fabric.specs.declared.step.Step.TheVariants as steps
use Rattle.ev_fabric.specs.declared.step.LocalEvent.TheVariants as events
use Rattle.ev_fabric.specs.Fabric.{Fabric, nth}
use Rattle.ev_fabric.specs.Opening.{IsStart}
use Rattle.ev_fabric.specs.Refusal.{refusal_number}
use Rattle.ev_fabric.specs.Steps.{FabricSteps}
use Rattle.ev_report.specs.declared.input.ReadError.{ReadError}
use Rattle.ev_report.specs.declared.input.ReadError.TheVariants.{Device, NoMemory}
use Rattle.ev_report.specs.Ends.{Devices, has_failed, Holds}
use Rattle.ev_report.specs.Notes.{status_of}
use Rattle.ev_report.specs.Input.{ReadsWhole}
use Rattle.ev_report.specs.Silence.{IsSilent, IsRefusedMemory}
use Rattle.ev_script.specs.declared.script.mode.Mode.{Mode}
use Rattle.ev_script.specs.declared.script.question.Question.{Question}
use Rattle.ev_script.specs.Script.{Command, Item, item_of, up, down, mcheck, second, frame, tunnel, pin, unpin, thaw}
use Rattle.ev_script.specs.Script.{announce, deliver, port, report, restart, away, back, asked_in, cut_line, Follows}
use Rattle.ev_script.specs.Script.{Ends}
use Rattle.ev_script.specs.Printing.{shown_text, step_text, second_text, announcement_text, refusal_text, port_text}
use Rattle.ev_script.specs.Views.{view_text}
use Rattle.ev_script.specs.Faults.{why_of, fault_text}
use Rattle.ev_report.specs.declared.status.Status.{Status}
use Rattle.ev_report.specs.declared.status.Status.TheVariants as statuses

-- ---- steps

-- a step that was made, and its answer
abbrev pub Made : Type 0
Made = Step × Result Reply FabricRefusal

-- A port's number, in an octet. A number above 255 becomes 255: there are at most 64 ports.
abbrev pub port_number : ℕ → ℕ
port_number p = if nat_le p 255 then p else 255

-- exactly that step was made
abbrev pub IsOne : Step → List Made → Type 0
IsOne step made = (answer : Result Reply FabricRefusal) × (made ≡ (step, answer) ∷ [])

-- the steps that a command requests from an edge
abbrev pub Asked : ℕ → Command → List Made → Type 0
Asked e (up p) made = IsOne (steps.Local e (events.PortUp (port_number p))) made
Asked e (down p) made = IsOne (steps.Local e (events.PortDown (port_number p))) made
Asked e (mcheck p) made = IsOne (steps.Local e (events.Mcheck (port_number p))) made
Asked e (second n) made = (length made ≡ n) × All (λ (m : Made). m.0 ≡ steps.Local e events.Second) made
Asked e (frame p octets) made = (b : Bor (List ℕ)) × (b.now ≡ octets)
    × IsOne (steps.Local e (events.Frame (port_number p) b)) made
Asked e (tunnel from octets) made = (b : Bor (List ℕ)) × (b.now ≡ octets)
    × IsOne (steps.Local e (events.TunnelFrame from b)) made
Asked e (pin s p) made = IsOne (steps.Local e (events.Pin s (port_number p))) made
Asked e (unpin s) made = IsOne (steps.Local e (events.Unpin s)) made
Asked e (thaw s) made = IsOne (steps.Local e (events.Thaw s)) made
Asked e announce made = IsOne (steps.Announce e) made
Asked e (deliver k) made = IsOne (steps.Deliver e k) made
Asked e (port p) made = made ≡ []
Asked e report made = made ≡ []
Asked e (restart n) made = IsOne (steps.Restart e n) made
Asked e (away a) made = IsOne (steps.Local e (events.Away a)) made
Asked e (back a) made = IsOne (steps.Local e (events.Back a)) made

-- the steps that a line requests
abbrev pub AskedItem : Item → List Made → Type 0
AskedItem None made = made ≡ []
AskedItem (Some line) made = Asked line.0 line.1 made

-- steps with their answers, each from the fabric that the step before it has led to
abbrev pub Goes : Fabric → List Made → Fabric → Type 0
Goes old [] new = new ≡ old
Goes old (m ∷ made) new = (mid : Fabric) × FabricSteps old m.0 m.1 mid × Goes mid made new

-- the alert that reports refused memory
abbrev pub is_memory_alert : Option Alert → Bool
is_memory_alert None = false
is_memory_alert (Some alert) = number_of alert == 15

-- a step was refused memory, or did less for want of memory, which its alert reports
abbrev pub is_out_of_memory : Result Reply FabricRefusal → Bool
is_out_of_memory (Ok reply) = is_memory_alert reply.alert
is_out_of_memory (Err refusal) = refusal_number refusal == 15

abbrev pub ran_out_of_memory : List Made → Bool
ran_out_of_memory [] = false
ran_out_of_memory (m ∷ made) = is_out_of_memory m.1 || ran_out_of_memory made

-- ---- answers

-- the answers to steps, in their order
abbrev pub steps_text : ℕ → List Made → List ℕ
steps_text e made = flat_map (λ (m : Made). step_text e m.1) made

-- the answers to seconds, the first of which has this number
abbrev pub seconds_text : ℕ → ℕ → List Made → List ℕ
seconds_text e turn [] = []
seconds_text e turn (m ∷ made) = second_text e turn m.1 ++ seconds_text e (turn + 1) made

-- the answer to an announcement, after which the pool has `last` updates
abbrev pub announcements_text : ℕ → ℕ → List Made → List ℕ
announcements_text e last made = flat_map (λ (m : Made). announcement_text e last m.1) made

-- the role and state of port p of a bridge and whether it passes frames, or that it doesn't exist
abbrev pub ShowsPort : ℕ → ℕ → Tree → List ℕ → Type 0
ShowsPort e p tree text = MatchOption (nth tree.ports p)
    (text ≡ refusal_text e (refusals.Edge (at_edge.Edge own.NoSuchPort)))
    (λ state. (passes : Bool) × (IsTrue passes ↔ Passes tree p) × (text ≡ port_text e p state passes))

-- port p of the edge e, or that the edge doesn't exist
abbrev pub ShowsPortOf : ℕ → ℕ → Option Edge → List ℕ → Type 0
ShowsPortOf e p edge text =
    MatchOption edge (text ≡ refusal_text e refusals.NoSuchEdge) (λ a. ShowsPort e p a.tree text)

-- the report of the table of the edge e, or that the edge doesn't exist
abbrev pub report_text : ℕ → Option Edge → List ℕ
report_text e None = refusal_text e refusals.NoSuchEdge
report_text e (Some a) = report_of (table_of a)

-- The text is the answer to a command at the edge e: these steps were made and answered, and led to this fabric.
abbrev pub AnswersCommand : ℕ → Command → List Made → Fabric → List ℕ → Type 0
AnswersCommand e (up p) made f text = text ≡ steps_text e made
AnswersCommand e (down p) made f text = text ≡ steps_text e made
AnswersCommand e (mcheck p) made f text = text ≡ steps_text e made
AnswersCommand e (second n) made f text = text ≡ seconds_text e 0 made
AnswersCommand e (frame p octets) made f text = text ≡ steps_text e made
AnswersCommand e (tunnel from octets) made f text = text ≡ steps_text e made
AnswersCommand e (pin s p) made f text = text ≡ steps_text e made
AnswersCommand e (unpin s) made f text = text ≡ steps_text e made
AnswersCommand e (thaw s) made f text = text ≡ steps_text e made
AnswersCommand e announce made f text = text ≡ announcements_text e (length f.pool) made
AnswersCommand e (deliver k) made f text = text ≡ steps_text e made
AnswersCommand e (port p) made f text = ShowsPortOf e (port_number p) (nth f.edges e) text
AnswersCommand e report made f text = text ≡ report_text e (nth f.edges e)
AnswersCommand e (restart n) made f text = text ≡ steps_text e made
AnswersCommand e (away a) made f text = text ≡ steps_text e made
AnswersCommand e (back a) made f text = text ≡ steps_text e made

-- a query's line, if it is shown, and the answer to it; nothing for a line that is skipped
abbrev pub query_text : Mode → List ℕ → Fabric → Option Question → List ℕ
query_text mode line f None = []
query_text mode line f (Some q) = shown_text mode line ++ view_text f q

-- The text is what a line prints: the line, if it is shown, and the answer.
abbrev pub PrintsItem : Mode → List ℕ → Item → List Made → Fabric → List ℕ → Type 0
PrintsItem mode line None made f text = text ≡ query_text mode line f (asked_in mode line)
PrintsItem mode line (Some c) made f text =
    (answer : List ℕ) × AnswersCommand c.0 c.1 made f answer × (text ≡ shown_text mode line ++ answer)

-- ---- lines that are run

-- The run of a line: its steps with their answers, the fabric after them, and the text that is printed.
pub record Ran : Type 0 where
  pub made : List Made
  pub after : Fabric
  pub text : List ℕ

-- A line is run on this fabric: exactly the steps that it requests are made, and this is printed of their answers.
pub record RunsLine (mode : Mode) (line : List ℕ) (item : Item) (old : Fabric) (ran : Ran) : Type 0 where
  pub asked : AskedItem item ran.made
  pub goes : Goes old ran.made ran.after
  pub prints : PrintsItem mode line item ran.made ran.after ran.text

-- the lines of a script are run in their order, each on the fabric that the line before it has led to
abbrev pub RunsLines : Mode → List ℕ → List Item → Fabric → List Ran → Fabric → Type 0
RunsLines mode script [] old [] new = new ≡ old
RunsLines mode script [] old (r ∷ ran) new = ⊥
RunsLines mode script (item ∷ items) old [] new = ⊥
RunsLines mode script (item ∷ items) old (r ∷ ran) new =
    RunsLine mode (cut_line script).0 item old r × RunsLines mode (cut_line script).1 items r.after ran new

-- all steps that were made
abbrev pub made_by : List Ran → List Made
made_by ran = flat_map (λ (r : Ran). r.made) ran

-- all that is printed
abbrev pub text_of : List Ran → List ℕ
text_of ran = flat_map (λ (r : Ran). r.text) ran

-- ---- a run

-- `line N bad`
abbrev pub bad_head : ℕ → List ℕ
bad_head number = codes "line " ++ decimal number ++ codes " bad\n"

-- and on the next line the reason why it is bad, as for a line of the file `standard input`
abbrev pub bad_line : ℕ → List ℕ → List ℕ
bad_line number line = bad_head number ++ fault_text (codes "standard input") number (why_of line)

abbrev pub note_of : Bool → ℕ → List ℕ → List ℕ
note_of is_bad number line = if is_bad then bad_line number line else []

-- The script's lines up to its end or its first bad one were run on the fabric: it went exactly the steps that they
-- request, in their order, and the writer holds exactly what these lines print, or a call of it has failed. The mode
-- decides which lines are bad, and which request nothing.
pub record PlaysOn (mode : Mode) (start : Fabric) (script : List ℕ) (out out' notes notes' : End)
    (status : Status) : Type 0 where
  pub lines : List Item
  pub rest : List ℕ
  pub is_bad : Bool
  pub follows : Follows (item_of mode) script lines rest
  pub ends : Ends (item_of mode) is_bad rest
  pub ran : List Ran
  pub final : Fabric
  pub runs : RunsLines mode script lines start ran final
  pub written : Holds out out' (text_of ran)
  pub noted : Holds notes notes' (note_of is_bad (length lines + 1) (cut_line rest).0)
  pub status_is : status ≡ status_of (has_failed out out' || has_failed notes notes') (ran_out_of_memory (made_by ran))
      is_bad

-- on a fabric of edges that are opened with these configurations
abbrev pub Plays : Mode → List EdgeConfig → List ℕ → End → End → End → End → Status → Type 0
Plays mode configs script out out' notes notes' status =
    (start : Fabric) × IsStart configs start × PlaysOn mode start script out out' notes notes' status

-- The result for a script that was read or not. If memory was refused to the script or to the edges, or the script
-- wasn't read to its end, nothing was run.
abbrev pub PlaysRead : Mode → List EdgeConfig → Result (List ℕ) ReadError → End → End → End → End → Status → Type 0
PlaysRead mode configs (Ok script) out out' notes notes' status =
    Plays mode configs script out out' notes notes' status ⊎ IsRefusedMemory out out' notes notes' status
PlaysRead mode configs (Err Device) out out' notes notes' status =
    IsSilent out out' notes notes' × (status ≡ statuses.Device)
PlaysRead mode configs (Err NoMemory) out out' notes notes' status = IsRefusedMemory out out' notes notes' status

-- The script was read whole, and then run.
pub record Simulates (mode : Mode) (configs : List EdgeConfig) (before after : Devices) (status : Status) : Type 0 where
  pub script : Result (List ℕ) ReadError
  pub read : ReadsWhole before.input after.input script
  pub plays : PlaysRead mode configs script before.out after.out before.notes after.notes status
