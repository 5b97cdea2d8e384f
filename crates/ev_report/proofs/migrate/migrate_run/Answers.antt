use Rattle.std.proofs.Common.{◌≡◌, ℕ, Bool, cond, not, ◌||◌, List, [], is_ok, ap, subst, ◌∙◌}
use Rattle.route_wire.specs.Feed.{Held}
use Rattle.route_join.specs.Table.{Table}
use Rattle.ev_report.specs.declared.stream.Intake.{Intake}
use Rattle.ev_report.specs.Notes.{has_stopped, ran_out_of_memory, status_of}
use Rattle.ev_report.specs.Ends.{devices}
use Rattle.ev_report.specs.Report.{Renders, taken_of}
use Rattle.ev_report.specs.Inner.Progressing.{state, new_intake, TakesInput}
use Rattle.ev_report.specs.Migrated.{migrated_of, records_of}
use Rattle.ev_report.specs.Migrations.{migration}
use Rattle.ev_report.proofs.Finishing.{renders}
use Rattle.ev_report.proofs.Migrating.{migration_is}
use Rattle.ev_report.proofs.migrate.migrate_run.Goals as goal

pub returns : goal.returns
returns g c =
    let originators = c.args.originators.items in
    let ending = c.take_input-ending.result in
    let reader = g.R.In.end c.args.reader.now in
    let reader' = g.R.In.end c.take_input-ending.new.reader in
    let out = g.W.Out.end c.args.out.now in
    let out' = g.W.Out.end c.put_unless.new.out in
    let notes = g.N.Out.end c.args.notes.now in
    let mid = g.N.Out.end c.take_input-ending.new.notes in
    let notes' = g.N.Out.end c.note_end-is_broken.new.notes in
    let intake = c.take_input-ending.new.self in
    let last = c.note_end-is_broken.new.self in
    let r = c.put_unless.result in
    let broken = c.note_end-is_broken.result in
    let out_of_memory = c.is_out_of_memory-is_out_of_memory.result in
    let all = has_stopped ending || (not (is_ok r) || not last.is_told) in
    let failed = c.has_failed-has_failed.ensures ∙ ap (λ (b : Bool). has_stopped ending ||
    (not b || not c.is_told.result)) c.is_ok-is_written.ensures.value
    ∙ ap (λ (b : Bool). has_stopped ending || (not (is_ok r) || not b)) c.is_told.ensures in
    let fresh_is : c.new-intake.result ≡ new_intake 2 originators = c.new-intake.ensures
    ∙ ap (λ (h : Held). new_intake h.newest originators) c.old-feed.ensures.value in
    let i : TakesInput 2 ending reader reader' (state (new_intake 2 originators) notes) (state intake mid) =
    subst (λ (x : Intake). TakesInput x.feed.newest ending reader reader' (state x notes) (state intake mid)) fresh_is
    c.take_input-ending.ensures.taken in
    let text : List ℕ = cond c.is_withheld-is_withheld.result [] (records_of (migrated_of c.table.result.now)) in
    let withheld : c.is_withheld-is_withheld.result ≡ (has_stopped ending
    || ran_out_of_memory i.octets.taken.outcomes) =
    c.is_withheld-is_withheld.ensures ∙ ap (λ (b : Bool). has_stopped ending || b)
    (c.is_out_of_memory-is_out_of_memory.ensures
    ∙ ap (λ (x : Intake). x.is_out_of_memory) c.note_end-is_broken.ensures.kept ∙ i.octets.taken.counts.out_of_memory)
    in
    let makes : text ≡ migration ending i.octets.taken.outcomes last.table =
    ap (λ (t : Table). cond c.is_withheld-is_withheld.result [] (records_of (migrated_of t))) c.table.ensures
    ∙ ap (λ (b : Bool). cond b [] (records_of (migrated_of last.table))) withheld in
    let run : Renders 2 migration originators (devices reader out notes) (devices reader' out' notes')
    c.status_of.result =
    renders 2 migration originators reader reader' out out' notes mid notes' intake last ending i
    c.note_end-is_broken.ensures.kept c.note_end-is_broken.ensures.told r text c.requires.out c.requires.notes
    c.put_unless.ensures makes
    c.status_of.result
    (c.status_of.ensures ∙ ap (λ (b : Bool). status_of b out_of_memory broken) failed
    ∙ ap (λ (b : Bool). status_of all b broken) c.is_out_of_memory-is_out_of_memory.ensures
    ∙ ap (λ (b : Bool). status_of all last.is_out_of_memory b) c.note_end-is_broken.ensures.broken) in
    record { run = run; migrated = migration_is (taken_of run.outcomes) run.table run.taken.table_of }
