use Rattle.std.proofs.Common.{refl}
use Rattle.ev_report.specs.Ends.{devices}
use Rattle.evpnd.proofs.Filed.{no_memory, unreadable}
use Rattle.ev_report.specs.declared.status.Status.TheVariants as statuses
use Rattle.evpnd.proofs.files.text_at.Goals as goal

pub returns-in-Err-NoMemory-clause-none : goal.returns-in-Err-NoMemory-clause-none
returns-in-Err-NoMemory-clause-none g c = λ input out.
    no_memory c.args.named c.args.path.now (g.F.Files.shelf c.args.files.now) (g.F.Files.shelf c.text_of.new.self)
    (devices input out (g.N.Out.end c.args.notes.now)) statuses.Memory
    (rw c.in-Err-NoMemory.field-0-is at c.in-Err-NoMemory.ensures) refl

pub returns-in-Err-Unread-clause-none : goal.returns-in-Err-Unread-clause-none
returns-in-Err-Unread-clause-none g c = λ input out.
    let put = rw c.as_bytes.ensures.value at c.put_unread-told.ensures in
    unreadable c.args.named c.args.path.now (g.F.Files.shelf c.args.files.now) (g.F.Files.shelf c.text_of.new.self)
    input out (g.N.Out.end c.args.notes.now) (g.N.Out.end c.put_unread-told.new.notes) c.put_unread-told.result _
    c.unread_status.result (rw c.in-Err-Unread.field-0-is at c.in-Err-Unread.ensures) c.requires.notes put
    c.unread_status.ensures
