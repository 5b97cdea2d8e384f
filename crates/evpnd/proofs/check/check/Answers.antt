use Rattle.std.proofs.Common.{inl, List, ℕ, subst}
use Rattle.std.specs.Prelude.{string_bytes}
use Rattle.ether_wire.specs.Ends.{End}
use Rattle.ev_report.specs.Ends.{devices}
use Rattle.ev_config.specs.Config.{ConfigFor}
use Rattle.evpnd.specs.Checks.{Checks}
use Rattle.evpnd.specs.Inner.Checks.{ChecksText}
use Rattle.evpnd.proofs.Filed.{of_read}
use Rattle.evpnd.proofs.check.check.Goals as goal

pub returns-in-Ok : goal.returns-in-Ok
returns-in-Ok g c input =
    let out = g.W.Out.end c.args.out.now in
    let notes = g.N.Out.end c.args.notes.now in
    let out' = g.W.Out.end c.check_text.new.out in
    let notes' = g.N.Out.end c.check_text.new.notes in
    let purpose = c.args.wanted.purpose in
    let had = c.in-Ok.ensures.has in
    let read = subst (λ (t : List ℕ). ChecksText purpose t out (g.N.Out.end c.text_at.new.notes) out' notes'
    c.check_text.result) c.as_str.ensures.value c.check_text.ensures in
    let used = subst (λ (e : End). ChecksText purpose (string_bytes c.in-Ok.text) out e out' notes'
    c.check_text.result) had.1 read in
    of_read (ConfigFor purpose.wanted) (Checks purpose) c.args.wanted.path.now (string_bytes c.in-Ok.text)
    (g.F.Files.shelf c.args.files.now) (g.F.Files.shelf c.text_at.new.files)
    (devices input out notes) (devices input out' notes') c.check_text.result (had.0, had.2) (
      used.0,
      used.1,
      used.2 input,
    )

pub returns-in-Err : goal.returns-in-Err
returns-in-Err g c input = inl (c.in-Err.ensures.none input (g.W.Out.end c.args.out.now))
