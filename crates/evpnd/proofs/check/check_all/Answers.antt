use Rattle.std.proofs.Common.{rules, ◌≡◌, ◌==◌, true, false, Some, None}
use Rattle.ether_wire.specs.Ends.{source_of}
use Rattle.ev_report.specs.Ends.{devices}
use Rattle.evpnd.specs.Checks.{desk}
use Rattle.evpnd.proofs.Scripted.{was_done, ready, behind_failed, behind_done, with_script}
use Rattle.ev_report.specs.Status.{is_done}
use Rattle.evpnd.proofs.check.check_all.Goals as goal

pub check_script-requires-clause-files : goal.check_script-requires-clause-files
check_script-requires-clause-files g c =
    let e : is_done c.check-status.result ≡ true = search rules in
    (ready c.args.wanted.purpose c.args.wanted.path.now (g.F.Files.shelf c.args.files.now)
    (g.F.Files.shelf c.check-status.new.files)
    (source_of None 0 0) (g.W.Out.end c.args.out.now) (g.W.Out.end c.check-status.new.out)
    (g.N.Out.end c.args.notes.now) (g.N.Out.end c.check-status.new.notes) c.check-status.result
    (c.check-status.ensures (source_of None 0 0))
    c.requires.files c.requires.out c.requires.notes (was_done c.check-status.result e)).has_room

pub check_script-requires-clause-out : goal.check_script-requires-clause-out
check_script-requires-clause-out g c =
    let e : is_done c.check-status.result ≡ true = search rules in
    (ready c.args.wanted.purpose c.args.wanted.path.now (g.F.Files.shelf c.args.files.now)
    (g.F.Files.shelf c.check-status.new.files)
    (source_of None 0 0) (g.W.Out.end c.args.out.now) (g.W.Out.end c.check-status.new.out)
    (g.N.Out.end c.args.notes.now) (g.N.Out.end c.check-status.new.notes) c.check-status.result
    (c.check-status.ensures (source_of None 0 0))
    c.requires.files c.requires.out c.requires.notes (was_done c.check-status.result e)).out_open

pub check_script-requires-clause-notes : goal.check_script-requires-clause-notes
check_script-requires-clause-notes g c =
    let e : is_done c.check-status.result ≡ true = search rules in
    (ready c.args.wanted.purpose c.args.wanted.path.now (g.F.Files.shelf c.args.files.now)
    (g.F.Files.shelf c.check-status.new.files)
    (source_of None 0 0) (g.W.Out.end c.args.out.now) (g.W.Out.end c.check-status.new.out)
    (g.N.Out.end c.args.notes.now) (g.N.Out.end c.check-status.new.notes) c.check-status.result
    (c.check-status.ensures (source_of None 0 0))
    c.requires.files c.requires.out c.requires.notes (was_done c.check-status.result e)).notes_open

pub returns-in-Some : goal.returns-in-Some
returns-in-Some g c = λ input.
    let is : c.args.wanted.script ≡ Some c.in-Some.script = search rules in
    let e : is_done c.check-status.result ≡ true = search rules in
    let before = desk (g.F.Files.shelf c.args.files.now)
    (devices input (g.W.Out.end c.args.out.now) (g.N.Out.end c.args.notes.now)) in
    let mid = desk (g.F.Files.shelf c.check-status.new.files)
    (devices input (g.W.Out.end c.check-status.new.out) (g.N.Out.end c.check-status.new.notes)) in
    let after = desk (g.F.Files.shelf c.check_script.new.files)
    (devices input (g.W.Out.end c.check_script.new.out) (g.N.Out.end c.check_script.new.notes)) in
    with_script c.args.wanted.purpose c.args.wanted.path.now c.args.wanted.script c.in-Some.script before mid after
    c.check-status.result c.check_script.result is (c.check-status.ensures input)
    (behind_done c.check-status.result c.in-Some.script.now mid after c.check_script.result e
    (c.check_script.ensures input))

pub returns-in-Some-2 : goal.returns-in-Some-2
returns-in-Some-2 g c = λ input.
    let is : c.args.wanted.script ≡ Some c.in-Some-2.field-0 = search rules in
    let e : is_done c.check-status.result ≡ false = search rules in
    let before = desk (g.F.Files.shelf c.args.files.now)
    (devices input (g.W.Out.end c.args.out.now) (g.N.Out.end c.args.notes.now)) in
    let mid = desk (g.F.Files.shelf c.check-status.new.files)
    (devices input (g.W.Out.end c.check-status.new.out) (g.N.Out.end c.check-status.new.notes)) in
    with_script c.args.wanted.purpose c.args.wanted.path.now c.args.wanted.script c.in-Some-2.field-0 before mid mid
    c.check-status.result c.check-status.result is (c.check-status.ensures input)
    (behind_failed c.check-status.result c.in-Some-2.field-0.now mid e)
