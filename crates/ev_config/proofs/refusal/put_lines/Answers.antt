use Rattle.std.proofs.Common.{[], sym}
use Rattle.ether_wire.proofs.Appending.{with_text_none}
use Rattle.ev_config.proofs.Lines.{lines_more, lines_all}
use Rattle.ev_config.proofs.refusal.put_lines.Goals as goal

pub loop-fault-init : goal.loop-fault-init
loop-fault-init g c = ([], tt, sym (with_text_none (g.N.Out.end c.args.notes.now)))

pub loop-fault-preserved : goal.loop-fault-preserved
loop-fault-preserved g c =
    let before = c.loop-fault.invariant in
    let this = c.in_ok-put_fault.ensures in
    lines_more c.args.wanted c.args.faults.now c.loop-fault.fault-index c.fault-item.result before.0 this.0
    (g.N.Out.end c.args.notes.now) (g.N.Out.end c.loop-fault.notes) (g.N.Out.end c.put_fault.new.notes)
    c.loop-fault-test.true c.fault-item.is before.1 before.2 this.1 this.2

pub returns : goal.returns
returns g c =
    let before = c.loop-fault.invariant in
    let all = lines_all c.args.wanted c.args.faults.now c.loop-fault.fault-index before.0 c.loop-fault-test.false
    before.1 in
    (before.0, all, before.2)
