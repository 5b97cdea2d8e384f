use Rattle.std.proofs.Common.{◌<◌, length, refl, arith}
use Rattle.std.proofs.lemmas.Bool.Decides.{nat_tests}
use Rattle.ev_script.proofs.Looking.{looks_none, looks_more}
use Rattle.ev_script.proofs.checking.check_lines.Goals as goal

pub lines-init : goal.lines-init
lines-init g c = record {
  looks = looks_none c.args.name.now c.args.script.now (g.N.Out.end c.args.notes.now) _ refl refl refl;
  few = omega arith;
}

pub lines-preserved : goal.lines-preserved
lines-preserved g c =
    let inv = c.lines.invariant in
    let some : 0 < length c.lines.rest.now = grind (arith, nat_tests) in
    let shorter = c.cut_line.ensures.shorter some in
    let many = c.with-found.ensures.count in
    record {
      looks = looks_more c.args.name.now c.args.script.now c.lines.rest.now c.cut_line.result.0.now
          c.cut_line.result.1.now (g.N.Out.end c.args.notes.now) (g.N.Out.end c.lines.notes)
          (g.N.Out.end c.with-found.new.notes) c.lines.found c.with-found.result inv.looks some c.cut_line.ensures.value
          c.with-found.ensures.count c.with-found.ensures.good c.with-found.ensures.told;
      few = omega (arith, inv.few);
    }
