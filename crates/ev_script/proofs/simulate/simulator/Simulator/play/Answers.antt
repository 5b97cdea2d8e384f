use Rattle.std.proofs.Common.{rules, ◌≡◌, ◌+◌, ◌<◌, Bool, true, false, length, refl, subst, arith}
use Rattle.std.proofs.lemmas.Bool.Decides.{nat_tests}
use Rattle.ev_script.specs.Inner.Playing.{PlaysLine}
use Rattle.ev_script.proofs.Playings.{played_none, played_more, played_bad}
use Rattle.ev_script.proofs.simulate.simulator.Simulator.play.Goals as goal

pub lines-init : goal.lines-init
lines-init g c = record {
  played = played_none c.args.mode c.args.script.now c.args.self.now (g.W.Out.end c.args.out.now);
  few = omega arith;
}

pub returns-then-not-line : goal.returns-then-not-line
returns-then-not-line g c =
    let some : 0 < length c.lines.rest.now = grind (arith, nat_tests) in
    let bad : c.line.result ≡ false = search rules in
    let a = g.W.Out.end c.args.out.now in
    let b = g.W.Out.end c.lines.out in
    let d = g.W.Out.end c.line.new.out in
    played_bad c.args.mode c.args.script.now c.lines.rest.now c.cut_line.result.0.now c.cut_line.result.1.now
    c.args.self.now c.lines.self c.line.new.self c.lines.number a b d
    (record { number = c.lines.number + 1; line = c.cut_line.result.0 }) c.lines.invariant.played some
    c.cut_line.ensures.value
    (subst (λ (x : Bool). PlaysLine c.args.mode c.cut_line.result.0.now c.lines.self c.line.new.self b d x) bad
    c.line.ensures) refl refl

pub lines-preserved : goal.lines-preserved
lines-preserved g c =
    let inv = c.lines.invariant in
    let some : 0 < length c.lines.rest.now = grind (arith, nat_tests) in
    let shorter = c.cut_line.ensures.shorter some in
    let good : c.line.result ≡ true = search rules in
    let a = g.W.Out.end c.args.out.now in
    let b = g.W.Out.end c.lines.out in
    let d = g.W.Out.end c.line.new.out in
    record {
      played = played_more c.args.mode c.args.script.now c.lines.rest.now c.cut_line.result.0.now
          c.cut_line.result.1.now c.args.self.now c.lines.self c.line.new.self c.lines.number a b d inv.played some
          c.cut_line.ensures.value
          (subst (λ (x : Bool). PlaysLine c.args.mode c.cut_line.result.0.now c.lines.self c.line.new.self b d x)
          good c.line.ensures);
      few = omega (arith, inv.few);
    }
