use Rattle.std.proofs.Common.{List, ℕ, take, length, sym, subst, ◌≡◌, arith}
use Rattle.std.proofs.lemmas.Bool.Decides.{nat_tests}
use Rattle.ev_report.specs.Inner.Progressing.{State, state, TakesOctets}
use Rattle.ev_report.proofs.Fronts.{Front, front_none, front_more, front_rest, front_all}
use Rattle.ev_report.proofs.Taking.{octets_none, octets_both}
use Rattle.ev_report.proofs.stream.Intake.take_piece.Goals as goal

pub loop-rest-init : goal.loop-rest-init
loop-rest-init g c =
    let s : State = state c.args.self.now (g.N.Out.end c.args.notes.now) in
    record {
      taken = front_none (λ octets. TakesOctets octets s s) c.args.piece.now (octets_none s);
      feed = c.requires.feed;
      few = omega arith;
    }

pub loop-rest-preserved : goal.loop-rest-preserved
loop-rest-preserved g c =
    let inv = c.loop-rest.invariant in
    let rest = c.loop-rest.rest.now in
    let n = c.in_ok-n.n in
    let s : State = state c.args.self.now (g.N.Out.end c.args.notes.now) in
    let t : State = state c.loop-rest.self (g.N.Out.end c.loop-rest.notes) in
    let u : State = state c.step.new.self (g.N.Out.end c.step.new.notes) in
    record {
      taken = subst (λ (behind : List ℕ). Front (λ octets. TakesOctets octets s u) c.args.piece.now behind)
          (sym c.split_at.ensures.back)
          (front_more (λ octets. TakesOctets octets s t) c.args.piece.now rest inv.taken
          (λ octets. TakesOctets octets s u) n
          (λ front h. octets_both front (take n rest) s t u h c.in_ok-n.ensures.taken));
      feed = c.in_ok-n.ensures.shows;
      few = omega (
        arith,
        inv.few,
        c.step.ensures.few,
        c.in_ok-n.ensures.some,
        c.in_ok-n.ensures.fits,
        c.split_at.ensures.back_len,
      );
    }

pub returns-in_err-n-clause-taken : goal.returns-in_err-n-clause-taken
returns-in_err-n-clause-taken g c =
    let rest = c.loop-rest.rest.now in
    let s : State = state c.args.self.now (g.N.Out.end c.args.notes.now) in
    let t : State = state c.loop-rest.self (g.N.Out.end c.loop-rest.notes) in
    let u : State = state c.step.new.self (g.N.Out.end c.step.new.notes) in
    front_rest (λ octets. TakesOctets octets s t) c.args.piece.now rest c.loop-rest.invariant.taken
    (λ octets. TakesOctets octets s u) (λ front h. octets_both front rest s t u h c.in_err-n.ensures.taken)

pub returns-clause-taken : goal.returns-clause-taken
returns-clause-taken g c =
    let rest = c.loop-rest.rest.now in
    let none : length rest ≡ 0 = grind (arith, nat_tests, c.is_empty.ensures, c.loop-rest-test.false) in
    let s : State = state c.args.self.now (g.N.Out.end c.args.notes.now) in
    let t : State = state c.loop-rest.self (g.N.Out.end c.loop-rest.notes) in
    front_all (λ octets. TakesOctets octets s t) c.args.piece.now rest c.loop-rest.invariant.taken none
