use Rattle.std.proofs.Common.{arith}
use Rattle.ev_config.specs.Summary.{all_vnis}
use Rattle.ev_config.proofs.Counting.{counted_more}
use Rattle.ev_config.proofs.summary.count_new.Goals as goal

pub loop-place-preserved : goal.loop-place-preserved
loop-place-preserved c =
    let place = c.loop-place.place in
    let count = c.loop-place.count in
    let last = c.count_last-count.result in
    record {
      few = omega (arith, c.loop-place.invariant.few, c.count_last-count.ensures.few);
      value = counted_more c.args.vnis.now (all_vnis c.args.later.now) c.split_at.result.1.now place
          c.index-vnis-place.result count last _ c.loop-place-test.true c.index-vnis-place.is
          c.split_at.ensures.back c.count_last-count.ensures.value c.loop-place.invariant.value;
    }
