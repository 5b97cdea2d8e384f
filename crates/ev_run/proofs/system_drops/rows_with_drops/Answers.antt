use Rattle.std.proofs.Common.{rules, eqb}
use borrow.Author.Tests.{tests}
use Rattle.std.proofs.lemmas.Iterator.Consumers.{map_from_collect, YieldsList-from_filter, YieldsList-at}
use Rattle.std.proofs.lemmas.Iterator.Splits.{YieldsList-from_slice_split}
use Rattle.ev_run.specs.Inner.SystemDrops.{reports_drops}
use Rattle.ev_run.proofs.system_drops.rows_with_drops.Goals as goal

pub returns : goal.returns
returns c = map_from_collect c.collect.result c.collect.ensures.ran
    (YieldsList-from_filter _ reports_drops
    (YieldsList-at c.filter.ensures.source (YieldsList-from_slice_split _ (λ octet. eqb octet 10) c.args.text.now
    c.split.ensures.rest c.split.ensures.done c.split.ensures.closure (λ x b q k. search (rules, tests))))
    c.filter.ensures.closure (λ x b q k. search (rules, tests)))
