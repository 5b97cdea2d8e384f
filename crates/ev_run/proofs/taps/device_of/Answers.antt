use Rattle.std.proofs.Common.{rules, eqb, None}
use borrow.Author.Tests.{tests}
use Rattle.std.proofs.lemmas.Iterator.Consumers.{fold_from_yields_List}
use Rattle.std.proofs.lemmas.Iterator.Splits.{YieldsList-from_slice_split}
use Rattle.ev_run.specs.Inner.Taps.{row_device, first_device}
use Rattle.ev_run.proofs.taps.device_of.Goals as goal

pub returns : goal.returns
returns c = fold_from_yields_List _ (λ found row. first_device found (row_device row)) None c.fold.result
    c.fold.ensures.ran (YieldsList-from_slice_split _ (λ octet. eqb octet 10) c.args.text.now c.split.ensures.rest
    c.split.ensures.done c.split.ensures.closure (λ x b q k. search (rules, tests)))
    (λ found row after q k. search (rules, tests))
