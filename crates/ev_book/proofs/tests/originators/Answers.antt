use Rattle.std.proofs.Common.{◌∙◌, ap₂}
use Rattle.std.specs.List.{push}
use Rattle.ev_book.proofs.tests.originators.Goals as goal

pub returns : goal.returns
returns c =
    let one = c.push.ensures.items ∙ ap₂ push c.new-originators.ensures c.new.ensures in
    c.push-2.ensures.items ∙ ap₂ push one c.new-2.ensures
