-- Which of two values is newer by their numbers.
use Rattle.std.proofs.Common.{ap, arith}
use Rattle.std.proofs.lemmas.Bool.Decides.{nat_tests}
use Rattle.std.specs.Cmp.{tied_itself}
use Rattle.std.specs.Ordering.{is_lt}
use Rattle.route_wire.specs.Inner.Totals.{value_total}
use Rattle.route_wire.specs.Laws.{NextNewer, NotNewerLower, NotNewerEarlier, NotNewerItself}

pub next_newer : NextNewer
next_newer v w past counted = grind (arith, nat_tests)

pub not_newer_lower : NotNewerLower
not_newer_lower v w same less = grind (arith, nat_tests)

pub not_newer_earlier : NotNewerEarlier
not_newer_earlier v w less = grind (arith, nat_tests)

pub not_newer_itself : NotNewerItself
not_newer_itself v = ap is_lt (tied_itself value_total v)
