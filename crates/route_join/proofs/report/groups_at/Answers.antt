use Rattle.std.proofs.Common.{take}
use Rattle.route_join.proofs.HexGroups.{groups_behind}
use Rattle.route_join.proofs.report.groups_at.Goals as goal

pub returns-clause-text : goal.returns-clause-text
returns-clause-text c = rw (c.two_groups_at.ensures.text, c.word_at-at.ensures.text, c.two_groups_at-at.ensures.text)
    (groups_behind (take c.args.at c.args.line.now) c.args.number)
