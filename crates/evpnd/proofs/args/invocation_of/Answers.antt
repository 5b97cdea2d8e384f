use Rattle.std.proofs.Common.{map, string_bytes}
use Rattle.clap.specs.Words.{subcommand_rows_of}
use Rattle.evpnd.proofs.Given.{not_none}
use Rattle.evpnd.proofs.args.invocation_of.Goals as goal

pub unreachable-requires : goal.unreachable-requires
unreachable-requires g c =
    let answer = c.in-Ok.ensures.is_answer in
    not_none (map string_bytes c.args.words.now) (subcommand_rows_of c.in-Ok.matches) answer.0 answer.1
    c.in-None.ensures
