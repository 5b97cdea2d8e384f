use Rattle.std.proofs.Common.{rules, ◌≡◌, Option, Some, sym, subst}
use Rattle.evpnd.specs.declared.streams.Stream.{Stream}
use Rattle.evpnd.specs.Checks.{desk}
use Rattle.evpnd.specs.Program.{RunsOpen}
use Rattle.evpnd.proofs.program.run_open.Goals as goal

pub returns-in-Some : goal.returns-in-Some
returns-in-Some g c =
    let is : c.args.host.now.descriptors.closed ≡ Some c.in-Some.stream = search rules in
    let shelf = g.F.Files.shelf c.args.files.now in
    subst (λ (o : Option Stream). RunsOpen c.args.is_asked c.args.policy o c.args.path.now (desk shelf c.args.devices)
    (desk shelf c.tell_closed.result.1) c.tell_closed.result.0)
    (sym is) (c.tell_closed.ensures shelf)
