use Rattle.std.proofs.Common.{ap, sym, subst, ◌∙◌, length}
use Rattle.mac_arena.specs.Learning.{IsLatest}
use Rattle.mac_arena.proofs.Values.{latest_removal, ports_removal, chains_removal}
use Rattle.mac_arena.proofs.tests.Run.remove.Goals as goal

pub invariant_of-self : goal.invariant_of-self
invariant_of-self c =
    let run = c.args.self.now in
    let after = c.remove.ensures.after in
    record {
      latest = subst (λ t. IsLatest t run.now) (sym after) (latest_removal run.table c.args.key run.now run.latest);
      ports = ap (λ t. length t.ports) after ∙ ports_removal run.table c.args.key ∙ run.ports;
      chains = ap (λ t. length t.chains) after ∙ chains_removal run.table c.args.key ∙ run.chains;
    }
