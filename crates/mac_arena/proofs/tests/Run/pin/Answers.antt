use Rattle.std.proofs.Common.{ap, sym, subst, ◌∙◌, length}
use Rattle.mac_arena.specs.Learning.{IsLatest}
use Rattle.mac_arena.proofs.Values.{latest_pin, ports_pin, chains_pin}
use Rattle.mac_arena.proofs.tests.Run.pin.Goals as goal

pub invariant_of-self : goal.invariant_of-self
invariant_of-self c =
    let run = c.args.self.now in
    let after = c.pin.ensures.after in
    record {
      latest = subst (λ t. IsLatest t run.now) (sym after)
          (latest_pin run.table c.args.key c.args.port run.now run.latest);
      ports = ap (λ t. length t.ports) after ∙ ports_pin run.table c.args.key c.args.port ∙ run.ports;
      chains = ap (λ t. length t.chains) after ∙ chains_pin run.table c.args.key c.args.port ∙ run.chains;
    }
