use Rattle.std.proofs.Common.{arith, ap, sym, subst, ◌∙◌, length, ◌≤◌}
use Rattle.mac_arena.specs.Learning.{IsLatest}
use Rattle.mac_arena.proofs.Values.{latest_learn, latest_later, ports_learn, chains_learn}
use Rattle.mac_arena.proofs.tests.Run.learn.Goals as goal

pub invariant_of-self : goal.invariant_of-self
invariant_of-self c =
    let run = c.args.self.now in
    let later : run.now ≤ c.args.second = omega arith in
    let after = c.learn-learnt.ensures.after in
    record {
      latest = subst (λ t. IsLatest t c.args.second) (sym after)
          (latest_learn run.table c.args.key c.args.port c.args.second c.learn-learnt.result
          (latest_later run.table run.now c.args.second later run.latest));
      ports = ap (λ t. length t.ports) after ∙ ports_learn run.table c.args.key c.args.port c.args.second
          c.learn-learnt.result ∙ run.ports;
      chains = ap (λ t. length t.chains) after ∙ chains_learn run.table c.args.key c.args.port c.args.second
          c.learn-learnt.result ∙ run.chains;
    }
