use Rattle.std.proofs.Common.{ap, sym, subst, ◌∙◌, length, []}
use Rattle.std.proofs.lemmas.List.{length-replicate}
use Rattle.std.proofs.Common.{List}
use Rattle.mac_arena.specs.declared.station.Station.{Station}
use Rattle.mac_arena.specs.Learning.{IsLatest}
use Rattle.mac_arena.proofs.Values.{latest_nothing}
use Rattle.mac_arena.proofs.tests.Run.new.Goals as goal

pub invariant_of-result : goal.invariant_of-result
invariant_of-result c =
    let is = c.in_ok-table.ensures in
    let none : List Station = [] in
    record {
      latest = subst (λ t. IsLatest t 0) (sym is) (latest_nothing c.args.capacity 3 c.args.buckets 0 0);
      ports = ap (λ t. length t.ports) is ∙ length-replicate 3 none;
      chains = ap (λ t. length t.chains) is ∙ length-replicate c.args.buckets none;
    }
