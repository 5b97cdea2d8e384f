use Rattle.std.proofs.lemmas.List.Elements.{All-replicate}
use Rattle.route_join.specs.Inner.Names.{IsName}
use Rattle.route_join.proofs.names.Names.new.Goals as goal

pub invariant_of-result : goal.invariant_of-result
invariant_of-result c = All-replicate IsName 64 c.new.result c.new.ensures.name
