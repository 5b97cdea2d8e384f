use Rattle.std.proofs.Common.{lit<, refl}
use Rattle.route_join.proofs.Edits.{new_table, kept_none}
use Rattle.route_join.proofs.table.Table.with_salt.Goals as goal

pub invariant_of-result : goal.invariant_of-result
invariant_of-result c = rw c.new.ensures record {
  grouped =
      record { kept = kept_none c.args.originators.items c.requires; groups = tt };
  counted = refl;
  few = lit< tt;
}

pub returns : goal.returns
returns c = rw c.new.ensures (new_table c.args.originators.items)
