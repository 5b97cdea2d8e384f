use Rattle.std.proofs.Common.{refl}
use Rattle.bpdu_wire.proofs.laws.numbers_are_standard.Goals as goal

pub returns : goal.returns
returns c = record {
  topology_change = refl;
  proposal = refl;
  role_bits = refl;
  unknown_role = refl;
  alternate_or_backup_role = refl;
  root_role = refl;
  designated_role = refl;
  learning = refl;
  forwarding = refl;
  agreement = refl;
  change_acknowledgement = refl;
  time_units = refl;
  most_time = refl;
}
