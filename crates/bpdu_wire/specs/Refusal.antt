-- The numbers of the refusals.
use Rattle.std.specs.Prelude.{ℕ}
use Rattle.bpdu_wire.specs.Numbers.{TOO_SHORT, BAD_PROTOCOL, BAD_TYPE, BAD_VERSION, OVER_AGE}
use Rattle.bpdu_wire.specs.declared.refusal.BpduRefusal.{BpduRefusal}
use Rattle.bpdu_wire.specs.declared.refusal.BpduRefusal.TheVariants.{Short, BadProtocol, BadType, BadVersion, Aged}

abbrev pub refusal_number : BpduRefusal → ℕ
refusal_number Short = TOO_SHORT
refusal_number BadProtocol = BAD_PROTOCOL
refusal_number BadType = BAD_TYPE
refusal_number BadVersion = BAD_VERSION
refusal_number Aged = OVER_AGE
