use Rattle.std.proofs.Common.{length, sym, ◌∙◌, arith, length-append}
use Rattle.std.proofs.lemmas.List.{nil_from_length}
use Rattle.route_wire.proofs.Prefixes.{whole_followed}
use Rattle.route_wire.proofs.Streams.{same_length}
use Rattle.route_wire.proofs.laws.no_record_begins_another.Goals as goal

pub returns : goal.returns
returns c = λ bytes more h k.
    let same = same_length _ _ (sym (whole_followed 3 bytes more (length bytes) h) ∙ k) in
    nil_from_length more (omega (arith, length-append bytes more))
