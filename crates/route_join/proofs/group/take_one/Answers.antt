use Rattle.std.proofs.Common.{rules, [], ◌∷◌, refl, ap, sym, ◌∙◌}
use Rattle.route_join.specs.Table.{entries_of}
use Rattle.route_join.proofs.Places.{at_only}
use Rattle.route_join.proofs.Leaders.{newer_takes}
use Rattle.route_join.proofs.group.take_one.Goals as goal

pub returns-clause-some : goal.returns-clause-some
returns-clause-some c held =
    let old = c.args.own.now in
    let update = c.args.update.now in
    let found = sym c.is_err.ensures.value ∙ c.if-is_err.false in
    let there = at_only old update.register c.place.result (search rules) found in
    newer_takes (old ∷ []) update (there.value old) c.is_older.ensures held (c.of.result ∷ [])
    (ap (λ u. entries_of (u ∷ [])) c.of.ensures ∙ there.write update refl) c.if-not-is_older.false
