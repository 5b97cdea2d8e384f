use Rattle.std.proofs.Common.{◌≡◌, ◌∷◌, drop, refl, sym, ap, ◌∙◌}
use Rattle.ether_wire.specs.Ends.{End, with_text}
use Rattle.ether_wire.proofs.Appending.{with_text_twice}
use Rattle.route_wire.specs.Fields.{Fields}
use Rattle.route_wire.specs.Encode.{spelling_of}
use Rattle.route_join.specs.Updates.{all_updates}
use Rattle.ev_report.specs.Migrated.{newest_along, entering, migrated_at, migrated_along, migrated_all}
use Rattle.ev_report.specs.Inner.Migrated.{behind}
use Rattle.ev_report.specs.Migrated.{records_of}
use Rattle.ev_report.proofs.Migrating.{behind_first, entered_is}
use Rattle.ev_report.proofs.migrate.put_migrated.Goals as goal

pub loop-update-init : goal.loop-update-init
loop-update-init g c =
    let e = g.W.Out.end c.args.out.now in
    let first = c.in-Some.first in
    let rest = c.next.new.self in
    let all : all_updates c.args.table.now ≡ first ∷ rest = sym c.updates-ahead.ensures.value
    ∙ c.in-Some.ensures.steps in
    let left : c.into_iter-update-iterator.result ≡ first ∷ rest = c.into_iter-update-iterator.ensures.into_iter_gives
    ∙ c.updates-update-items.ensures.value ∙ all in
    let newest : c.newest_along-newest.result ≡ newest_along first rest = c.newest_along-newest.ensures.newest in
    record {
      whole = ap (λ us. with_text e (records_of (migrated_all us))) all
          ∙ ap (λ (n : Fields). with_text e (records_of (migrated_along n (first ∷ rest)))) (sym newest)
          ∙ ap (λ us. with_text e (records_of (migrated_along c.newest_along-newest.result us))) (sym left);
      ahead = c.newest_along-newest.ensures.ahead ∙ ap (drop 1) (sym (behind_first first rest))
          ∙ ap (λ (n : Fields). drop 1 (behind n (first ∷ rest))) (sym newest)
          ∙ ap (λ us. drop 1 (behind c.newest_along-newest.result us)) (sym left);
      failed = refl;
    }

pub loop-update-preserved : goal.loop-update-preserved
loop-update-preserved g c =
    let inv = c.loop-update.invariant in
    let e = g.W.Out.end c.loop-update.out in
    let u = c.in-Some-update.update in
    let us = c.next-in-loop-update.new.self in
    let newest = c.loop-update.newest in
    let n = c.entered-newest.result in
    let both = entered_is newest u n us c.loop-update.ahead c.entered-newest.new.ahead (inv.ahead
    ∙ ap (λ x. drop 1 (behind newest x)) c.in-Some-update.ensures.steps) c.entered-newest.ensures.same
    c.entered-newest.ensures.other in
    let b = entering newest u us in
    let octets : c.as_slice.result.now ≡ spelling_of (migrated_at b u.register) =
    c.as_slice.ensures.value ∙ c.write.ensures.octets ∙ ap spelling_of (c.migrated_at.ensures
    ∙ ap (λ (x : Fields). migrated_at x u.register) both.0) in
    let put : g.W.Out.end c.put.new.self ≡ with_text e (spelling_of (migrated_at b u.register)) = c.in_ok-put.ensures
    ∙ ap (with_text e) octets in
    record {
      whole = inv.whole ∙ ap (λ x. with_text e (records_of (migrated_along newest x))) c.in-Some-update.ensures.steps
          ∙ sym (with_text_twice e (spelling_of (migrated_at b u.register)) (records_of (migrated_along b us)))
          ∙ ap (λ (x : End). with_text x (records_of (migrated_along b us))) (sym put)
          ∙ ap (λ (x : Fields). with_text (g.W.Out.end c.put.new.self) (records_of (migrated_along x us))) (sym both.0);
      ahead = both.1;
      failed = ap (λ (x : End). x.failures) put ∙ inv.failed;
    }
