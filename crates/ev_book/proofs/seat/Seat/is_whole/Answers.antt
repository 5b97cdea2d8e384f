use Rattle.std.proofs.Common.{◌≡◌, ◌<◌, ℕ, List, [], sym, ◌∙◌, ap, subst, length}
use Rattle.ev_edge.specs.declared.config.EdgeConfig.{EdgeConfig}
use Rattle.ev_book.specs.declared.log_entry.LogEntry.{LogEntry}
use Rattle.ev_book.specs.declared.log_entry.LogEntry.TheVariants.{Begins}
use Rattle.ev_book.specs.Log.{world, count}
use Rattle.ev_book.proofs.Extending.{looks_moves, whole_if}
use Rattle.ev_book.proofs.Prefixes.{prefix_trans}
use Rattle.ev_book.specs.Rule.{SeatState}
use mathlib.Core.List.{IsPrefix}
use Rattle.ev_book.proofs.Histories.{configs_same}
use Rattle.ev_book.proofs.seat.Seat.is_whole.Goals as goal

pub load-found-requires : goal.load-found-requires
load-found-requires g c =
    let h = c.self.invariant.word_is in
    let offer = c.plain-offer.ensures in
    let both = c.both-later.ensures in
    let x = c.later.inside.seen.log in
    let configs : (world x).configs ≡ (world c.self.inside.front).configs = rw c.later.view_is
    (configs_same c.self.inside.front c.both-later.result both.legal_this both.this) in
    let seated : c.self.inside.place < length (world x).configs =
    subst (λ (cs : List EdgeConfig). c.self.inside.place < length cs) (sym configs) c.self.invariant.seated in (
      ap (λ w. w.tracked) h,
      c.later.invariant.0 ∙ sym (ap (λ w. w.book) h),
      offer.0,
      rw (ap (λ w. w.key) h, offer.3)
          (looks_moves x c.self.inside.place c.plain-offer.result.ask c.later.invariant.1 seated),
    )

pub returns : goal.returns
returns g c =
    let e = c.load-found.ensures in
    let both = c.both-later.ensures in
    let v = c.args.self.now.log in
    let at = c.args.self.now.place in
    let new = c.load-found.new.seen.log in
    let log_is : c.self.inside.front ≡ v = ap (λ (s : SeatState). s.log) c.self.view_is in
    let place_is : c.self.inside.place ≡ at = ap (λ (s : SeatState). s.place) c.self.view_is in
    let key_is : c.self.inside.word.key ≡ at = ap (λ w. w.key) c.self.invariant.word_is ∙ place_is in
    let had : c.self.inside.entries ≡ count at v = c.self.invariant.counted ∙
    (ap (λ n. count n c.self.inside.front) place_is ∙ ap (count at) log_is) in
    let counted : count at new ≡ c.load-found.result = subst (λ (k : ℕ). count k new ≡ c.load-found.result) key_is
    e.6.1.0 in
    let seen : IsPrefix c.args.front.now c.later.inside.seen.log = rw c.later.view_is both.that in
    whole_if at c.self.inside.entries c.load-found.result v c.args.front.now new c.requires
    (prefix_trans c.args.front.now c.later.inside.seen.log new seen e.5) had counted
