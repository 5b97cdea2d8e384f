use Rattle.std.proofs.Common.{◌≡◌, ◌==◌, Bool, MatchBool, ℕ, sym, ◌∙◌, ap, subst, List, length, ◌<◌}
use mathlib.Core.List.{IsPrefix}
use Rattle.ev_book.specs.declared.log_entry.LogEntry.{LogEntry}
use Rattle.ev_book.specs.declared.log_entry.LogEntry.TheVariants.{Does}
use Rattle.ev_book.specs.Log.{World, IsHistory, world, count}
use Rattle.ev_book.specs.Rule.{SeatState, IsAdded}
use Rattle.ev_book.proofs.Prefixes.{prefix_trans}
use Rattle.ev_book.proofs.Extending.{adds_moves, added_back, taken_if}
use Rattle.ev_book.proofs.seat.Seat.exchange.Goals as goal

pub compare_exchange-found-requires : goal.compare_exchange-found-requires
compare_exchange-found-requires g c =
    let h = c.self.invariant.word_is in
    let offer = c.plain-offer.ensures in
    let pen = c.no_pen-pen.ensures in
    let both = c.both-both.ensures in
    let v = c.args.self.now.log in
    let at = c.args.self.now.place in
    let deed = c.args.adding.now.deed in
    let edge = c.args.adding.now.edge.now in
    let log_is : c.self.inside.front ≡ v = ap (λ (s : SeatState). s.log) c.self.view_is in
    let place_is : c.self.inside.place ≡ at = ap (λ (s : SeatState). s.place) c.self.view_is in
    let key_is : c.self.inside.word.key ≡ at = ap (λ w. w.key) h ∙ place_is in
    let ask_is : c.plain-offer.result.ask ≡ Does at deed edge = offer.1 ∙ ap (λ n. Does n deed edge) c.requires.place in
    let had : count at v ≡ c.self.inside.entries = sym
    (c.self.invariant.counted ∙ (ap (λ n. count n c.self.inside.front) place_is ∙ ap (count at) log_is)) in
    let seated : at < length (world v).configs =
    subst (λ (n : ℕ). n < length (world v).configs) place_is
    (subst (λ (l : List LogEntry). c.self.inside.place < length (world l).configs) log_is c.self.invariant.seated) in
    let pv : IsPrefix v c.both.inside.seen.log = rw (← log_is, c.both.view_is) both.this in
    let px : IsPrefix c.args.with.now c.both.inside.seen.log = rw c.both.view_is both.that in (
      ap (λ w. w.tracked) h,
      c.both.invariant.0 ∙ sym (ap (λ w. w.book) h),
      pen.0 ∙ (c.both.invariant.0 ∙ sym (ap (λ w. w.book) h)),
      offer.0,
      rw (key_is, pen.1, ask_is, offer.3)
          (adds_moves v c.both.inside.seen.log c.args.with.now at c.self.inside.entries deed edge
          (rw (← log_is) both.legal_this) both.legal_that pv px had seated c.requires.follows),
    )

pub returns-then-found-entries : goal.returns-then-found-entries
returns-then-found-entries g c =
    let e = c.compare_exchange-found.ensures in
    let both = c.both-both.ensures in
    let v = c.args.self.now.log in
    let at = c.args.self.now.place in
    let deed = c.args.adding.now.deed in
    let edge = c.args.adding.now.edge.now in
    let b = c.both.inside.seen.log in
    let new = c.compare_exchange-found.new.seen.log in
    let log_is : c.self.inside.front ≡ v = ap (λ (s : SeatState). s.log) c.self.view_is in
    let place_is : c.self.inside.place ≡ at = ap (λ (s : SeatState). s.place) c.self.view_is in
    let key_is : c.self.inside.word.key ≡ at = ap (λ w. w.key) c.self.invariant.word_is ∙ place_is in
    let ask_is : c.plain-offer.result.ask ≡ Does at deed edge = c.plain-offer.ensures.1 ∙ ap (λ n. Does n deed edge)
    c.requires.place in
    let had : count at v ≡ c.self.inside.entries = sym
    (c.self.invariant.counted ∙ (ap (λ n. count n c.self.inside.front) place_is ∙ ap (count at) log_is)) in
    let pv : IsPrefix v b = rw (← log_is, c.both.view_is) both.this in
    let px : IsPrefix c.args.with.now b = rw c.both.view_is both.that in
    let play : IsAdded c.self.inside.word.key c.self.inside.entries b c.plain-offer.result.ask new =
    taken_if (IsHistory new) c.compare_exchange-found.result c.self.inside.entries c.if-found-entries.true e.7 in
    let added : IsAdded at c.self.inside.entries b (Does at deed edge) new =
    subst (λ (n : ℕ). IsAdded n c.self.inside.entries b (Does at deed edge) new) key_is
    (subst (λ (x : LogEntry). IsAdded c.self.inside.word.key c.self.inside.entries b x new) ask_is play) in (
      prefix_trans c.args.with.now b new px e.6,
      added_back v b new at c.self.inside.entries (Does at deed edge) pv
          had added,
    )
