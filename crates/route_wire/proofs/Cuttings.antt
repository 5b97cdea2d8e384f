-- However a stream is cut, a feed reads each record once.
use Rattle.std.proofs.Common.{◌≡◌, ℕ, true, false, inl, inr, List, ◌++◌, append-nil, Result, refl, ap}
use Rattle.std.proofs.Common.{◌∙◌}
use Rattle.std.proofs.lemmas.Bool.{cases_Bool}
use Rattle.route_wire.specs.declared.stream.Whole.{Whole}
use Rattle.route_wire.specs.declared.stream.Whole.TheVariants.{Rest, Fault, Length}
use Rattle.route_wire.specs.Fields.{Fields}
use Rattle.route_wire.specs.Stream.{whole_up_to}
use Rattle.route_wire.specs.Record.{is_length, AnswersUpTo}
use Rattle.route_wire.specs.Feed.{Held, is_rest, is_fault, shown, HasRead}
use Rattle.route_wire.proofs.Prefixes.{settled}

no_fault_at_rest : (w : Whole) → is_rest w ≡ true → is_fault w ≡ false
no_fault_at_rest Rest e = refl
no_fault_at_rest (Fault f) e = cc
no_fault_at_rest (Length n) e = cc

module _ (h : Held) (stream : List ℕ) (answers : List (Result Fields ℕ)) (r : HasRead h stream answers) where
  nothing_skipped : is_rest (shown h) ≡ true → h.rest ++ r.skipped ≡ h.rest
  nothing_skipped e = rw (r.faulty (no_fault_at_rest (shown h) e)) (append-nil h.rest)

  -- octets that were skipped after a fault show nothing else
  same_shown : whole_up_to h.newest (h.rest ++ r.skipped) ≡ shown h
  same_shown = elim (cases_Bool (is_rest (shown h))) [
    | inl e ↦ ap (whole_up_to h.newest) (nothing_skipped e)
    | inr e ↦ settled h.newest h.rest r.skipped e
  ]

  pub read_whole_stream : is_length (shown h) ≡ false → (rest : List ℕ) × AnswersUpTo h.newest stream answers rest
      × (whole_up_to h.newest rest ≡ shown h) × (is_rest (shown h) ≡ true → rest ≡ h.rest)
  read_whole_stream e = (
    h.rest ++ r.skipped,
    record { reads = r.reads; ended = ap is_length same_shown ∙ e },
    same_shown,
    nothing_skipped,
  )
