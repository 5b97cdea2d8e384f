-- A feed that holds no whole record takes some octets of a piece, and again holds no whole record.
use Rattle.std.proofs.Common.{◌≡◌, ℕ, ◌<◌, false, List, length, sym, ap, subst, ◌∙◌}
use Rattle.route_wire.specs.declared.stream.Next.{Next}
use Rattle.route_wire.specs.Record.{is_length}
use Rattle.route_wire.specs.Feed.{Held, shown, TakesNext}
use Rattle.route_wire.proofs.Steps.{feeds_some, feeds_version, next_holds_none}

module _ (h after : Held) (piece : List ℕ) (n : ℕ) (told : Next) (t : TakesNext h after piece n told)
    (e : is_length (shown h) ≡ false) where
  pub takes_some : 0 < length piece → 0 < n
  takes_some some = feeds_some h t.mid piece n t.feeds e some

  pub takes_kept : h.newest ≡ 3 → (after.newest ≡ 3) × (is_length (shown after) ≡ false)
  takes_kept version = (
    ap (λ (x : Held). x.newest) t.after ∙ feeds_version h t.mid piece n t.feeds e ∙ version,
    subst (λ (x : Held). is_length (shown x) ≡ false) (sym t.after) (next_holds_none t.mid),
  )
