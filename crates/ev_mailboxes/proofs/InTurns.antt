-- The text that `tell_in_turn` writes of alerts that come one after the other.
use Rattle.std.proofs.Common.{◌≡◌, ◌<◌, ◌≤◌, ◌+◌, ℕ, List, take, length, get_or, Option, Result, ap, sym, subst, ◌∙◌}
use Rattle.std.proofs.lemmas.List.{take_all}
use Rattle.std.proofs.lemmas.List.Sums.{fold_more}
use Rattle.ether_wire.specs.declared.ends.Device.{Device}
use Rattle.ether_wire.specs.Ends.{End, with_text, Puts}
use Rattle.ether_wire.proofs.Appending.{with_text_twice, puts_behind}
use Rattle.ev_mailboxes.specs.declared.alarm.Alarm.{Alarm}
use Rattle.ev_mailboxes.specs.declared.board.Notice.{Notice}
use Rattle.ev_mailboxes.specs.Board.{BoardState, empty_board, last_notice}
use Rattle.ev_mailboxes.specs.InTurn.{after_sign, told_by, some_text, SoTold, so_told, with_sign, after_signs}
use Rattle.ev_mailboxes.specs.InTurn.{told_text}

module _ (edge : ℕ) (signs : List (Option Alarm)) (i : ℕ) (sign : Option Alarm) (within : i < length signs)
    (is : sign ≡ get_or signs i sign) where
  one_more : after_signs edge (take (i + 1) signs) ≡ with_sign edge (after_signs edge (take i signs)) sign
  one_more = fold_more (with_sign edge) (so_told empty_board _) signs i sign within
      ∙ ap (with_sign edge (after_signs edge (take i signs))) (sym is)

  pub board_more : (b b' : BoardState) → b ≡ (after_signs edge (take i signs)).board → b' ≡ after_sign sign b
      → b' ≡ (after_signs edge (take (i + 1) signs)).board
  board_more b b' was e = e ∙ ap (after_sign sign) was ∙ sym (ap (λ (t : SoTold). t.board) one_more)

  pub text_more : (b : BoardState) (old mid new : End) (notice : Option Notice)
      → b ≡ (after_signs edge (take i signs)).board
      → mid ≡ with_text old (after_signs edge (take i signs)).text → notice ≡ told_by sign b
      → new ≡ with_text mid (some_text edge notice)
      → new ≡ with_text old (after_signs edge (take (i + 1) signs)).text
  text_more b old mid new notice was text told put =
      let before = (after_signs edge (take i signs)).text in
      put ∙ ap (λ (n : Option Notice). with_text mid (some_text edge n)) (told ∙ ap (told_by sign) was)
      ∙ ap (λ (e : End). with_text e (some_text edge (told_by sign (after_signs edge (take i signs)).board))) text
      ∙ with_text_twice old before (some_text edge (told_by sign (after_signs edge (take i signs)).board))
      ∙ ap (with_text old) (sym (ap (λ (t : SoTold). t.text) one_more))

-- and at the end
pub told_all : (edge : ℕ) (signs : List (Option Alarm)) (i : ℕ) (b : BoardState) (old mid new : End)
    (notice : Option Notice) (r : Result (Unit {0}) Device) → length signs ≤ i
    → b ≡ (after_signs edge (take i signs)).board → mid ≡ with_text old (after_signs edge (take i signs)).text
    → notice ≡ last_notice b → Puts mid new (some_text edge notice) r → Puts old new (told_text edge signs) r
told_all edge signs i b old mid new notice r end was text told put =
    subst (λ (xs : List (Option Alarm)). Puts old new (told_text edge xs) r) (take_all i signs end)
    (puts_behind old mid new (after_signs edge (take i signs)).text
    (some_text edge (last_notice (after_signs edge (take i signs)).board)) r text (rw (sym was, sym told) put))
