-- The lines of alerts that come one after the other, if each accepted one is taken from the board at once.
use Rattle.std.specs.Prelude.{ℕ, List, [], ◌++◌, fold, Option, Some, None}
use Rattle.ev_mailboxes.specs.declared.alarm.Alarm.{Alarm}
use Rattle.ev_mailboxes.specs.declared.board.Notice.{Notice}
use Rattle.ev_mailboxes.specs.Board.{BoardState, empty_board, after_second, after_alarm, first_notice, after_take}
use Rattle.ev_mailboxes.specs.Board.{last_notice}
use Rattle.ev_mailboxes.specs.Notices.{notice_text}

-- a second passes; or an alert is accepted or suppressed, and the first waiting one is taken
abbrev pub after_sign : Option Alarm → BoardState → BoardState
after_sign None b = after_second b
after_sign (Some a) b = after_take (after_alarm a b)

-- the notice that is taken then
abbrev pub told_by : Option Alarm → BoardState → Option Notice
told_by None b = None
told_by (Some a) b = first_notice (after_alarm a b)

abbrev pub some_text : ℕ → Option Notice → List ℕ
some_text edge None = []
some_text edge (Some n) = notice_text edge n

-- a board, and the text written so far
pub record SoTold : Type 0 where
  pub board : BoardState
  pub text : List ℕ

abbrev pub so_told : BoardState → List ℕ → SoTold
so_told board text = record { board = board; text = text }

-- with one more sign
abbrev pub with_sign : ℕ → SoTold → Option Alarm → SoTold
with_sign edge t sign = so_told (after_sign sign t.board) (t.text ++ some_text edge (told_by sign t.board))

abbrev pub after_signs : ℕ → List (Option Alarm) → SoTold
after_signs edge signs = fold (with_sign edge) (so_told empty_board []) signs

-- the lines of these signs, and at the end the number of alerts that were suppressed since the last accepted one
abbrev pub told_text : ℕ → List (Option Alarm) → List ℕ
told_text edge signs =
    let t = after_signs edge signs in
    t.text ++ some_text edge (last_notice t.board)
