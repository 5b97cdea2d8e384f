-- The state of the sends over a link, after each second.
use Rattle.std.specs.Prelude.{ℕ, Bool, true, false, not, ◌&&◌, ◌||◌, nat_lt, if◌then◌else◌, Option, Some, None}
use Rattle.ev_mailboxes.specs.declared.send_watch.SendWatch.{SendWatch}

abbrev pub watch : ℕ → ℕ → Bool → Bool → SendWatch
watch sent failed was_bad is_reported = record {
  sent = sent;
  failed = failed;
  was_bad = was_bad;
  is_reported = is_reported;
}

abbrev pub new_watch : SendWatch
new_watch = watch 0 0 false false

-- a send failed in this second
abbrev pub is_bad : ℕ → SendWatch → Bool
is_bad failed w = nat_lt w.failed failed

-- no send failed in this second, and one worked
abbrev pub is_good : ℕ → ℕ → SendWatch → Bool
is_good sent failed w = not (is_bad failed w) && nat_lt w.sent sent

-- the change that is reported: sends fail if one failed in this second and in the last one before it with sends; they
-- work again after a good second, if it was reported that they fail
abbrev pub change_of : ℕ → ℕ → SendWatch → Option Bool
change_of sent failed w =
    if is_bad failed w then (if w.was_bad && not w.is_reported then Some false else None)
    else if is_good sent failed w then (if w.is_reported then Some true else None)
    else None

-- after a second; one without sends changes only the numbers
abbrev pub after_second : ℕ → ℕ → SendWatch → SendWatch
after_second sent failed w =
    if is_bad failed w then watch sent failed true (w.is_reported || w.was_bad)
    else if is_good sent failed w then watch sent failed false false
    else watch sent failed w.was_bad w.is_reported
