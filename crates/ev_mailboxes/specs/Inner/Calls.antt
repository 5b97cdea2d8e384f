-- The effect of each call on the pass of its end.
use Rattle.std.specs.Prelude.{◌≡◌, ◌+◌, ℕ, List, [], ◌∷◌, ◌++◌}
use Rattle.ev_mailboxes.specs.declared.view.View.{View}
use Rattle.ev_mailboxes.specs.declared.view.View.TheVariants.{Sender, Receiver}

module _ {T : Type 0} where
  -- the post has sent one more message
  abbrev pub with_put : T → View T → View T
  with_put x (Sender p put) = Sender p (put ++ x ∷ [])
  with_put x (Receiver got made) = Receiver got made

  -- the inbox has received one more message, of post p
  abbrev pub with_got : ℕ → T → View T → View T
  with_got p x (Sender q put) = Sender q put
  with_got p x (Receiver got made) = Receiver (got ++ (p, x) ∷ []) made

  -- the inbox has made one more post
  abbrev pub with_made : View T → View T
  with_made (Sender q put) = Sender q put
  with_made (Receiver got made) = Receiver got (made + 1)

  -- the new post, which has sent nothing
  abbrev pub next_sender : View T → View T
  next_sender (Sender q put) = Sender q put
  next_sender (Receiver got made) = Sender made []

  -- the inbox received this message, of some post
  abbrev pub Takes : View T → T → View T → Type 0
  Takes v x w = (p : ℕ) × (w ≡ with_got p x v)
