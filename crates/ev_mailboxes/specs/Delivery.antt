-- The rule of a mailbox with any number of posts and one inbox.
use Rattle.std.specs.Prelude.{◌≡◌, ◌≤◌, ◌==◌, ℕ, Bool, true, false, List, [], ◌∷◌, ◌++◌, map, if◌then◌else◌}
use mathlib.Core.Option.{Option, some, none}
use lib.ListN.{get_elem?}
use Rattle.ev_mailboxes.specs.declared.view.View.{View}
use Rattle.ev_mailboxes.specs.declared.view.View.TheVariants.{Sender, Receiver}

module _ {T : Type 0} where
  -- ---- the messages that came into a mailbox, each with the number of its post

  -- the messages of one post, in their order
  abbrev pub of : ℕ → List (ℕ × T) → List T
  of p [] = []
  of p (e ∷ es) = if e.0 == p then e.1 ∷ of p es else of p es

  -- the messages, without the numbers
  abbrev pub messages : List (ℕ × T) → List T
  messages entries = map (λ e. e.1) entries

  -- ---- the knowledge of a pass

  -- the number of a post
  abbrev pub number_of : View T → Option ℕ
  number_of (Sender p put) = some p
  number_of (Receiver got made) = none

  abbrev pub is_sender : View T → Bool
  is_sender (Sender p put) = true
  is_sender (Receiver got made) = false

  -- equations, so that a ghost field can state them
  abbrev pub IsSender : View T → Type 0
  IsSender v = is_sender v ≡ true

  abbrev pub IsReceiver : View T → Type 0
  IsReceiver v = is_sender v ≡ false

  -- ---- the rule

  -- a post's pass knows exactly the messages that it sent; the inbox's pass knows exactly those that were received, and
  -- how many posts were made
  abbrev pub Fits : ℕ → (ℕ → Option ℕ) → List (ℕ × T) → List (ℕ × T) → ℕ → View T → Type 0
  Fits reader seat got log pass (Sender p put) = (seat p ≡ some pass) × (of p log ≡ put)
  Fits reader seat got log pass (Receiver mine made) =
      (pass ≡ reader) × (mine ≡ got) × ((p : ℕ) → made ≤ p → seat p ≡ none)

  -- The received messages, followed by the waiting ones, are the sent ones: of each post, in its order, each once. Each
  -- message is of a post that has a pass.
  pub record Delivers (items : List T) (views : List (View T)) : Type 0 where
    pub reader : ℕ
    pub seat : ℕ → Option ℕ
    pub got : List (ℕ × T)
    pub waiting : List (ℕ × T)
    pub holds_these : messages waiting ≡ items
    pub fits : (pass : ℕ) (v : View T) → get_elem? views pass ≡ some v → Fits reader seat got (got ++ waiting) pass v
    pub seated : (p pass : ℕ) → seat p ≡ some pass
        → (v : View T) × (get_elem? views pass ≡ some v) × (number_of v ≡ some p)
    pub of_posts : (p : ℕ) → seat p ≡ none → of p (got ++ waiting) ≡ []
