-- The call for the next item.
use Rattle.std.specs.Prelude.{◌≡◌, ◌⊎◌, false, List, [], ◌∷◌, Option, Some, None}
use Rattle.ev_exchange.specs.declared.announcing.Due.{Due}
use Rattle.ev_links.specs.Coming.{behind}
use Rattle.ev_exchange.specs.SendLoop.{Told, has_due}
use Rattle.ev_exchange.specs.Sending.{Sending}

-- the next item came, or no more will come; or a call of the writer has failed, and no call waited for an item
abbrev pub Comes : Option (List Told) → Option (List Told) → Sending → Option Due → Type 0
Comes before after s' (Some due) = after ≡ behind before (has_due (Some due) ∷ [])
Comes before after s' None =
    (after ≡ behind before (has_due None ∷ [])) ⊎ ((after ≡ before) × (s'.is_open ≡ false))
