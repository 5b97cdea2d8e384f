-- The lines that `notice_worker` writes, one piece of news after the other.
use Rattle.std.proofs.Common.{◌≡◌, List, [], ◌∷◌, Option, Some, None, Ok, Err, ap, sym, ◌∙◌}
use Rattle.ether_wire.specs.declared.ends.Device.{Device}
use Rattle.ether_wire.specs.Ends.{End, with_text, Puts}
use Rattle.ether_wire.proofs.Appending.{with_text_none, puts_behind}
use Rattle.ev_links.specs.Coming.{behind, after_these}
use Rattle.ev_mailboxes.specs.Notices.{Told, lines_of, news_text, TellsAll}
use Rattle.ev_links.proofs.Behind.{behind_none}
use Rattle.ev_links.proofs.Coming.{one_more}

-- the news that came up to here, and its lines
pub record SoFar (came : Option (List (Option Told))) (old : End) (came' : Option (List (Option Told))) (new : End) :
    Type 0 where
  pub things : List Told
  pub told : came' ≡ after_these came things
  pub written : new ≡ with_text old (lines_of things)

pub begins : (came : Option (List (Option Told))) (old : End) → SoFar came old came old
begins came old = record { things = []; told = sym (behind_none came); written = sym (with_text_none old) }

module _ (came : Option (List (Option Told))) (old : End) (came1 : Option (List (Option Told))) (mid : End)
    (came2 : Option (List (Option Told))) (new : End) (s : SoFar came old came1 mid) where
  -- one more piece of news came, and its line was written
  pub goes_on : (n : Told) (done : Unit {0}) → came2 ≡ behind came1 (Some n ∷ [])
      → Puts mid new (news_text n.0 n.1) (Ok done) → SoFar came old came2 new
  goes_on n done more put = record {
    things = n ∷ s.things;
    told = one_more came came1 came2 s.things n s.told more;
    written = puts_behind old mid new (lines_of s.things) (news_text n.0 n.1) (Ok done) s.written put;
  }

  -- or a call of the writer failed
  pub fails : (n : Told) (device : Device) → came2 ≡ behind came1 (Some n ∷ [])
      → Puts mid new (news_text n.0 n.1) (Err device) → TellsAll came old came2 new (Err device)
  fails n device more put = record {
    things = n ∷ s.things;
    told = one_more came came1 came2 s.things n s.told more ∙ sym (behind_none (after_these came (n ∷ s.things)));
    written = puts_behind old mid new (lines_of s.things) (news_text n.0 n.1) (Err device) s.written put;
  }

  -- no more news came
  pub ends : (done : Unit {0}) → came2 ≡ behind came1 (None ∷ []) → TellsAll came old came2 mid (Ok done)
  ends done more = record {
    things = s.things;
    told = more ∙ ap (λ (k : Option (List (Option Told))). behind k (None ∷ [])) s.told;
    written = s.written;
  }
