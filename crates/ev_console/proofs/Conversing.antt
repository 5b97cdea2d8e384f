-- The course of a conversation, octet by octet.
use Rattle.std.proofs.Common.{◌≡◌, ℕ, zero, suc, ◌+◌, Bool, true, false, not, cond, List, [], ◌∷◌, ◌++◌, take}
use Rattle.std.proofs.Common.{Option, Result, Ok, Err, refl, sym, ap, subst, ◌∙◌, append_assoc, append-nil, codes}
use Rattle.std.proofs.Common.{◌<◌, length, length-append, arith}
use Rattle.std.specs.List.{flat_map}
use Rattle.std.proofs.lemmas.List.{take_all, take-append-le}
use Rattle.std.proofs.lemmas.Grind.{flat_map-append}
use Rattle.std.proofs.lemmas.List.Elements.{All-push, All-nil, All-head, All-tail}
use Rattle.ether_wire.specs.declared.ends.Device.{Device}
use Rattle.ether_wire.specs.Ends.{End, IsOpen, with_text, Puts}
use Rattle.ether_wire.proofs.Appending.{with_text_twice, with_text_none}
use Rattle.ev_links.specs.Coming.{behind}
use Rattle.ev_links.proofs.Behind.{behind_none, behind_twice}
use Rattle.ev_console.specs.Asking.{Asked}
use Rattle.ev_console.specs.Answers.{AnswersLine}
use Rattle.ev_console.specs.Inner.Answers.{Replies}
use Rattle.ev_console.specs.Conversation.{feed, is_feed, IsLine, kept, Exchange, IsExchange, lines_of, asked_of}
use Rattle.ev_console.specs.Conversation.{said_of, AreExchanges, is_cut, missing_feed, BreaksOff}
use Rattle.ev_console.specs.Inner.Conversation.{SoFar}
use Rattle.ev_console.specs.Inner.Conversation.{ToOctets, TakesOctets}
use Rattle.ev_console.specs.Inner.Conversation.{TakesEnd}

-- ---- the octets of a line that are kept

take_kept : (n : ℕ) (p q : List ℕ) → take n (take n p ++ q) ≡ take n (p ++ q)
take_kept zero p q = refl
take_kept (suc n) [] q = refl
take_kept (suc n) (x ∷ p) q = ap (λ (t : List ℕ). x ∷ t) (take_kept n p q)

pub take_short : (n : ℕ) (xs : List ℕ) (x : ℕ) → length xs < n → take n (xs ++ x ∷ []) ≡ xs ++ x ∷ []
take_short n xs x h = take_all n (xs ++ x ∷ []) (let l = length-append xs (x ∷ []) in omega arith)

pub take_full : (n : ℕ) (xs : List ℕ) (x : ℕ) → length xs ≡ n → take n (xs ++ x ∷ []) ≡ xs
take_full n xs x h = take-append-le n xs (x ∷ []) (omega (arith, h)) ∙ take_all n xs (omega (arith, h))

none_kept : (n : ℕ) (p : List ℕ) → [] ≡ take (suc n) p → p ≡ []
none_kept n [] h = refl
none_kept n (x ∷ p) h = cc

-- ---- one exchange more

text_more : {X : Type 0} (text : X → List ℕ) (xs : List X) (x : X) → flat_map text (xs ++ x ∷ [])
    ≡ flat_map text xs ++ text x
text_more text xs x = flat_map-append text xs (x ∷ []) ∙ ap (λ t. flat_map text xs ++ t) (append-nil (text x))

asked_more : (xs : List Exchange) (x : Exchange) → asked_of (xs ++ x ∷ []) ≡ asked_of xs ++ x.asked
asked_more xs x = flat_map-append (λ (y : Exchange). y.asked) xs (x ∷ [])
    ∙ ap (λ (t : List Asked). asked_of xs ++ t) (append-nil x.asked)

-- a line that has begun, and the answer to its kept octets
abbrev exchange : List ℕ → List Asked → List ℕ → Exchange
exchange line asked text = record { line = line; asked = asked; text = text }

module _ (count : ℕ) (octets held : List ℕ) (before middle : Option (List Asked)) (old mid : End)
    (s : SoFar count octets held before middle old mid) where
  -- an octet that is no line feed
  pub sofar_kept : (octet : ℕ) (held' : List ℕ) → is_feed octet ≡ false → held' ≡ take 20001 (held ++ octet ∷ [])
      → SoFar count (octets ++ octet ∷ []) held' before middle old mid
  sofar_kept octet held' no_feed is = record {
    exchanges = s.exchanges;
    pending = s.pending ++ octet ∷ [];
    begun = All-push (λ (o : ℕ). is_feed o ≡ false) s.pending octet s.begun no_feed;
    held_is = is ∙ ap (λ (t : List ℕ). take 20001 (t ++ octet ∷ [])) s.held_is
        ∙ take_kept 20001 s.pending (octet ∷ []);
    are = record {
      are = ap (λ (t : List ℕ). t ++ octet ∷ []) s.are.are
          ∙ append_assoc (lines_of s.exchanges) s.pending (octet ∷ []);
      each = s.are.each;
    };
    told = s.told;
    written = s.written;
  }

  -- the answer to the line that has begun
  module _ (after : Option (List Asked)) (new : End) (r : Result (Unit {0}) Device)
      (h : Replies count held middle after mid new r) where
    abbrev last : Exchange
    last = exchange s.pending h.asked h.text

    last_is : IsExchange count last
    last_is = record {
      whole = s.begun;
      answers = subst (λ (l : List ℕ). AnswersLine count l h.asked h.text) s.held_is h.said;
    }

    asked_is : after ≡ behind before (asked_of s.exchanges ++ h.asked)
    asked_is = h.told ∙ ap (λ (k : Option (List Asked)). behind k h.asked) s.told
        ∙ behind_twice before (asked_of s.exchanges) h.asked

    pub sofar_answered : (done : Unit {0}) → r ≡ Ok done → SoFar count (octets ++ feed) [] before after old new
    sofar_answered done ok = record {
      exchanges = s.exchanges ++ last ∷ [];
      pending = [];
      begun = All-nil (λ (o : ℕ). is_feed o ≡ false);
      held_is = refl;
      are = record {
        are = ap (λ (t : List ℕ). t ++ feed) s.are.are ∙ append_assoc (lines_of s.exchanges) s.pending feed
            ∙ sym (text_more (λ (x : Exchange). x.line ++ feed) s.exchanges last)
            ∙ sym (append-nil (lines_of (s.exchanges ++ last ∷ [])));
        each = All-push (IsExchange count) s.exchanges last s.are.each last_is;
      };
      told = asked_is ∙ ap (behind before) (sym (asked_more s.exchanges last));
      written = subst (λ (x : Result (Unit {0}) Device). Puts mid new (h.text ++ codes "\n") x) ok h.written
          ∙ ap (λ (e : End). with_text e (h.text ++ feed)) s.written
          ∙ with_text_twice old (said_of s.exchanges) (h.text ++ feed)
          ∙ ap (with_text old) (sym (text_more (λ (x : Exchange). x.text ++ feed) s.exchanges last));
    }

    pub sofar_broken : (device : Device) → r ≡ Err device → BreaksOff count (octets ++ feed) before after old new
    sofar_broken device err = record {
      exchanges = s.exchanges;
      last = last;
      last_is = last_is;
      rest = [];
      are = record {
        are = ap (λ (t : List ℕ). t ++ feed) s.are.are ∙ append_assoc (lines_of s.exchanges) s.pending feed
            ∙ ap (λ (t : List ℕ). lines_of s.exchanges ++ t) (sym (append-nil (s.pending ++ feed)));
        each = s.are.each;
      };
      told = asked_is;
      failed = subst (λ (e : End). IsOpen e → new.failures ≡ e.failures + 1) s.written
          (subst (λ (x : Result (Unit {0}) Device). Puts mid new (h.text ++ codes "\n") x) err h.written);
    }

-- more octets may follow those that weren't processed
pub breaks_more : (count : ℕ) (octets more : List ℕ) (before after : Option (List Asked)) (old new : End)
    → BreaksOff count octets before after old new → BreaksOff count (octets ++ more) before after old new
breaks_more count octets more before after old new b = record {
  exchanges = b.exchanges;
  last = b.last;
  last_is = b.last_is;
  rest = b.rest ++ more;
  are = record {
    are = ap (λ (t : List ℕ). t ++ more) b.are.are
        ∙ append_assoc (lines_of b.exchanges) (b.last.line ++ feed ++ b.rest) more
        ∙ ap (λ (t : List ℕ). lines_of b.exchanges ++ t) (append_assoc (b.last.line ++ feed) b.rest more);
    each = b.are.each;
  };
  told = b.told;
  failed = b.failed;
}

-- ---- octets after octets

pub takes_none : (count : ℕ) (held : List ℕ) (asked : Option (List Asked)) (e : End) (done : Unit {0})
    → TakesOctets count [] held held asked asked e e (Ok done)
takes_none count held asked e done = λ octets before old s.
    subst (λ (t : List ℕ). SoFar count t held before asked old e) (sym (append-nil octets)) s

module _ (count : ℕ) (a b h0 h1 h2 : List ℕ) (k0 k1 k2 : Option (List Asked)) (e0 e1 e2 : End) where
  pub takes_both : (done : Unit {0}) (r : Result (Unit {0}) Device) → TakesOctets count a h0 h1 k0 k1 e0 e1 (Ok done)
      → TakesOctets count b h1 h2 k1 k2 e1 e2 r → TakesOctets count (a ++ b) h0 h2 k0 k2 e0 e2 r
  takes_both done r first second = λ octets before old s.
      subst (λ (t : List ℕ). ToOctets count t h2 before k2 old e2 r) (append_assoc octets a b)
      (second (octets ++ a) before old (first octets before old s))

  pub takes_broken : (device : Device) → TakesOctets count a h0 h1 k0 k2 e0 e2 (Err device)
      → TakesOctets count (a ++ b) h0 h2 k0 k2 e0 e2 (Err device)
  takes_broken device first = λ octets before old s.
      subst (λ (t : List ℕ). BreaksOff count t before k2 old e2) (append_assoc octets a b)
      (breaks_more count (octets ++ a) b before k2 old e2 (first octets before old s))

-- ---- one octet

module _ (count : ℕ) (octet : ℕ) (held : List ℕ) where
  pub takes_kept : (held' : List ℕ) (asked : Option (List Asked)) (e : End) (done : Unit {0}) → is_feed octet ≡ false
      → held' ≡ take 20001 (held ++ octet ∷ [])
      → TakesOctets count (octet ∷ []) held held' asked asked e e (Ok done)
  takes_kept held' asked e done no_feed is = λ octets before old s.
      sofar_kept count octets held before asked old e s octet held' no_feed is

  module _ (middle after : Option (List Asked)) (mid new : End) (is : octet ≡ 10) where
    takes_feed : (held' : List ℕ) (done : Unit {0}) → held' ≡ []
        → Replies count held middle after mid new (Ok done)
        → TakesOctets count (octet ∷ []) held held' middle after mid new (Ok done)
    takes_feed held' done empty h = λ octets before old s.
        subst (λ (o : ℕ). SoFar count (octets ++ o ∷ []) held' before after old new) (sym is)
        (subst (λ (t : List ℕ). SoFar count (octets ++ feed) t before after old new) (sym empty)
        (sofar_answered count octets held before middle old mid s after new (Ok done) h done refl))

    takes_lost : (held' : List ℕ) (device : Device) → Replies count held middle after mid new (Err device)
        → TakesOctets count (octet ∷ []) held held' middle after mid new (Err device)
    takes_lost held' device h = λ octets before old s.
        subst (λ (o : ℕ). BreaksOff count (octets ++ o ∷ []) before after old new) (sym is)
        (sofar_broken count octets held before middle old mid s after new (Err device) h device refl)

    pub takes_reply : (held' : List ℕ) (r : Result (Unit {0}) Device) → held' ≡ []
        → Replies count held middle after mid new r
        → TakesOctets count (octet ∷ []) held held' middle after mid new r
    takes_reply held' (Ok done) empty h = takes_feed held' done empty h
    takes_reply held' (Err device) empty h = takes_lost held' device h

-- ---- the end

cut_behind : (a : List ℕ) (o : ℕ) (s : List ℕ) → is_cut (a ++ o ∷ s) ≡ is_cut (o ∷ s)
cut_behind [] o s = refl
cut_behind (x ∷ []) o s = refl
cut_behind (x ∷ y ∷ a) o s = cut_behind (y ∷ a) o s

cut_line : (o : ℕ) (s : List ℕ) → IsLine (o ∷ s) → is_cut (o ∷ s) ≡ true
cut_line o [] h = ap not (All-head (λ (x : ℕ). is_feed x ≡ false) o [] h)
cut_line o (p ∷ s) h = cut_line p s (All-tail (λ (x : ℕ). is_feed x ≡ false) o (p ∷ s) h)

cut_feed : (line s : List ℕ) → is_cut s ≡ false → is_cut ((line ++ feed) ++ s) ≡ false
cut_feed line [] h = ap is_cut (append-nil (line ++ feed)) ∙ cut_behind line 10 []
cut_feed line (o ∷ s) h = cut_behind (line ++ feed) o s ∙ h

cut_lines : (xs : List Exchange) → is_cut (lines_of xs) ≡ false
cut_lines [] = refl
cut_lines (x ∷ xs) = cut_feed x.line (lines_of xs) (cut_lines xs)

module _ (count : ℕ) (octets held : List ℕ) (before middle : Option (List Asked)) (old mid : End)
    (s : SoFar count octets held before middle old mid) where
  -- no line has begun
  none_missing : held ≡ [] → (s.pending ≡ []) × (missing_feed octets ≡ [])
  none_missing empty =
      let none : s.pending ≡ [] = none_kept 20000 s.pending (sym empty ∙ s.held_is) in
      let whole : octets ≡ lines_of s.exchanges = s.are.are ∙ ap (λ (t : List ℕ). lines_of s.exchanges ++ t) none
      ∙ append-nil (lines_of s.exchanges) in
      (none, ap (λ (b : Bool). cond b feed []) (ap is_cut whole ∙ cut_lines s.exchanges))

  -- a line has begun
  one_missing : (o : ℕ) (p : List ℕ) → s.pending ≡ o ∷ p → missing_feed octets ≡ feed
  one_missing o p is =
      let begun : IsLine (o ∷ p) = subst IsLine is s.begun in
      let all : octets ≡ lines_of s.exchanges ++ o ∷ p =
      s.are.are ∙ ap (λ (t : List ℕ). lines_of s.exchanges ++ t) is in
      ap (λ (b : Bool). cond b feed []) (ap is_cut all ∙ cut_behind (lines_of s.exchanges) o p ∙ cut_line o p begun)

  some_pending : (p : List ℕ) → s.pending ≡ p → (held ≡ [] → ⊥) → missing_feed octets ≡ feed
  some_pending [] is some = absurd (some (s.held_is ∙ ap kept is))
  some_pending (o ∷ p) is some = one_missing o p is

pub ends_silent : (count : ℕ) (held : List ℕ) (asked : Option (List Asked)) (e : End) (done : Unit {0}) → held ≡ []
    → TakesEnd count held asked asked e e (Ok done)
ends_silent count held asked e done empty = λ octets before old s.
    let n = none_missing count octets held before asked old e s empty in
    subst (λ (t : List ℕ). SoFar count t [] before asked old e)
    (sym (ap (λ (t : List ℕ). octets ++ t) n.1 ∙ append-nil octets))
    (subst (λ (t : List ℕ). SoFar count octets t before asked old e) empty s)

pub ends_answered : (count : ℕ) (held : List ℕ) (middle after : Option (List Asked)) (mid new : End)
    (r : Result (Unit {0}) Device) → (held ≡ [] → ⊥) → Replies count held middle after mid new r
    → TakesEnd count held middle after mid new r
ends_answered count held middle after mid new (Ok done) some h = λ octets before old s.
    subst (λ (t : List ℕ). SoFar count (octets ++ t) [] before after old new)
    (sym (some_pending count octets held before middle old mid s s.pending refl some))
    (sofar_answered count octets held before middle old mid s after new (Ok done) h done refl)
ends_answered count held middle after mid new (Err device) some h = λ octets before old s.
    subst (λ (t : List ℕ). BreaksOff count (octets ++ t) before after old new)
    (sym (some_pending count octets held before middle old mid s s.pending refl some))
    (sofar_broken count octets held before middle old mid s after new (Err device) h device refl)

-- ---- the beginning, and an end without a rest

pub sofar_none : (count : ℕ) (held : List ℕ) (asked : Option (List Asked)) (e : End) → held ≡ []
    → SoFar count [] held asked asked e e
sofar_none count held asked e empty = record {
  exchanges = [];
  pending = [];
  begun = All-nil (λ (o : ℕ). is_feed o ≡ false);
  held_is = empty;
  are = record { are = refl; each = All-nil (IsExchange count) };
  told = sym (behind_none asked);
  written = sym (with_text_none e);
}

abbrev pub IsWhole : ℕ → List ℕ → Option (List Asked) → Option (List Asked) → End → End → Type 0
IsWhole count octets before after old new = (xs : List Exchange) × AreExchanges count octets xs []
    × (after ≡ behind before (asked_of xs)) × (new ≡ with_text old (said_of xs))

pub sofar_whole : (count : ℕ) (octets : List ℕ) (before after : Option (List Asked)) (old new : End)
    → SoFar count octets [] before after old new → IsWhole count octets before after old new
sofar_whole count octets before after old new s =
    let none : s.pending ≡ [] = none_kept 20000 s.pending s.held_is in (
      s.exchanges,
      subst (λ (t : List ℕ). AreExchanges count octets s.exchanges t) none s.are,
      s.told,
      s.written,
    )
