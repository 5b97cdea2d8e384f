-- Each call keeps the rule of the mailbox.
use Rattle.std.proofs.Common.{◌≡◌, ◌≢◌, ◌<◌, ◌+◌, ◌==◌, ◌⊎◌, ℕ, zero, suc, Bool, true, false, true≢false, inl, inr}
use Rattle.std.proofs.Common.{if◌then◌else◌, eq-eqb, ne_eqb, List, [], ◌∷◌, ◌++◌, length, set, sym, refl, ap, ◌∙◌}
use Rattle.std.proofs.Common.{subst, ⊎_elim, append_assoc, arith, Contains, get_or}
use Rattle.std.proofs.lemmas.Bool.{eqb-true}
use Rattle.std.proofs.lemmas.List.Elements.{Contains-append_left, Contains-append_right, Contains-append_cases}
use Rattle.std.proofs.lemmas.List.{append-nil}
use mathlib.Core.Option.{Option, some, none, some-injective, some-ne-none}
use lib.ListN.{get_elem?}
use Rattle.crossbeam_channel.specs.Fifo.{Pushes, Pops, Forks}
use Rattle.ev_mailboxes.specs.declared.view.View.{View}
use Rattle.ev_mailboxes.specs.declared.view.View.TheVariants.{Sender, Receiver}
use Rattle.ev_mailboxes.specs.Delivery.{of, messages, number_of, IsSender, IsReceiver}
use Rattle.ev_mailboxes.specs.Inner.Calls.{with_put, with_made, next_sender}
use Rattle.ev_mailboxes.specs.Delivery.{Fits, Delivers}
use Rattle.ev_mailboxes.specs.Inner.Calls.{Takes}

-- ---- which pass a post has

abbrev nobody : ℕ → Option ℕ
nobody p = none

-- a post with a pass isn't one without
apart : (seat : ℕ → Option ℕ) (p q port : ℕ) → seat p ≡ some port → seat q ≡ none → p ≢ q
apart seat p q port has hasnt e = some-ne-none port (sym has ∙ (ap seat e ∙ hasnt))

apart_too : (seat : ℕ → Option ℕ) (p q port j : ℕ) → seat p ≡ some port → seat q ≡ some j → j ≢ port → p ≢ q
apart_too seat p q port j has too n e = n (sym (some-injective port j (sym has ∙ (ap seat e ∙ too))))

-- the passes, with one more
abbrev seat_with : (ℕ → Option ℕ) → ℕ → Option ℕ → ℕ → Option ℕ
seat_with seat p at q = if q == p then at else seat q

seat_here : (seat : ℕ → Option ℕ) (p : ℕ) (at : Option ℕ) → seat_with seat p at p ≡ at
seat_here seat p at = ap (λ (t : Bool). if t then at else seat p) (eq-eqb p p refl)

seat_there : (seat : ℕ → Option ℕ) (p : ℕ) (at : Option ℕ) (q : ℕ) → q ≢ p → seat_with seat p at q ≡ seat q
seat_there seat p at q n = ap (λ (t : Bool). if t then at else seat q) (ne_eqb q p n)

none_made : (seat : ℕ → Option ℕ) (made n q : ℕ) (t : Bool) → (if t then some n else seat q) ≡ none
    → (seat q ≡ none) ⊎ (t ≡ true)
none_made seat made n q true e = inr refl
none_made seat made n q false e = inl e

module _ {A : Type 0} where
  -- ---- lists

  at_set : (l : List A) (i j : ℕ) (a b : A) → get_elem? (set l i a) j ≡ some b
      → ((j ≡ i) × (a ≡ b)) ⊎ ((j ≢ i) × (get_elem? l j ≡ some b))
  at_set [] i j a b e = absurd (some-ne-none b (sym e))
  at_set (x ∷ xs) zero zero a b e = inl (refl, some-injective a b e)
  at_set (x ∷ xs) zero (suc j) a b e = inr ((λ h. omega arith), e)
  at_set (x ∷ xs) (suc i) zero a b e = inr ((λ h. omega arith), e)
  at_set (x ∷ xs) (suc i) (suc j) a b e =
      ⊎_elim (λ t. inl (ap suc t.0, t.1)) (λ t. let n = t.0 in inr ((λ h. n (omega arith)), t.1)) (at_set xs i j a b e)

  at_more : (l : List A) (a b : A) (j : ℕ) → get_elem? (l ++ a ∷ []) j ≡ some b
      → (get_elem? l j ≡ some b) ⊎ ((j ≡ length l) × (a ≡ b))
  at_more [] a b zero e = inr (refl, some-injective a b e)
  at_more [] a b (suc j) e = absurd (some-ne-none b (sym e))
  at_more (x ∷ xs) a b zero e = inl e
  at_more (x ∷ xs) a b (suc j) e = ⊎_elim (λ h. inl h) (λ h. inr (ap suc h.0, h.1)) (at_more xs a b j e)

  at_end : (l : List A) (a : A) → get_elem? (l ++ a ∷ []) (length l) ≡ some a
  at_end [] a = refl
  at_end (x ∷ xs) a = at_end xs a

  at_front : (l more : List A) (j : ℕ) (b : A) → get_elem? l j ≡ some b → get_elem? (l ++ more) j ≡ some b
  at_front [] more j b e = absurd (some-ne-none b (sym e))
  at_front (x ∷ xs) more zero b e = e
  at_front (x ∷ xs) more (suc j) b e = at_front xs more j b e

  -- an element of which F holds is there still, after another element is set for which F stays
  keeps : (F : A → Type 0) (l : List A) (i j : ℕ) (a b : A) → get_elem? l i ≡ some a → (F a → F b)
      → (x : A) × (get_elem? l j ≡ some x) × F x → (x : A) × (get_elem? (set l i b) j ≡ some x) × F x
  keeps F [] i j a b at f h = absurd (some-ne-none a (sym at))
  keeps F (y ∷ ys) zero zero a b at f h = (b, refl, f (subst F (some-injective h.0 a (sym h.1 ∙ at)) h.2))
  keeps F (y ∷ ys) zero (suc j) a b at f h = h
  keeps F (y ∷ ys) (suc i) zero a b at f h = h
  keeps F (y ∷ ys) (suc i) (suc j) a b at f h = keeps F ys i j a b at f h

module _ {T : Type 0} where
  abbrev Each : (ℕ → View T → Type 0) → List (View T) → Type 0
  Each F views = (j : ℕ) (u : View T) → get_elem? views j ≡ some u → F j u

  each_set : (F : ℕ → View T → Type 0) (views : List (View T)) (port : ℕ) (w : View T) → F port w
      → ((j : ℕ) (u : View T) → j ≢ port → get_elem? views j ≡ some u → F j u) → Each F (set views port w)
  each_set F views port w mine others j u e =
      ⊎_elim (λ (x : (j ≡ port) × (w ≡ u)). subst (λ (y : ℕ × View T). F y.0 y.1) (λ i. (sym x.0 i, x.1 i)) mine)
      (λ (x : (j ≢ port) × (get_elem? views j ≡ some u)). others j u x.0 x.1) (at_set views port j w u e)

  of_step : (x : T) (a b c : List T) → a ≡ b ++ c → (t : Bool)
      → (if t then x ∷ a else a) ≡ (if t then x ∷ b else b) ++ c
  of_step x a b c h true = ap (λ l. x ∷ l) h
  of_step x a b c h false = h

  pub of_append : (p : ℕ) (xs ys : List (ℕ × T)) → of p (xs ++ ys) ≡ of p xs ++ of p ys
  of_append p [] ys = refl
  of_append p (e ∷ es) ys = of_step e.1 (of p (es ++ ys)) (of p es) (of p ys) (of_append p es ys) (e.0 == p)

  of_one : (p : ℕ) (x : T) → of p ((p, x) ∷ []) ≡ x ∷ []
  of_one p x = ap (λ (t : Bool). if t then x ∷ [] else []) (eq-eqb p p refl)

  of_none : (p q : ℕ) (x : T) → p ≢ q → of q ((p, x) ∷ []) ≡ []
  of_none p q x n = ap (λ (t : Bool). if t then x ∷ [] else []) (ne_eqb p q n)

  -- a message of post p after the others
  after : (got waiting : List (ℕ × T)) (p : ℕ) (x : T) (q : ℕ)
      → of q (got ++ (waiting ++ (p, x) ∷ [])) ≡ of q (got ++ waiting) ++ of q ((p, x) ∷ [])
  after got waiting p x q =
      ap (of q) (sym (append_assoc got waiting ((p, x) ∷ []))) ∙ of_append q (got ++ waiting) ((p, x) ∷ [])

  of_here : (got waiting : List (ℕ × T)) (p : ℕ) (x : T)
      → of p (got ++ (waiting ++ (p, x) ∷ [])) ≡ of p (got ++ waiting) ++ x ∷ []
  of_here got waiting p x = after got waiting p x p ∙ ap (λ l. of p (got ++ waiting) ++ l) (of_one p x)

  of_there : (got waiting : List (ℕ × T)) (p : ℕ) (x : T) (q : ℕ) → p ≢ q
      → of q (got ++ (waiting ++ (p, x) ∷ [])) ≡ of q (got ++ waiting)
  of_there got waiting p x q n =
      after got waiting p x q
      ∙ (ap (λ l. of q (got ++ waiting) ++ l) (of_none p q x n) ∙ append-nil (of q (got ++ waiting)))

  pub messages_append : (xs ys : List (ℕ × T)) → messages (xs ++ ys) ≡ messages xs ++ messages ys
  messages_append [] ys = refl
  messages_append (e ∷ es) ys = ap (λ l. e.1 ∷ l) (messages_append es ys)

  -- ---- at the beginning

  abbrev newcomer : View T
  newcomer = Receiver [] 0

  fits_first : (pass : ℕ) (v : View T) → get_elem? (newcomer ∷ []) pass ≡ some v → Fits 0 nobody [] [] pass v
  fits_first zero v e =
      subst (λ (u : View T). Fits 0 nobody [] [] 0 u) (some-injective newcomer v e) (refl, refl, (λ p le. refl))
  fits_first (suc pass) v e = absurd (some-ne-none v (sym e))

  pub begins : Delivers [] (newcomer ∷ [])
  begins = record {
    reader = 0;
    seat = nobody;
    got = [];
    waiting = [];
    holds_these = refl;
    fits = fits_first;
    seated = λ p pass e. absurd (some-ne-none pass (sym e));
    of_posts = λ p e. refl;
  }

  -- ---- a message is sent

  fits_put : (reader : ℕ) (seat : ℕ → Option ℕ) (got waiting : List (ℕ × T)) (p : ℕ) (x : T) (port j : ℕ) (u : View T)
      → seat p ≡ some port → j ≢ port
      → Fits reader seat got (got ++ waiting) j u → Fits reader seat got (got ++ (waiting ++ (p, x) ∷ [])) j u
  fits_put reader seat got waiting p x port j (Sender q put) has n f =
      (f.0, of_there got waiting p x q (apart_too seat p q port j has f.0 n) ∙ f.1)
  fits_put reader seat got waiting p x port j (Receiver mine made) has n f = f

  pub puts : (n port : ℕ) (v : View T) (x : T) → IsSender v → Pushes Delivers n port v x (λ w. w ≡ with_put x v)
  puts n port (Sender p put) x _ items views room d at =
      let mine = d.fits port (Sender p put) at in
      let w : View T = Sender p (put ++ x ∷ []) in (
        w,
        record {
          reader = d.reader;
          seat = d.seat;
          got = d.got;
          waiting = d.waiting ++ (p, x) ∷ [];
          holds_these = messages_append d.waiting ((p, x) ∷ []) ∙ ap (λ l. l ++ x ∷ []) d.holds_these;
          fits = each_set (Fits d.reader d.seat d.got (d.got ++ (d.waiting ++ (p, x) ∷ []))) views port w
              (mine.0, of_here d.got d.waiting p x ∙ ap (λ l. l ++ x ∷ []) mine.1)
              (λ j u other e. fits_put d.reader d.seat d.got d.waiting p x port j u mine.0 other (d.fits j u e));
          seated = λ q pass e.
              keeps (λ (u : View T). number_of u ≡ some q) views port pass (Sender p put) w at (λ h. h)
              (d.seated q pass e);
          of_posts = λ q e. of_there d.got d.waiting p x q (apart d.seat p q port mine.0 e) ∙ d.of_posts q e;
        },
        refl,
      )
  puts n port (Receiver mine made) x is items views room d at = absurd (true≢false (sym is))

  -- ---- a message is received

  -- only the inbox has this pass
  fits_got : (reader : ℕ) (seat : ℕ → Option ℕ) (got got' log log' : List (ℕ × T)) (port j : ℕ) (u : View T)
      → port ≡ reader → j ≢ port → log ≡ log' → Fits reader seat got log j u → Fits reader seat got' log' j u
  fits_got reader seat got got' log log' port j (Sender q put) is n e f = (f.0, ap (of q) (sym e) ∙ f.1)
  fits_got reader seat got got' log log' port j (Receiver mine made) is n e f = absurd (n (f.0 ∙ sym is))

  -- a mailbox whose first message was received
  abbrev After : ℕ → View T → T → List T → List (View T) → Type 0
  After port v x items views = (w : View T) × Delivers items (set views port w) × Takes v x w

  abbrev head_of : T → List T → T
  head_of x [] = x
  head_of x (y ∷ ys) = y

  abbrev tail_of : List T → List T
  tail_of [] = []
  tail_of (y ∷ ys) = ys

  abbrev is_cons : List T → Bool
  is_cons [] = false
  is_cons (y ∷ ys) = true

  takes_first : (port made : ℕ) (mine : List (ℕ × T)) (x : T) (items : List T) (views : List (View T))
      (d : Delivers (x ∷ items) views) (p : ℕ) (y : T) (rest : List (ℕ × T)) → d.waiting ≡ (p, y) ∷ rest
      → get_elem? views port ≡ some (Receiver mine made) → After port (Receiver mine made) x items views
  takes_first port made mine x items views d p y rest front at =
      let these : y ∷ messages rest ≡ x ∷ items = ap messages (sym front) ∙ d.holds_these in
      let is : y ≡ x = ap (head_of x) these in
      let first : d.waiting ≡ (p, x) ∷ rest = front ∙ ap (λ z. (p, z) ∷ rest) is in
      let me = d.fits port (Receiver mine made) at in
      let w : View T = Receiver (mine ++ (p, x) ∷ []) made in
      let got' : List (ℕ × T) = d.got ++ (p, x) ∷ [] in
      let log : List (ℕ × T) = d.got ++ d.waiting in
      let e : log ≡ got' ++ rest = ap (λ l. d.got ++ l) first ∙ sym (append_assoc d.got ((p, x) ∷ []) rest) in (
        w,
        record {
          reader = d.reader;
          seat = d.seat;
          got = got';
          waiting = rest;
          holds_these = ap tail_of these;
          fits = each_set (Fits d.reader d.seat got' (got' ++ rest)) views port w
              (me.0, ap (λ l. l ++ (p, x) ∷ []) me.1, me.2)
              (λ j u other h. fits_got d.reader d.seat d.got got' log (got' ++ rest) port j u me.0 other e
              (d.fits j u h));
          seated = λ q pass h.
              keeps (λ (u : View T). number_of u ≡ some q) views port pass (Receiver mine made) w at (λ k. k)
              (d.seated q pass h);
          of_posts = λ q h. ap (of q) (sym e) ∙ d.of_posts q h;
        },
        (p, refl),
      )

  takes_one : (port made : ℕ) (mine : List (ℕ × T)) (x : T) (items : List T) (views : List (View T))
      (d : Delivers (x ∷ items) views) (waiting : List (ℕ × T)) → d.waiting ≡ waiting
      → get_elem? views port ≡ some (Receiver mine made) → After port (Receiver mine made) x items views
  takes_one port made mine x items views d [] is at =
      absurd (true≢false (sym (ap is_cons (sym (ap messages is) ∙ d.holds_these))))
  takes_one port made mine x items views d (e ∷ rest) is at =
      takes_first port made mine x items views d e.0 e.1 rest is at

  pub gets : (port : ℕ) (v : View T) → IsReceiver v → Pops Delivers port v (λ x w. Takes v x w)
  gets port (Sender q put) is x items views d at = absurd (true≢false is)
  gets port (Receiver mine made) is x items views d at =
      takes_one port made mine x items views d d.waiting refl at

  -- ---- a post is made

  -- beside the inbox there are no others, and no post has the next number
  fits_made : (reader : ℕ) (seat : ℕ → Option ℕ) (got log : List (ℕ × T)) (made : ℕ) (at : Option ℕ) (port j : ℕ)
      (u : View T) → port ≡ reader → j ≢ port → seat made ≡ none
      → Fits reader seat got log j u → Fits reader (seat_with seat made at) got log j u
  fits_made reader seat got log made at port j (Sender q put) is n free f =
      (seat_there seat made at q (λ e. apart seat q made j f.0 free e) ∙ f.0, f.1)
  fits_made reader seat got log made at port j (Receiver mine others) is n free f = absurd (n (f.0 ∙ sym is))

  -- the new post has the new pass, and each other post its own
  seated_made : (views : List (View T)) (seat : ℕ → Option ℕ) (made q pass : ℕ) (t : Bool) → (q == made) ≡ t
      → ((if t then some (length views) else seat q) ≡ some pass)
      → (seat q ≡ some pass → (v : View T) × (get_elem? views pass ≡ some v) × (number_of v ≡ some q))
      → (v : View T) × (get_elem? (views ++ Sender made [] ∷ []) pass ≡ some v) × (number_of v ≡ some q)
  seated_made views seat made q pass true is e old = (
    Sender made [],
    ap (get_elem? (views ++ Sender made [] ∷ [])) (sym (some-injective (length views) pass e))
        ∙ at_end views (Sender made []),
    ap some (sym (eqb-true q made is)),
  )
  seated_made views seat made q pass false is e old =
      let h = old e in (h.0, at_front views (Sender made [] ∷ []) pass h.0 h.1, h.2)

  pub makes : (port : ℕ) (v : View T) → IsReceiver v → Forks Delivers port v (with_made v) (next_sender v)
  makes port (Sender q put) is items views d at = absurd (true≢false is)
  makes port (Receiver mine made) is items views d at =
      let me = d.fits port (Receiver mine made) at in
      let left : View T = Receiver mine (made + 1) in
      let right : View T = Sender made [] in
      let vs : List (View T) = set views port left in
      let seat' : ℕ → Option ℕ = seat_with d.seat made (some (length vs)) in
      let log : List (ℕ × T) = d.got ++ d.waiting in
      let free : d.seat made ≡ none = me.2 made (omega arith) in
      let old : Each (Fits d.reader seat' d.got log) vs = each_set (Fits d.reader seat' d.got log) views port left (
        me.0,
        me.1,
        (λ q le. seat_there d.seat made (some (length vs)) q (λ e. omega (arith, le, e))
            ∙ me.2 q (omega (arith, le))),
      )
      (λ j u other e. fits_made d.reader d.seat d.got log made (some (length vs)) port j u me.0 other free
      (d.fits j u e)) in
      record {
        reader = d.reader;
        seat = seat';
        got = d.got;
        waiting = d.waiting;
        holds_these = d.holds_these;
        fits = λ j u e.
            ⊎_elim (λ h. old j u h)
            (λ h. subst (λ (y : ℕ × View T). Fits d.reader seat' d.got log y.0 y.1) (λ i. (sym h.0 i, h.1 i))
            (seat_here d.seat made (some (length vs)), d.of_posts made free)) (at_more vs right u j e);
        seated = λ q pass e.
            seated_made vs d.seat made q pass (q == made) refl e
            (λ h. keeps (λ (u : View T). number_of u ≡ some q) views port pass (Receiver mine made) left at (λ k. k)
            (d.seated q pass h));
        of_posts = λ q e.
            ⊎_elim (λ h. d.of_posts q h)
            (λ t. absurd (some-ne-none (length vs)
            (sym (ap (λ (b : Bool). if b then some (length vs) else d.seat q) t) ∙ e)))
            (none_made d.seat made (length vs) q (q == made) e);
      }

  -- ---- the laws

  pub are_sent : (items : List T) (views : List (View T)) (inbox post : ℕ) (got : List (ℕ × T)) (made p : ℕ)
      (put : List T) → Delivers items views → get_elem? views inbox ≡ some (Receiver got made)
      → get_elem? views post ≡ some (Sender p put)
      → (waiting : List (ℕ × T)) × (messages waiting ≡ items) × (of p (got ++ waiting) ≡ put)
  are_sent items views inbox post got made p put d mine theirs =
      let me = d.fits inbox (Receiver got made) mine in (
        d.waiting,
        d.holds_these,
        ap (λ l. of p (l ++ d.waiting)) me.1 ∙ (d.fits post (Sender p put) theirs).1,
      )

  none_in : (x : T) → Contains [] x → ⊥
  none_in x h = let below = h.1 in omega (arith, below)

  one_is : (y x : T) (k : ℕ) → k < 1 → get_or (y ∷ []) k x ≡ x → y ≡ x
  one_is y x zero below e = e
  one_is y x (suc k) below e = absurd (omega (arith, below))

  here : (y x : T) (es : List T) → y ≡ x → Contains (y ∷ es) x
  here y x es is = (zero, omega arith, is)

  -- an entry's message is among those of its post
  among_step : (y x : T) (es : List T) → (t : Bool) → Contains es x → Contains (if t then y ∷ es else es) x
  among_step y x es true h = Contains-append_right (y ∷ []) es x h
  among_step y x es false h = h

  among : (log : List (ℕ × T)) (x : T) → Contains (messages log) x → (p : ℕ) × Contains (of p log) x
  among [] x h = absurd (none_in x h)
  among (e ∷ es) x h =
      ⊎_elim
      (λ first. (
        e.0,
        subst (λ (t : Bool). Contains (if t then e.1 ∷ of e.0 es else of e.0 es) x)
            (sym (eq-eqb e.0 e.0 refl)) (here e.1 x (of e.0 es) (one_is e.1 x first.0 first.1 first.2)),
      ))
      (λ there. let m = among es x there in (m.0, among_step e.1 x (of m.0 es) (e.0 == m.0) m.1))
      (Contains-append_cases (e.1 ∷ []) (messages es) x h)

  -- the pass of a post
  post_of : (views : List (View T)) (post p : ℕ) (v : View T) (log : List (ℕ × T)) (x : T) (reader : ℕ)
      (seat : ℕ → Option ℕ) (got : List (ℕ × T)) → get_elem? views post ≡ some v → number_of v ≡ some p
      → Fits reader seat got log post v → Contains (of p log) x
      → (q : ℕ) × (put : List T) × (get_elem? views post ≡ some (Sender q put)) × Contains put x
  post_of views post p (Sender q put) log x reader seat got at is f h =
      (q, put, at, subst (λ l. Contains l x) (ap (λ n. of n log) (sym (some-injective q p is)) ∙ f.1) h)
  post_of views post p (Receiver mine made) log x reader seat got at is f h = absurd (some-ne-none p (sym is))

  seat_of : (items : List T) (views : List (View T)) (d : Delivers items views) (p : ℕ) (x : T) (o : Option ℕ)
      → d.seat p ≡ o → Contains (of p (d.got ++ d.waiting)) x
      → (post q : ℕ) × (put : List T) × (get_elem? views post ≡ some (Sender q put)) × Contains put x
  seat_of items views d p x none is h = absurd (none_in x (subst (λ l. Contains l x) (d.of_posts p is) h))
  seat_of items views d p x (some post) is h =
      let s = d.seated p post is in
      let r = post_of views post p s.0 (d.got ++ d.waiting) x d.reader d.seat d.got s.1 s.2 (d.fits post s.0 s.1) h in
      (post, r.0, r.1, r.2, r.3)

  pub was_sent : (items : List T) (views : List (View T)) (inbox : ℕ) (got : List (ℕ × T)) (made : ℕ) (x : T)
      → Delivers items views → get_elem? views inbox ≡ some (Receiver got made) → Contains (messages got) x
      → (post p : ℕ) × (put : List T) × (get_elem? views post ≡ some (Sender p put)) × Contains put x
  was_sent items views inbox got made x d mine h =
      let me = d.fits inbox (Receiver got made) mine in
      let all : Contains (messages (d.got ++ d.waiting)) x =
      subst (λ l. Contains l x) (sym (messages_append d.got d.waiting))
      (Contains-append_left (messages d.got) (messages d.waiting) x (subst (λ l. Contains (messages l) x) me.1 h)) in
      let m = among (d.got ++ d.waiting) x all in
      seat_of items views d m.0 x (d.seat m.0) refl m.1
