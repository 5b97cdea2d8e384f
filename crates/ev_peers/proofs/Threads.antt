-- Threads of edges, the last edge first.
use Rattle.std.proofs.Common.{◌≡◌, ℕ, ◌+◌, List, [], ◌∷◌, ◌++◌, length, reverse, refl, ap, sym, subst, ◌∙◌}
use Rattle.std.proofs.Common.{append_assoc, append-nil, length-append, Some, None, Option, Result, Ok, Err, IfOk, arith}
use Rattle.std.proofs.lemmas.List.{reverse-append, length-reverse}
use Rattle.std.specs.declared.alloc.AllocError.{AllocError}
use Rattle.std.specs.declared.thread.PromisedHandle.{PromisedHandle}
use Rattle.ev_peers.specs.declared.edge_outcome.EdgeOutcome.{EdgeOutcome}
use Rattle.ev_peers.specs.declared.run.OfEdge.{OfEdge}
use Rattle.ev_book.specs.Rule.{SeatState}
use Rattle.ev_book.specs.Standing.{Stands}
use Rattle.ev_peers.specs.EdgeThreads.{EdgeSetup, IsRanOf, AreRanFrom}
use Rattle.ev_peers.specs.History.{StandsAt, outcome_in}
use Rattle.ev_peers.specs.Inner.History.{seat_in, SeatedAs, IsSeated, AreSeated}
use Rattle.ev_peers.specs.Inner.Handles.{Handle, IsHandle, AreHandles}

abbrev Ran : Type 0
Ran = Result EdgeOutcome AllocError

-- the result of a thread
abbrev Full : Type 0
Full = Result (EdgeOutcome × SeatState) AllocError

-- a result is at its own place
full_seated : (place : ℕ) (full : Full) → SeatedAs (place + 1) full → IsSeated place (outcome_in full) (seat_in full)
full_seated place (Ok r) h =
    let same : r.1.place ≡ place = omega (arith, h.0) in
    record { legal = h.1.legal; place_is = same; stands = subst (λ (n : ℕ). Stands n r.1.log r.0.edge) same h.1.stands }
full_seated place (Err refused) h = tt

-- the edge of this seat stands at the end of its entries
pub seated_as : (number : ℕ) (seat : SeatState) (full : Full) → seat.place + 1 ≡ number
    → IfOk full (λ r. StandsAt seat.place r.1 r.0.edge) → SeatedAs number full
seated_as number seat (Ok r) is h =
    (ap (λ (n : ℕ). n + 1) h.place_is ∙ is, subst (λ (n : ℕ). StandsAt n r.1 r.0.edge) (sym h.place_is) h)
seated_as number seat (Err refused) is h = tt

-- one result more
seated_more : (place : ℕ) (rans : List Ran) (seats : List (Option SeatState)) (ran : Ran) (seat : Option SeatState)
    → AreSeated place rans seats → IsSeated (place + length rans) ran seat
    → AreSeated place (rans ++ ran ∷ []) (seats ++ seat ∷ [])
seated_more place [] [] ran seat h is = (subst (λ (n : ℕ). IsSeated n ran seat) (omega arith) is, tt)
seated_more place [] (s ∷ ss) ran seat h is = absurd h
seated_more place (r ∷ rs) [] ran seat h is = absurd h
seated_more place (r ∷ rs) (s ∷ ss) ran seat h is =
    (h.0, seated_more (place + 1) rs ss ran seat h.1 (subst (λ (n : ℕ). IsSeated n ran seat) (omega arith) is))

one_more : (before n m : ℕ) → m ≡ n + 1 → before + (m + 1) ≡ (before + 1) + (n + 1)
one_more before n m is = omega (arith, is)

first_more : (n m : ℕ) → m ≡ n → n + 1 ≡ 0 + (m + 1)
first_more n m is = omega (arith, is)

nothing : {A : Type 0} (xs : List A) → length xs ≡ 0 → xs ≡ []
nothing [] is = refl
nothing (x ∷ xs) is = cc

-- there is a handle for the last setup
not_none : {O : Type 0} (before : ℕ) (setups : List (EdgeSetup O)) (setup : EdgeSetup O)
    → AreHandles before (setups ++ setup ∷ []) [] → ⊥
not_none before [] setup h = h
not_none before (s ∷ ss) setup h = h

-- there is a setup for the last handle
not_left : (O : Type 0) (before : ℕ) (handles : List Handle) (handle : Handle)
    → AreHandles {O = O} before [] (handles ++ handle ∷ []) → ⊥
not_left O before [] handle h = h
not_left O before (x ∷ xs) handle h = h

module _ {O : Type 0} where
  abbrev Handles : ℕ → List (EdgeSetup O) → List Handle → Type 0
  Handles before setups handles = AreHandles {O = O} before setups handles

  none_left : (setups left : List (EdgeSetup O)) (ended : List Ran) → Handles (length ended) (reverse left) []
      → ((rest : List Ran) → AreRanFrom (length ended + 1) left rest → AreRanFrom 1 setups (ended ++ rest))
      → AreRanFrom 1 setups ended
  none_left setups [] ended h each =
      subst (λ (l : List Ran). AreRanFrom 1 setups l) (append-nil ended) (each [] tt)
  none_left setups (s ∷ ss) ended h each = absurd (not_none (length ended) (reverse ss) s
      (subst (λ (l : List (EdgeSetup O)). Handles (length ended) l []) (reverse-append (s ∷ []) ss) h))

  -- ---- starting

  -- all edges have been started
  pub all_started : (setups left : List (EdgeSetup O)) (running : List Handle) → left ≡ []
      → ((rest : List Handle) → Handles 0 (reverse left) rest → Handles 0 (reverse setups) (running ++ rest))
      → Handles 0 (reverse setups) running
  all_started setups left running none started =
      subst (λ (hs : List Handle). Handles 0 (reverse setups) hs) (append-nil running)
      (started [] (subst (λ (l : List (EdgeSetup O)). Handles 0 (reverse l) []) (sym none) tt))

  -- one edge more has been started
  pub one_started : (setups before all : List (EdgeSetup O)) (setup : EdgeSetup O) (running running' : List Handle)
      (handle : Handle) → all ≡ before ++ setup ∷ [] → running' ≡ running ++ handle ∷ []
      → IsHandle (length before + 1) setup handle
      → ((rest : List Handle) → Handles 0 (reverse all) rest → Handles 0 (reverse setups) (running ++ rest))
      → (rest : List Handle) → Handles 0 (reverse before) rest → Handles 0 (reverse setups) (running' ++ rest)
  one_started setups before all setup running running' handle popped pushed is started = λ rest h.
      let more : Handles 0 (setup ∷ reverse before) (handle ∷ rest) = (
        subst (λ (n : ℕ). IsHandle n setup handle)
            (first_more (length before) (length (reverse before)) (length-reverse before)) is,
        h,
      ) in
      let all_more = subst (λ (l : List (EdgeSetup O)). Handles 0 l (handle ∷ rest))
      (sym (ap reverse popped ∙ reverse-append before (setup ∷ []))) more in
      subst (λ (l : List Handle). Handles 0 (reverse setups) l)
      (sym (ap (λ (l : List Handle). l ++ rest) pushed ∙ append_assoc running (handle ∷ []) rest))
      (started (handle ∷ rest) all_more)

  -- ---- joining

  pub record Parts (before : ℕ) (setups : List (EdgeSetup O)) (setup : EdgeSetup O) (handles : List Handle)
      (handle : Handle) : Type 0 where
    pub others : Handles (before + 1) setups handles
    pub last : IsHandle (before + 1) setup handle

  -- the last handle is that of the last setup
  parts : (before : ℕ) (setups : List (EdgeSetup O)) (setup : EdgeSetup O) (handles : List Handle)
      (handle : Handle) → Handles before (setups ++ setup ∷ []) (handles ++ handle ∷ [])
      → Parts before setups setup handles handle
  parts before [] setup [] handle h = record { others = tt; last = h.0 }
  parts before [] setup (x ∷ xs) handle h = absurd (not_left O before xs handle h.1)
  parts before (s ∷ ss) setup [] handle h = absurd (not_none before ss setup h.1)
  parts before (s ∷ ss) setup (x ∷ xs) handle h =
      let rest = parts before ss setup xs handle h.1 in
      let number = one_more before (length ss) (length (ss ++ setup ∷ [])) (length-append ss (setup ∷ [])) in
      record { others = (subst (λ (n : ℕ). IsHandle n s x) number h.0, rest.others); last = rest.last }

  -- `ended` are the results of the first edges, and `running` the threads of the others
  pub record Joined (setups : List (EdgeSetup O)) (ended : List Ran) (seats : List (Option SeatState))
      (running : List Handle) : Type 0 where
    pub seated : AreSeated 0 ended seats
    pub left : List (EdgeSetup O)
    pub handles : Handles (length ended) (reverse left) running
    pub each : (rest : List Ran) → AreRanFrom (length ended + 1) left rest → AreRanFrom 1 setups (ended ++ rest)

  pub none_joined : (setups : List (EdgeSetup O)) (ended : List Ran) (seats : List (Option SeatState))
      (running : List Handle) → length ended ≡ 0 → length seats ≡ 0 → Handles 0 (reverse setups) running
      → Joined setups ended seats running
  none_joined setups ended seats running none no_seats h =
      subst (λ (l : List (Option SeatState)). Joined setups ended l running) (sym (nothing seats no_seats))
      (subst (λ (e : List Ran). Joined setups e [] running) (sym (nothing ended none)) (record {
        seated = tt;
        left = setups;
        handles = h;
        each = λ rest r. r;
      }))

  first_joined : (setups left : List (EdgeSetup O)) (ended : List Ran) (seats : List (Option SeatState))
      (before : List Handle) (handle : Handle) (full : Full)
      → ((setup : EdgeSetup O) → IsHandle (length ended + 1) setup handle
      → IsRanOf (length ended + 1) setup.config.address (length setup.outputs) (outcome_in full)
      × SeatedAs (length ended + 1) full)
      → AreSeated 0 ended seats
      → Handles (length ended) (reverse left) (before ++ handle ∷ [])
      → ((rest : List Ran) → AreRanFrom (length ended + 1) left rest → AreRanFrom 1 setups (ended ++ rest))
      → Joined setups (ended ++ outcome_in full ∷ []) (seats ++ seat_in full ∷ []) before
  first_joined setups [] ended seats before handle full kept seated h each =
      absurd (not_left O (length ended) before handle h)
  first_joined setups (s ∷ ss) ended seats before handle full kept seated h each =
      let ran = outcome_in full in
      let p = parts (length ended) (reverse ss) s before handle
      (subst (λ (l : List (EdgeSetup O)). Handles (length ended) l (before ++ handle ∷ []))
      (reverse-append (s ∷ []) ss) h) in
      let many : length (ended ++ ran ∷ []) ≡ length ended + 1 = length-append ended (ran ∷ []) in
      let kept_all = kept s p.last in
      record {
        seated = seated_more 0 ended seats ran (seat_in full) seated
            (subst (λ (n : ℕ). IsSeated n ran (seat_in full)) (omega arith)
            (full_seated (length ended) full kept_all.1));
        left = ss;
        handles = subst (λ (n : ℕ). Handles n (reverse ss) before) (sym many) p.others;
        each = λ rest r. subst (λ (l : List Ran). AreRanFrom 1 setups l) (sym (append_assoc ended (ran ∷ []) rest))
            (each (ran ∷ rest) (kept_all.0, subst (λ (n : ℕ). AreRanFrom (n + 1) ss rest) many r));
      }

  pub one_joined : (setups : List (EdgeSetup O)) (ended ended' : List Ran) (seats seats' : List (Option SeatState))
      (before all : List Handle) (handle : Handle) (full : Full) → all ≡ before ++ handle ∷ []
      → ended' ≡ ended ++ outcome_in full ∷ [] → seats' ≡ seats ++ seat_in full ∷ []
      → ((number : ℕ) (setup : EdgeSetup O) → IsHandle number setup handle
      → IsRanOf number setup.config.address (length setup.outputs) (outcome_in full) × SeatedAs number full)
      → Joined setups ended seats all → Joined setups ended' seats' before
  one_joined setups ended ended' seats seats' before all handle full popped pushed more kept j =
      subst (λ (l : List (Option SeatState)). Joined setups ended' l before) (sym more)
      (subst (λ (e : List Ran). Joined setups e (seats ++ seat_in full ∷ []) before) (sym pushed)
      (first_joined setups j.left ended seats before handle full (kept (length ended + 1)) j.seated
      (subst (λ (hs : List Handle). Handles (length ended) (reverse j.left) hs) popped j.handles) j.each))

  pub all_joined : (setups : List (EdgeSetup O)) (ended : List Ran) (seats : List (Option SeatState))
      (running : List Handle) → running ≡ [] → Joined setups ended seats running → AreRanFrom 1 setups ended
  all_joined setups ended seats running none j = none_left setups j.left ended
      (subst (λ (hs : List Handle). Handles (length ended) (reverse j.left) hs) none j.handles) j.each

  -- the result keeps the handle's promise
  pub kept_of : (number : ℕ) (setup : EdgeSetup O) (handle : PromisedHandle Full OfEdge) (full : Full)
      → IsRanOf handle.promise.number handle.promise.address handle.promise.ports (outcome_in full)
      → SeatedAs handle.promise.number full → IsHandle number setup (Some handle)
      → IsRanOf number setup.config.address (length setup.outputs) (outcome_in full) × SeatedAs number full
  kept_of number setup handle full kept seated is =
      let ports = length setup.outputs in
      let ran = outcome_in full in (
        subst (λ (n : ℕ). IsRanOf n setup.config.address ports ran) is.0
            (subst (λ (n : ℕ). IsRanOf handle.promise.number n ports ran) is.1
            (subst (λ (n : ℕ). IsRanOf handle.promise.number handle.promise.address n ran) is.2 kept)),
        subst (λ (n : ℕ). SeatedAs n full) is.0 seated,
      )
