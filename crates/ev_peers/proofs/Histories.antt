-- The history of a run, at its beginning and at its end.
use Rattle.std.proofs.Common.{◌≡◌, ◌≢◌, ℕ, zero, suc, ◌+◌, ◌<◌, ◌==◌, Bool, Option, Some, None, List, [], ◌∷◌, ◌++◌}
use Rattle.std.proofs.Common.{length, length-append, map, refl, ap, sym, ◌∙◌, subst, arith, slice_get, Result, Ok}
use Rattle.std.proofs.Common.{Err, IfSome}
use Rattle.std.proofs.lemmas.List.{length-map}
use mathlib.Core.List.{IsPrefix}
use Rattle.std.specs.declared.alloc.AllocError.{AllocError}
use Rattle.ev_edge.specs.declared.config.EdgeConfig.{EdgeConfig}
use Rattle.ev_edge.specs.Edge.{Edge}
use Rattle.ev_book.specs.Book.{BookState}
use Rattle.ev_book.specs.Opening.{IsOpened}
use Rattle.ev_book.specs.Booking.{Opens}
use Rattle.ev_book.specs.declared.log_entry.LogEntry.{LogEntry}
use Rattle.ev_book.specs.declared.log_entry.LogEntry.TheVariants.{Begins}
use Rattle.ev_book.specs.Log.{IsHistory, world, count}
use Rattle.ev_book.specs.HistoryOpening.{IsNew}
use Rattle.ev_book.specs.Rule.{SeatState}
use Rattle.ev_book.specs.Standing.{Stands}
use Rattle.ev_book.proofs.Histories.{Same, same, other, decide}
use Rattle.ev_book.proofs.Prefixes.{prefix_trans}
use Rattle.ev_book.proofs.Standing.{stands_later, first_config, first_closed}
use Rattle.ev_peers.specs.declared.edge_outcome.EdgeOutcome.{EdgeOutcome}
use Rattle.ev_peers.specs.EdgeThreads.{EdgeSetup}
use Rattle.ev_peers.specs.History.{IsSeatOf, StandsAt, configs_of}
use Rattle.ev_peers.specs.Inner.History.{AreSeatsOf, IsSeated, AreSeated, AreSeen}
use Rattle.ev_peers.specs.History.{RanStand, IsHistoryOf}
use Rattle.ev_peers.specs.Inner.History.{AreSettled}

abbrev Ran : Type 0
Ran = Result EdgeOutcome AllocError

-- ---- the last of a list

get_before : {A : Type 0} (xs : List A) (y : A) (n : ℕ) (x : A) → slice_get xs n ≡ Some x
    → slice_get (xs ++ y ∷ []) n ≡ Some x
get_before [] y n x h = absurd cc
get_before (z ∷ xs) y zero x h = h
get_before (z ∷ xs) y (suc n) x h = get_before xs y n x h

get_last : {A : Type 0} (xs : List A) (y : A) → slice_get (xs ++ y ∷ []) (length xs) ≡ Some y
get_last [] y = refl
get_last (z ∷ xs) y = get_last xs y

-- ---- the beginning

module _ {O : Type 0} where
  pub begun : (outside : Bool) (setups : List (EdgeSetup O)) (count : ℕ) → count ≡ length setups
      → IsNew outside (Begins outside (configs_of setups) ∷ []) count
  begun outside setups count is = record {
    configs = configs_of setups;
    log_is = refl;
    each = is ∙ sym (length-map setups (λ (setup : EdgeSetup O). setup.config));
  }

  -- there is a seat for each edge
  pub begun_each : (outside : Bool) (setups : List (EdgeSetup O)) (log : List LogEntry) (count : ℕ)
      → length (world log).configs ≡ count → log ≡ Begins outside (configs_of setups) ∷ [] → count ≡ length setups
  begun_each outside setups log count each is =
      sym each ∙ (ap (λ (l : List LogEntry). length (world l).configs) is
      ∙ length-map setups (λ (setup : EdgeSetup O). setup.config))

  config_at : (setups : List (EdgeSetup O)) (n : ℕ) (setup : EdgeSetup O) → slice_get setups n ≡ Some setup
      → slice_get (configs_of setups) n ≡ Some setup.config
  config_at [] n setup h = absurd cc
  config_at (s ∷ ss) zero setup h = ap (λ (o : Option (EdgeSetup O)). config_in o) h
    where
      config_in : Option (EdgeSetup O) → Option EdgeConfig
      config_in None = None
      config_in (Some x) = Some x.config
  config_at (s ∷ ss) (suc n) setup h = config_at ss n setup h

  -- each of these seats is that of an edge that isn't open yet
  pub begun_seats : (outside : Bool) (setups : List (EdgeSetup O)) (log : List LogEntry) (seats : List SeatState)
      → log ≡ Begins outside (configs_of setups) ∷ []
      → ((n : ℕ) (s : SeatState) → slice_get seats n ≡ Some s → s.place ≡ n)
      → ((n : ℕ) (s : SeatState) → slice_get seats n ≡ Some s → s.log ≡ log) → AreSeatsOf setups seats
  begun_seats outside setups log seats is places logs = record {
    at = λ n setup seat there at.
        let configs = configs_of setups in
        let place : seat.place ≡ n = places n seat at in
        let seen : seat.log ≡ Begins outside configs ∷ [] = logs n seat at ∙ is in (
          place,
          record {
            is_there = ap (λ (k : ℕ). slice_get (world seat.log).configs k) place
                ∙ first_config n setup.config outside configs seat.log seen (config_at setups n setup there);
            closed = first_closed seat.place outside configs seat.log seen;
          },
        );
  }

  pub seats_before : (setups setups' : List (EdgeSetup O)) (seats seats' : List SeatState) (setup : EdgeSetup O)
      (seat : SeatState) → setups ≡ setups' ++ setup ∷ [] → seats ≡ seats' ++ seat ∷ [] → AreSeatsOf setups seats
      → AreSeatsOf setups' seats'
  seats_before setups setups' seats seats' setup seat popped left are = record {
    at = λ n s t there at. are.at n s t
        (ap (λ (l : List (EdgeSetup O)). slice_get l n) popped ∙ get_before setups' setup n s there)
        (ap (λ (l : List SeatState). slice_get l n) left ∙ get_before seats' seat n t at);
  }

  pub seat_last : (setups setups' : List (EdgeSetup O)) (seats seats' : List SeatState) (setup : EdgeSetup O)
      (seat : SeatState) → setups ≡ setups' ++ setup ∷ [] → seats ≡ seats' ++ seat ∷ [] → length seats ≡ length setups
      → AreSeatsOf setups seats → (seat.place ≡ length setups') × IsSeatOf setup.config seat
  seat_last setups setups' seats seats' setup seat popped left many are =
      let n : length setups ≡ length setups' + 1 = ap length popped ∙ length-append setups' (setup ∷ []) in
      let m : length seats ≡ length seats' + 1 = ap length left ∙ length-append seats' (seat ∷ []) in
      let fewer : length seats' ≡ length setups' = omega (arith, n, m, many) in
      are.at (length setups') setup seat
      (ap (λ (l : List (EdgeSetup O)). slice_get l (length setups')) popped ∙ get_last setups' setup)
      (ap (λ (l : List SeatState). slice_get l (length setups')) left
      ∙ (ap (λ (n : ℕ). slice_get (seats' ++ seat ∷ []) n) (sym fewer) ∙ get_last seats' seat))

-- the book that was opened with a seat's configuration is how the seat's edge opens
pub seat_opens : (config : EdgeConfig) (seat : SeatState) (passes : ℕ) (b : BookState) → IsSeatOf config seat
    → IsOpened config passes b → Opens seat.place seat.log b.edge
seat_opens config seat passes b s o = record {
  config = config;
  is_there = s.is_there;
  closed = s.closed;
  opens = o.edge;
}

-- ---- the end

-- the log contains the entries of the seat at place k, too
pub seen_more : (k : ℕ) (all more : List LogEntry) (seats : List (Option SeatState)) (s : SeatState)
    → AreSeen k all seats
    → IsPrefix all more → slice_get seats k ≡ Some (Some s) → IsPrefix s.log more → AreSeen (k + 1) more seats
seen_more k all more seats s seen pre at this n x lt h = by_case (decide n k)
  where
    by_case : Same n k → IsPrefix x.log more
    by_case (same e) =
        let is : x ≡ s = cc (sym h ∙ (ap (slice_get seats) e ∙ at)) in subst (λ (y : SeatState). IsPrefix y.log more)
        (sym is) this
    by_case (other ne) = prefix_trans x.log all more (seen n x (omega (arith, lt, ne)) h) pre

-- no seat is at place k
pub seen_none : (k : ℕ) (all : List LogEntry) (seats : List (Option SeatState)) → AreSeen k all seats
    → slice_get seats k ≡ Some None → AreSeen (k + 1) all seats
seen_none k all seats seen at n x lt h = by_case (decide n k)
  where
    by_case : Same n k → IsPrefix x.log all
    by_case (same e) = absurd (cc (sym h ∙ (ap (slice_get seats) e ∙ at)))
    by_case (other ne) = seen n x (omega (arith, lt, ne)) h

pub seen_first : (log : List LogEntry) (seats : List (Option SeatState)) → AreSeen 0 log seats
seen_first log seats n x lt h = absurd (omega (arith, lt))

pub settled_more : (k : ℕ) (log : List LogEntry) (seats : List (Option SeatState)) (s : SeatState)
    → AreSettled k log seats
    → slice_get seats k ≡ Some (Some s) → count s.place log ≡ count s.place s.log → AreSettled (k + 1) log seats
settled_more k log seats s settled at this n x lt h = by_case (decide n k)
  where
    by_case : Same n k → count x.place log ≡ count x.place x.log
    by_case (same e) =
        let is : x ≡ s = cc (sym h ∙ (ap (slice_get seats) e ∙ at)) in
        subst (λ (y : SeatState). count y.place log ≡ count y.place y.log) (sym is) this
    by_case (other ne) = settled n x (omega (arith, lt, ne)) h

pub settled_none : (k : ℕ) (log : List LogEntry) (seats : List (Option SeatState)) → AreSettled k log seats
    → slice_get seats k ≡ Some None → AreSettled (k + 1) log seats
settled_none k log seats settled at n x lt h = by_case (decide n k)
  where
    by_case : Same n k → count x.place log ≡ count x.place x.log
    by_case (same e) = absurd (cc (sym h ∙ (ap (slice_get seats) e ∙ at)))
    by_case (other ne) = settled n x (omega (arith, lt, ne)) h

pub settled_first : (log : List LogEntry) (seats : List (Option SeatState)) → AreSettled 0 log seats
settled_first log seats n x lt h = absurd (omega (arith, lt))

-- one seat more, if there is one
pub seen_step : (k : ℕ) (all more : List LogEntry) (seats : List (Option SeatState)) (o : Option SeatState)
    → AreSeen k all seats → IsPrefix all more → slice_get seats k ≡ Some o → IfSome o (λ s. IsPrefix s.log more)
    → AreSeen (k + 1) more seats
seen_step k all more seats (Some s) seen pre at this = seen_more k all more seats s seen pre at this
seen_step k all more seats None seen pre at this =
    seen_none k more seats (λ n x lt h. prefix_trans x.log all more (seen n x lt h) pre) at

pub settled_step : (k : ℕ) (log : List LogEntry) (seats : List (Option SeatState)) (o : Option SeatState)
    → AreSettled k log seats → slice_get seats k ≡ Some o → IfSome o (λ s. count s.place log ≡ count s.place s.log)
    → AreSettled (k + 1) log seats
settled_step k log seats (Some s) settled at this = settled_more k log seats s settled at this
settled_step k log seats None settled at this = settled_none k log seats settled at

-- the seat at place k has seen no more than all
pub seen_at : (k count : ℕ) (log : List LogEntry) (seats : List (Option SeatState)) (o : Option SeatState)
    → AreSeen count log seats → k < count → slice_get seats k ≡ Some o → IfSome o (λ s. IsPrefix s.log log)
seen_at k count log seats (Some s) seen lt at = seen k s lt at
seen_at k count log seats None seen lt at = tt

-- all edges that ran are at the end of the joined history
all_stand : (log : List LogEntry) (place : ℕ) (rans : List Ran) (seats : List (Option SeatState))
    → AreSeated place rans seats
    → ((n : ℕ) (s : SeatState) → slice_get seats n ≡ Some (Some s) → IsPrefix s.log log)
    → ((n : ℕ) (s : SeatState) → slice_get seats n ≡ Some (Some s) → count s.place log ≡ count s.place s.log)
    → RanStand log place rans
all_stand log place [] [] h seen settled = tt
all_stand log place [] (s ∷ ss) h seen settled = absurd h
all_stand log place (r ∷ rs) [] h seen settled = absurd h
all_stand log place (Ok o ∷ rs) (Some s ∷ ss) h seen settled = (
  stands_later place s.log log o.edge h.0.legal (seen 0 s refl)
      (subst (λ (n : ℕ). count n log ≡ count n s.log) h.0.place_is (settled 0 s refl)) h.0.stands,
  all_stand log (place + 1) rs ss h.1 (λ n. seen (suc n)) (λ n. settled (suc n)),
)
all_stand log place (Ok o ∷ rs) (None ∷ ss) h seen settled = absurd h.0
all_stand log place (Err e ∷ rs) (Some s ∷ ss) h seen settled = absurd h.0
all_stand log place (Err e ∷ rs) (None ∷ ss) h seen settled =
    all_stand log (place + 1) rs ss h.1 (λ n. seen (suc n)) (λ n. settled (suc n))

within : {A : Type 0} (xs : List A) (n : ℕ) (x : A) → slice_get xs n ≡ Some x → n < length xs
within [] n x h = absurd cc
within (y ∷ xs) zero x h = omega arith
within (y ∷ xs) (suc n) x h = let r = within xs n x h in omega (arith, r)

-- there is one history of all edges
pub ended : (outside : Bool) (configs : List EdgeConfig) (first log : List LogEntry) (rans : List Ran)
    (seats : List (Option SeatState)) → first ≡ Begins outside configs ∷ [] → IsPrefix first log → IsHistory log
    → AreSeated 0 rans seats → AreSeen (length seats) log seats → AreSettled (length seats) log seats
    → IsHistoryOf outside configs rans
ended outside configs first log rans seats begins pre legal seated seen settled =
    let is : Begins outside configs ∷ pre.0 ≡ log = ap (λ (l : List LogEntry). l ++ pre.0) (sym begins) ∙ pre.1 in
    record {
      entries = pre.0;
      legal = subst IsHistory (sym is) legal;
      stand = subst (λ (l : List LogEntry). RanStand l 0 rans) (sym is)
          (all_stand log 0 rans seats seated (λ n s h. seen n s (within seats n (Some s) h) h)
          (λ n s h. settled n s (within seats n (Some s) h) h));
    }
