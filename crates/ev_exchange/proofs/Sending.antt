-- One record more is sent, or none.
use Rattle.std.proofs.Common.{◌≡◌, ℕ, ◌+◌, Bool, true, false, List, [], ◌∷◌, ◌++◌, Result, Ok, sym, ap}
use Rattle.std.proofs.Common.{Err, cond, is_ok, subst, ◌∙◌, append_assoc}
use Rattle.std.proofs.lemmas.List.{map_push}
use Rattle.ether_wire.specs.Ends.{End, IsOpen, with_text, Puts}
use Rattle.ether_wire.specs.declared.ends.Device.{Device}
use Rattle.ether_wire.proofs.Appending.{with_text_twice}
use Rattle.route_wire.specs.Fields.{Fields}
use Rattle.route_wire.specs.Record.{Reads}
use Rattle.route_wire.specs.Encode.{spelling_of}
use Rattle.ev_exchange.specs.Sending.{Sending, is_own, own_of, HasSent}
use Rattle.route_wire.specs.Records.{records_of, all_ok}
use Rattle.route_wire.proofs.Records.{reads_on, records-push as records_push}

reads_more : (us : List Fields) (u : Fields) → ((rest : List ℕ) → Reads (records_of us ++ rest) (all_ok us) rest)
    → ((rest : List ℕ) → Reads (spelling_of u ++ rest) (Ok u ∷ []) rest) → (rest : List ℕ)
    → Reads (records_of (us ++ u ∷ []) ++ rest) (all_ok (us ++ u ∷ [])) rest
reads_more us u before last rest =
    let whole : records_of us ++ (spelling_of u ++ rest) ≡ records_of (us ++ u ∷ []) ++ rest =
    sym (append_assoc (records_of us) (spelling_of u) rest)
    ∙ ap (λ (z : List ℕ). z ++ rest) (sym (records_push us u)) in
    subst (λ (z : List ℕ). Reads z (all_ok (us ++ u ∷ [])) rest) whole
    (subst (λ (z : List (Result Fields ℕ)). Reads (records_of us ++ (spelling_of u ++ rest)) z rest)
    (sym (map_push (λ x. Ok x) us u))
    (reads_on 3 (records_of us ++ (spelling_of u ++ rest)) (all_ok us) (Ok u ∷ []) (spelling_of u ++ rest) rest
    (before (spelling_of u ++ rest)) (last rest)))

-- one record more was written, or the call failed
sent_more : (s t : Sending) (start : End) (sent : List Fields) (u : Fields) → s.is_open ≡ true
    → (t.is_open ≡ true → t.end ≡ with_text s.end (spelling_of u))
    → (t.is_open ≡ false → IsOpen s.end → t.end.failures ≡ s.end.failures + 1)
    → ((rest : List ℕ) → Reads (spelling_of u ++ rest) (Ok u ∷ []) rest) → HasSent s start sent
    → HasSent t start (sent ++ u ∷ [])
sent_more s t start sent u opened put failed last h = record {
  written = λ e. put e ∙ ap (λ x. with_text x (spelling_of u)) (h.written opened)
      ∙ with_text_twice start (records_of sent) (spelling_of u) ∙ ap (with_text start) (sym (records_push sent u));
  failed = λ e. subst (λ (x : End). IsOpen x → t.end.failures ≡ x.failures + 1) (h.written opened) (failed e);
  again = reads_more sent u h.again last;
}

never : true ≡ false → ⊥
never e = cc

-- after a failed call none is made
pub sent_none : (s : Sending) (start : End) (sent : List Fields) (u : Fields) → s.is_open ≡ false
    → ((rest : List ℕ) → Reads (spelling_of u ++ rest) (Ok u ∷ []) rest) → HasSent s start sent
    → HasSent s start (sent ++ u ∷ [])
sent_none s start sent u shut last h = record {
  written = λ e. absurd (never (sym e ∙ shut));
  failed = h.failed;
  again = reads_more sent u h.again last;
}

-- the result of a call of `put`
pub sent_put : (s : Sending) (e e' : End) (o b : Bool) (held held' : List ℕ) (u : Fields) (octets : List ℕ)
    (r : Result (Unit {0}) Device) → record { end = e; is_open = o; held = held } ≡ s → o ≡ true
    → octets ≡ spelling_of u → Puts e e' octets r → b ≡ is_ok r
    → ((rest : List ℕ) → Reads (spelling_of u ++ rest) (Ok u ∷ []) rest) → (start : End) (sent : List Fields)
    → HasSent s start sent → HasSent (record { end = e'; is_open = b; held = held' }) start (sent ++ u ∷ [])
sent_put s e e' o b held held' u octets (Ok done) same opened spells put is last start sent h =
    sent_more s (record { end = e'; is_open = b; held = held' }) start sent u
    (sym (ap (λ (x : Sending). x.is_open) same) ∙ opened)
    (λ _. put ∙ ap (with_text e) spells ∙ ap (λ (x : Sending). with_text x.end (spelling_of u)) same)
    (λ shut. absurd (never (sym is ∙ shut))) last h
sent_put s e e' o b held held' u octets (Err device) same opened spells put is last start sent h =
    sent_more s (record { end = e'; is_open = b; held = held' }) start sent u
    (sym (ap (λ (x : Sending). x.is_open) same) ∙ opened)
    (λ still. absurd (never (sym still ∙ is)))
    (λ _. subst (λ (x : Sending). IsOpen x.end → e'.failures ≡ x.end.failures + 1) same put) last h

-- ---- a walk over updates, some of which are sent
pub own_is : (o : ℕ) (u : Fields) → is_own o u ≡ true → own_of o (u ∷ []) ≡ u ∷ []
own_is o u own = ap (λ b. cond b (u ∷ []) []) own

pub own_isnt : (o : ℕ) (u : Fields) → is_own o u ≡ false → own_of o (u ∷ []) ≡ []
own_isnt o u other = ap (λ b. cond b (u ∷ []) []) other
