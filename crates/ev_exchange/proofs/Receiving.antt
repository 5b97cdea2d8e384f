-- The octets that a receiver has received, and the end of its stream.
use Rattle.std.proofs.Common.{◌≡◌, ℕ, true, false, List, [], ◌++◌, Result}
use Rattle.std.proofs.Common.{Ok, Err, refl, sym, ap, subst, ◌∙◌, append_assoc, append-nil}
use Rattle.route_wire.specs.declared.stream.Whole.{Whole}
use Rattle.route_wire.specs.declared.stream.Whole.TheVariants.{Rest, Fault, Length}
use Rattle.route_wire.specs.declared.stream.Next.{Next}
use Rattle.route_wire.specs.declared.stream.Next.TheVariants.{More, Record, Refused, Fault as Faulted}
use Rattle.route_wire.specs.Fields.{Fields}
use Rattle.route_wire.specs.Record.{is_length, AnswersUpTo}
use Rattle.route_wire.specs.Stream.{whole_up_to}
use Rattle.route_wire.specs.Feed.{Held, HasRead, added, is_rest, shown, next_by, next_of}
use Rattle.route_wire.proofs.Cuttings.{read_whole_stream}
use Rattle.ev_exchange.specs.declared.stream_end.StreamEnd.{StreamEnd}
use Rattle.ev_links.specs.Coming.{behind}
use Rattle.ev_exchange.specs.Receiving.{Received, Given, AreCounts, news_of, handed, HasReceived}
use Rattle.ev_exchange.specs.Receiving.{Delivers, end_by}
use Rattle.ev_exchange.specs.Inner.Receiving.{end_of_next}
use Rattle.ev_links.proofs.Behind.{behind_twice, behind_none}
use Rattle.ev_exchange.proofs.Counting.{handed_push}

-- a receiver took these octets: it went from r to s, and the trace of the entrance from given to given'
abbrev pub Took : Received → Received → Given → Given → List ℕ → Type 0
Took r s given given' octets = (start : Given) (stream : List ℕ) → HasReceived r start given stream
    → HasReceived s start given' (stream ++ octets)

-- the part of a feed's next result that is passed on, after earlier answers
abbrev pub news_next : List (Result Fields ℕ) → Next → List (Result Fields ℕ)
news_next earlier More = []
news_next earlier (Record u) = news_of earlier (Ok u)
news_next earlier (Refused refusal) = news_of earlier (Err refusal)
news_next earlier (Faulted fault) = []

handed_next : (answers : List (Result Fields ℕ)) (x : Next)
    → handed (answers ++ added x) ≡ handed answers ++ news_next answers x
handed_next answers More = ap handed (append-nil answers) ∙ sym (append-nil (handed answers))
handed_next answers (Record u) = handed_push answers (Ok u)
handed_next answers (Refused refusal) = handed_push answers (Err refusal)
handed_next answers (Faulted fault) = ap handed (append-nil answers) ∙ sym (append-nil (handed answers))

-- the feed took octets and returned `told`, in a receiver whose view is v
pub received_step : (v r s : Received) (given given' : Given) (octets : List ℕ) (after : Held) (told x : Next) → r ≡ v
    → s.feed ≡ after → told ≡ x
    → ((stream : List ℕ) (answers : List (Result Fields ℕ)) → HasRead r.feed stream answers
    → HasRead after (stream ++ octets) (answers ++ added told))
    → ((answers : List (Result Fields ℕ)) → AreCounts r.counts answers → AreCounts s.counts (answers ++ added x))
    → ((answers : List (Result Fields ℕ)) → AreCounts r.counts answers → given' ≡ behind given (news_next answers x))
    → Took v s given given' octets
received_step v r s given given' octets after told x same fed is took counts news start stream h =
    let was = subst (λ (y : Received). HasReceived y start given stream) (sym same) h in
    record {
      answers = was.answers ++ added x;
      read = subst (λ (held : Held). HasRead held (stream ++ octets) (was.answers ++ added x)) (sym fed)
          (subst (λ (y : Next). HasRead after (stream ++ octets) (was.answers ++ added y)) is
          (took stream was.answers was.read));
      counts = counts was.answers was.counts;
      handed_on = news was.answers was.counts ∙ ap (λ k. behind k (news_next was.answers x)) was.handed_on
          ∙ behind_twice start (handed was.answers) (news_next was.answers x)
          ∙ ap (behind start) (sym (handed_next was.answers x));
    }

-- nothing is counted and nothing is passed on
pub counts_none : (counts : List ℕ) (answers : List (Result Fields ℕ)) → AreCounts counts answers
    → AreCounts counts (answers ++ [])
counts_none counts answers h = subst (AreCounts counts) (sym (append-nil answers)) h

pub none_given : (k : Given) → k ≡ behind k []
none_given k = sym (behind_none k)

-- ---- a piece
pub took_none : (r : Received) (given : Given) → Took r r given given []
took_none r given start stream h = subst (HasReceived r start given) (sym (append-nil stream)) h

pub took_both : (xs ys : List ℕ) (r s t : Received) (given given' given'' : Given) → Took r s given given' xs
    → Took s t given' given'' ys → Took r t given given'' (xs ++ ys)
took_both xs ys r s t given given' given'' f g start stream h =
    subst (HasReceived t start given'') (append_assoc stream xs ys) (g start (stream ++ xs) (f start stream h))

-- ---- the end
-- the held octets determine the end of the stream's rest
same_end : (w : Whole) (rest held : List ℕ) → is_length w ≡ false → (is_rest w ≡ true → rest ≡ held)
    → end_by w held ≡ end_by w rest
same_end Rest rest held e same = ap (end_by Rest) (sym (same refl))
same_end (Fault f) rest held e same = refl
same_end (Length n) rest held e same = cc

-- if no whole record is held, the feed's next result determines the end
end_told : (w : Whole) (rest : List ℕ) (x : Next) → is_length w ≡ false → x ≡ next_by w rest
    → end_of_next x rest ≡ end_by w rest
end_told Rest rest x e h = ap (λ y. end_of_next y rest) h
end_told (Fault f) rest x e h = ap (λ y. end_of_next y rest) h
end_told (Length n) rest x e h = cc

pub delivered : (r : Received) → r.feed.newest ≡ 3 → is_length (shown r.feed) ≡ false → (x : Next)
    → x ≡ next_of r.feed → (end : StreamEnd) → end ≡ end_of_next x r.feed.rest → (start given : Given)
    (stream : List ℕ) → HasReceived r start given stream → Delivers stream start given r.counts end
delivered r version none x next end is start given stream h =
    let whole = read_whole_stream r.feed stream h.answers h.read none in
    record {
      answers = h.answers;
      rest = whole.0;
      answered = subst (λ v. AnswersUpTo v stream h.answers whole.0) version whole.1;
      handed_on = h.handed_on;
      counted = h.counts;
      end_is = is ∙ end_told (shown r.feed) r.feed.rest x none next
          ∙ same_end (shown r.feed) whole.0 r.feed.rest none whole.3
          ∙ ap (λ w. end_by w whole.0) (sym whole.2)
          ∙ ap (λ v. end_by (whole_up_to v whole.0) whole.0) version;
    }
