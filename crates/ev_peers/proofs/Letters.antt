-- The letters between the workers of running edges: the announcements are sent, and the handled messages are those that
-- were sent.
use Rattle.std.proofs.Common.{◌≡◌, ◌⊎◌, ◌==◌, ℕ, Bool, true, false, if◌then◌else◌, List, [], ◌∷◌, ◌++◌, map, reverse}
use Rattle.std.proofs.Common.{Contains, Option, Some, None, refl, ap, sym, subst, ◌∙◌, inl, inr, ⊎_elim, append_assoc}
use Rattle.std.proofs.lemmas.List.{append-nil, map-append, reverse-append}
use Rattle.std.proofs.lemmas.List.Elements.{Contains-append_left, Contains-append_right, Contains-append_cases}
use Rattle.route_wire.specs.Fields.{Fields}
use Rattle.ev_book.specs.Book.{PassState}
use Rattle.ev_mailboxes.specs.declared.view.View.{View}
use Rattle.ev_mailboxes.specs.Delivery.{of, messages}
use Rattle.ev_mailboxes.proofs.Delivering.{are_sent, was_sent, messages_append}
use Rattle.ev_mailboxes.specs.Mail.{EdgeMessage, Letter}
use Rattle.ev_mailboxes.specs.declared.edge_message.EdgeMessage.TheVariants.{Record}
use Rattle.ev_mailboxes.specs.declared.edge_message.Letter.TheVariants.{Of, Stop}
use Rattle.ev_mailboxes.specs.Letter.{coming}
use Rattle.ev_mailboxes.specs.Posts.{one_with, with_record}
use Rattle.ev_peers.specs.declared.shared_edge.Ended.TheVariants.{End}
use Rattle.ev_peers.specs.Passing.{Said, announced, Announces}
use Rattle.ev_peers.specs.Working.{Standing, PeerEnds}
use Rattle.ev_links.specs.Coming.{behind}
use Rattle.ev_peers.proofs.Contained.{one_is, here, in_reverse, from_reverse, same_value, never_none, in_map, from_map}
use Rattle.ev_peers.specs.Laws.{letters_of, one_with_all, WasSent, HasReceived}

-- ---- sending

none_step : (t : Bool) (n : ℕ) (e : ℕ × List Letter) → (if t then e else (e.0, e.1 ++ [])) ≡ e
none_step true n e = refl
none_step false n e = ap (λ (l : List Letter). (e.0, l)) (append-nil e.1)

none_sent : (own : ℕ) (sent : List (ℕ × List Letter)) → sent ≡ map (one_with_all own []) sent
none_sent own [] = refl
none_sent own (e ∷ es) =
    ap (λ x. x ∷ es) (sym (none_step (e.0 == own) own e))
    ∙ ap (λ l. one_with_all own [] e ∷ l) (none_sent own es)

-- a record after others for one edge
more_step : (t : Bool) (own : ℕ) (us : List Fields) (u : Fields) (e : ℕ × List Letter) → (e.0 == own) ≡ t
    → one_with own u (if t then e else (e.0, e.1 ++ letters_of us))
    ≡ (if t then e else (e.0, e.1 ++ letters_of (us ++ u ∷ [])))
more_step true own us u e is = ap (λ (b : Bool). if b then e else (e.0, e.1 ++ Of (Record u) ∷ [])) is
more_step false own us u e is =
    ap (λ (b : Bool). if b then (e.0, e.1 ++ letters_of us) else (e.0, (e.1 ++ letters_of us) ++ Of (Record u) ∷ [])) is
    ∙ ap (λ (l : List Letter). (e.0, l))
    (append_assoc e.1 (letters_of us) (Of (Record u) ∷ [])
    ∙ ap (λ (l : List Letter). e.1 ++ l) (sym (map-append (λ (x : Fields). Of (Record x)) us (u ∷ []))))

one_more : (own : ℕ) (us : List Fields) (u : Fields) (sent : List (ℕ × List Letter))
    → with_record own u (map (one_with_all own us) sent) ≡ map (one_with_all own (us ++ u ∷ [])) sent
one_more own us u [] = refl
one_more own us u (e ∷ es) =
    ap (λ x. x ∷ with_record own u (map (one_with_all own us) es)) (more_step (e.0 == own) own us u e refl)
    ∙ ap (λ l. one_with_all own (us ++ u ∷ []) e ∷ l) (one_more own us u es)

same_own : (s : Said) (got : List Fields) → (announced s got).own ≡ s.own
same_own s [] = refl
same_own s (u ∷ us) = same_own s us

all_sent : (s : Said) (got : List Fields) → (announced s got).sent ≡ map (one_with_all s.own (reverse got)) s.sent
all_sent s [] = none_sent s.own s.sent
all_sent s (u ∷ us) =
    ap (λ (own : ℕ). with_record own u (announced s us).sent) (same_own s us)
    ∙ ap (λ l. with_record s.own u l) (all_sent s us)
    ∙ one_more s.own (reverse us) u s.sent
    ∙ ap (λ (l : List Fields). map (one_with_all s.own l) s.sent) (sym (reverse-append (u ∷ []) us))

pub announced_is_sent : (p p' : PassState) (old new : Said) (a : Announces p old p' new)
    → new.sent ≡ map (one_with_all old.own (reverse a.got)) old.sent
announced_is_sent p p' old new a = ap (λ (s : Said). s.sent) a.given ∙ all_sent old a.got

-- ---- taking

letter_of : (l : Letter) (m : EdgeMessage) → coming l ≡ Some m → l ≡ Of m
letter_of (Of n) m e = ap (λ (x : EdgeMessage). Of x) (same_value n m e)
letter_of Stop m e = absurd (never_none m e)

-- the messages of one post are among all
among_all_step : (q p : ℕ) (y x : Letter) (es : List (ℕ × Letter)) → (t : Bool)
    → (Contains (of p es) x → Contains (messages es) x) → Contains (if t then y ∷ of p es else of p es) x
    → Contains (y ∷ messages es) x
among_all_step q p y x es true rest h =
    ⊎_elim (λ first. here y x (messages es) (one_is y x first))
    (λ there. Contains-append_right (y ∷ []) (messages es) x (rest there))
    (Contains-append_cases (y ∷ []) (of p es) x h)
among_all_step q p y x es false rest h = Contains-append_right (y ∷ []) (messages es) x (rest h)

among_all : (p : ℕ) (log : List (ℕ × Letter)) (x : Letter) → Contains (of p log) x → Contains (messages log) x
among_all p [] x h = h
among_all p (e ∷ es) x h = among_all_step e.0 p e.1 x es (e.0 == p) (λ rest. among_all p es x rest) h

-- all that came to a worker that began with nothing: the handled messages, and then the end
came_is : (bridge : ℕ) (s s' : Standing) (came : List (Option EdgeMessage)) (ends : PeerEnds End bridge [] s came s')
    → came ≡ reverse (map Some ends.all.things) ++ None ∷ []
came_is bridge s s' came ends =
    same_value came (reverse (map Some ends.all.things) ++ None ∷ [])
    (ends.end ∙ ap (λ (k : Option (List (Option EdgeMessage))). behind k (None ∷ [])) ends.all.told)

pub each_taken_was_sent : (bridge : ℕ) (s s' : Standing) (came : List (Option EdgeMessage))
    (ends : PeerEnds End bridge [] s came s') (waiting : List Letter) (views : List (View Letter))
    → HasReceived came waiting views → (m : EdgeMessage) → Contains ends.all.things m → WasSent views m
each_taken_was_sent bridge s s' came ends waiting views h m taken =
    let all = map Some ends.all.things in
    let in_came : Contains came (Some m) =
    subst (λ l. Contains l (Some m)) (sym (came_is bridge s s' came ends))
    (Contains-append_left (reverse all) (None ∷ []) (Some m)
    (in_reverse all (Some m) (in_map Some ends.all.things m taken))) in
    let letter = from_map coming (messages h.got) (Some m) (subst (λ l. Contains l (Some m)) h.came_is in_came) in
    was_sent waiting views h.inbox h.got h.made (Of m) h.rule h.is_inbox
    (subst (λ (l : Letter). Contains (messages h.got) l) (letter_of letter.0 m letter.2) letter.1)

handled : (bridge : ℕ) (s s' : Standing) (came : List (Option EdgeMessage)) (ends : PeerEnds End bridge [] s came s')
    (m : EdgeMessage) → Contains came (Some m) → Contains ends.all.things m
handled bridge s s' came ends m h =
    let all = map Some ends.all.things in
    ⊎_elim
    (λ first.
    let r = from_map Some ends.all.things (Some m) (from_reverse all (Some m) first) in
    subst (λ (n : EdgeMessage). Contains ends.all.things n) (same_value r.0 m r.2) r.1)
    (λ last. absurd (never_none m (one_is None (Some m) last)))
    (Contains-append_cases (reverse all) (None ∷ []) (Some m)
    (subst (λ l. Contains l (Some m)) (came_is bridge s s' came ends) h))

pub each_sent_is_taken : (bridge : ℕ) (s s' : Standing) (came : List (Option EdgeMessage))
    (ends : PeerEnds End bridge [] s came s') (waiting : List Letter) (views : List (View Letter))
    → HasReceived came waiting views → (m : EdgeMessage) → WasSent views m
    → Contains ends.all.things m ⊎ Contains waiting (Of m)
each_sent_is_taken bridge s s' came ends waiting views h m sent =
    let r = are_sent waiting views h.inbox sent.0 h.got h.made sent.1 sent.2 h.rule h.is_inbox sent.3 in
    let in_log : Contains (of sent.1 (h.got ++ r.0)) (Of m) = subst (λ l. Contains l (Of m)) (sym r.2) sent.4 in
    let in_all = among_all sent.1 (h.got ++ r.0) (Of m) in_log in
    ⊎_elim
    (λ got. inl (handled bridge s s' came ends m
    (subst (λ l. Contains l (Some m)) (sym h.came_is) (in_map coming (messages h.got) (Of m) got))))
    (λ left. inr (subst (λ l. Contains l (Of m)) r.1 left))
    (Contains-append_cases (messages h.got) (messages r.0) (Of m)
    (subst (λ l. Contains l (Of m)) (messages_append h.got r.0) in_all))
