-- The updates that edges send on a connection, table after table and item after item.
use Rattle.std.proofs.Common.{◌≡◌, ◌⊎◌, inl, inr, ℕ, ◌+◌, Bool, true, false, List, [], ◌∷◌, ◌++◌, length, Contains}
use Rattle.std.proofs.Common.{length-append, Option, Some, None, refl, sym, ap, subst, ◌∙◌, append_assoc, append-nil}
use Rattle.std.proofs.Common.{arith}
use Rattle.std.proofs.lemmas.Grind.{flat_map-append}
use Rattle.std.proofs.lemmas.List.Elements.{Contains-push_cases}
use Rattle.route_wire.specs.Fields.{Fields}
use Rattle.ev_links.specs.Coming.{behind}
use Rattle.ev_links.proofs.Behind.{behind_twice, behind_none}
use Rattle.ev_exchange.specs.declared.announcing.Due.TheVariants.{Update, Back}
use Rattle.ev_exchange.specs.declared.announcing.EdgeTable.{EdgeTable}
use Rattle.ev_exchange.specs.Sending.{Sending, HasSent, HasSaid, own_of}
use Rattle.ev_exchange.specs.Inner.SendLoop.{Comes}
use Rattle.ev_exchange.specs.SendLoop.{Told, has_table, has_due, tables_from, whose, said_of, SaysTables, PassesOn}
use Rattle.ev_exchange.specs.SendLoop.{Step, announces, says_back, told_at, said_at, told_by, sent_by, AreWhole}

pub said_none : (s : Sending) → HasSaid s s []
said_none s start sent h = subst (HasSent s start) (sym (append-nil sent)) h

pub said_twice : (s t u : Sending) (us vs : List Fields) → HasSaid s t us → HasSaid t u vs → HasSaid s u (us ++ vs)
said_twice s t u us vs h k start sent x = subst (HasSent u start) (append_assoc sent us vs)
    (k start (sent ++ us) (h start sent x))

-- ---- tables
tables_push : (n : ℕ) (ts : List EdgeTable) (t : EdgeTable)
    → tables_from n (ts ++ t ∷ []) ≡ tables_from n ts ++ has_table (n + length ts) (Some t) ∷ []
tables_push n [] t = ap (λ k. has_table k (Some t) ∷ []) (let e : n ≡ n + 0 = omega arith in e)
tables_push n (x ∷ ts) t = ap (λ z. has_table n (Some x) ∷ z) (tables_push (n + 1) ts t
    ∙ ap (λ k. tables_from (n + 1) ts ++ has_table k (Some t) ∷ [])
    (let e : (n + 1) + length ts ≡ n + length (x ∷ ts) = omega arith in e))

said_push : (named : Option ℕ) (ts : List EdgeTable) (t : EdgeTable)
    → said_of named (ts ++ t ∷ []) ≡ said_of named ts ++ own_of (whose named t) t.updates.items
said_push named ts t = flat_map-append (λ (x : EdgeTable). own_of (whose named x) x.updates.items) ts (t ∷ [])
    ∙ ap (λ z. said_of named ts ++ z) (append-nil (own_of (whose named t) t.updates.items))

-- the tables of `place` edges were sent
pub record Saying (place : ℕ) (named : Option ℕ) (before now : Option (List Told)) (s t : Sending) : Type 0 where
  pub tables : List EdgeTable
  pub many : length tables ≡ place
  pub told : now ≡ behind before (tables_from 1 tables)
  pub said : HasSaid s t (said_of named tables)

pub saying_none : (named : Option ℕ) (before : Option (List Told)) (s : Sending) → Saying 0 named before before s s
saying_none named before s = record { tables = []; many = refl; told = sym (behind_none before); said = said_none s }

module _ (place : ℕ) (named : Option ℕ) (before now : Option (List Told)) (s t : Sending)
    (h : Saying place named before now s t) where
  -- one table more
  module _ (table : EdgeTable) (next : Option (List Told)) (u : Sending)
      (told : next ≡ behind now (has_table (place + 1) (Some table) ∷ []))
      (said : HasSaid t u (own_of (whose named table) table.updates.items)) where
    pub saying_more : Saying (place + 1) named before next s u
    saying_more = record {
      tables = h.tables ++ table ∷ [];
      many = let m = h.many in let l = length-append h.tables (table ∷ []) in omega arith;
      told = told ∙ ap (λ k. behind k (has_table (place + 1) (Some table) ∷ [])) h.told
          ∙ behind_twice before (tables_from 1 h.tables) (has_table (place + 1) (Some table) ∷ [])
          ∙ ap (behind before) (ap (λ k. tables_from 1 h.tables ++ has_table k (Some table) ∷ [])
          (let m = h.many in let e : place + 1 ≡ 1 + length h.tables = omega arith in e)
          ∙ sym (tables_push 1 h.tables table));
      said = subst (HasSaid s u) (sym (said_push named h.tables table))
          (said_twice s t u (said_of named h.tables) (own_of (whose named table) table.updates.items) h.said said);
    }

    -- and a call of the writer has failed
    pub saying_shut : (edges : ℕ) → u.is_open ≡ false → SaysTables edges named before next s u false
    saying_shut edges shut = record {
      tables = saying_more.tables;
      last = [];
      told = saying_more.told ∙ ap (behind before) (sym (append-nil (tables_from 1 saying_more.tables)));
      said = saying_more.said;
      whole = λ e. cc;
      broken = λ e. inr (refl, shut);
    }

  -- the next edge returns no table
  pub saying_without : (edges : ℕ) (next : Option (List Told)) → next ≡ behind now (has_table (place + 1) None ∷ [])
      → SaysTables edges named before next s t false
  saying_without edges next told = record {
    tables = h.tables;
    last = has_table (length h.tables + 1) None ∷ [];
    told = told ∙ ap (λ k. behind k (has_table (place + 1) None ∷ [])) h.told
        ∙ behind_twice before (tables_from 1 h.tables) (has_table (place + 1) None ∷ [])
        ∙ ap (λ k. behind before (tables_from 1 h.tables ++ has_table (k + 1) None ∷ [])) (sym h.many);
    said = h.said;
    whole = λ e. cc;
    broken = λ e. inl refl;
  }

  -- the tables of all edges were sent
  pub saying_all : (edges : ℕ) → place ≡ edges → SaysTables edges named before now s t true
  saying_all edges all = record {
    tables = h.tables;
    last = [];
    told = h.told ∙ ap (behind before) (sym (append-nil (tables_from 1 h.tables)));
    said = h.said;
    whole = λ e. (refl, h.many ∙ all);
    broken = λ e. cc;
  }

-- ---- items
told_push : (steps : List Step) (x : Step) → told_by (steps ++ x ∷ []) ≡ told_by steps ++ told_at x
told_push steps x = flat_map-append told_at steps (x ∷ []) ∙ ap (λ z. told_by steps ++ z) (append-nil (told_at x))

sent_push : (steps : List Step) (x : Step) → sent_by (steps ++ x ∷ []) ≡ sent_by steps ++ said_at x
sent_push steps x = flat_map-append said_at steps (x ∷ []) ∙ ap (λ z. sent_by steps ++ z) (append-nil (said_at x))

-- how many tables an item has
abbrev tables_at : Step → ℕ
tables_at (announces u) = 0
tables_at (says_back o ts) = length ts

abbrev is_announced : Step → Bool
is_announced (announces u) = true
is_announced (says_back o ts) = false

-- items were sent
pub record Passing (edges : ℕ) (before now : Option (List Told)) (s t : Sending) : Type 0 where
  pub steps : List Step
  pub told : now ≡ behind before (told_by steps)
  pub said : HasSaid s t (sent_by steps)
  pub whole : AreWhole edges steps

pub passing_none : (edges : ℕ) (before : Option (List Told)) (s : Sending) → Passing edges before before s s
passing_none edges before s = record {
  steps = [];
  told = sym (behind_none before);
  said = said_none s;
  whole = λ o ts c. absurd (omega (arith, c.1));
}

module _ (edges : ℕ) (before now : Option (List Told)) (s t : Sending) (h : Passing edges before now s t) where
  -- the writer was flushed, or not
  pub passing_flushed : (u : Sending) → HasSaid t u [] → Passing edges before now s u
  passing_flushed u flushed = record {
    steps = h.steps;
    told = h.told;
    said = subst (HasSaid s u) (append-nil (sent_by h.steps)) (said_twice s t u (sent_by h.steps) [] h.said flushed);
    whole = h.whole;
  }

  -- one item more
  passing_more : (x : Step) (next : Option (List Told)) (u : Sending) → next ≡ behind now (told_at x)
      → HasSaid t u (said_at x) → ((o : ℕ) (ts : List EdgeTable) → x ≡ says_back o ts → length ts ≡ edges)
      → Passing edges before next s u
  passing_more x next u told said all = record {
    steps = h.steps ++ x ∷ [];
    told = told ∙ ap (λ k. behind k (told_at x)) h.told ∙ behind_twice before (told_by h.steps) (told_at x)
        ∙ ap (behind before) (sym (told_push h.steps x));
    said = subst (HasSaid s u) (sym (sent_push h.steps x))
        (said_twice s t u (sent_by h.steps) (said_at x) h.said said);
    whole = λ o ts c. each o ts (Contains-push_cases h.steps x (says_back o ts) c);
  }
    where
      each : (o : ℕ) (ts : List EdgeTable) → Contains h.steps (says_back o ts) ⊎ (x ≡ says_back o ts)
          → length ts ≡ edges
      each o ts (inl c) = h.whole o ts c
      each o ts (inr e) = all o ts e

  pub passing_update : (update : Fields) (next : Option (List Told)) (u : Sending)
      → next ≡ behind now (has_due (Some (Update update)) ∷ []) → HasSaid t u (update ∷ [])
      → Passing edges before next s u
  passing_update update next u told said = passing_more (announces update) next u told said
      (λ o ts e. let never : true ≡ false = ap is_announced e in cc)

  -- an originator was named
  module _ (o : ℕ) (named next : Option (List Told)) (u : Sending)
      (told : named ≡ behind now (has_due (Some (Back o)) ∷ [])) where
    -- and its registers in all tables were sent
    pub passing_back : SaysTables edges (Some o) named next t u true → Passing edges before next s u
    passing_back h =
        let all = h.whole refl in
        let due : Told = has_due (Some (Back o)) in
        passing_more (says_back o h.tables) next u (h.told
        ∙ ap (λ k. behind k (tables_from 1 h.tables ++ h.last)) told
        ∙ behind_twice now (due ∷ []) (tables_from 1 h.tables ++ h.last)
        ∙ ap (λ (last : List Told). behind now (due ∷ (tables_from 1 h.tables ++ last))) all.0
        ∙ ap (λ (ts : List Told). behind now (due ∷ ts)) (append-nil (tables_from 1 h.tables))) h.said
        (λ p ts e. sym (ap tables_at e) ∙ all.1)

    -- and its registers broke off
    pub passes_broken : SaysTables edges (Some o) named next t u false → PassesOn edges before next s u
    passes_broken broken = record {
      steps = h.steps;
      mid = t;
      said = h.said;
      whole = h.whole;
      ended = inr (inr (record {
        originator = o;
        named = named;
        told = told ∙ ap (λ k. behind k (has_due (Some (Back o)) ∷ [])) h.told;
        tables = broken;
      }));
    }

  pub passes_to_end : (next : Option (List Told)) → next ≡ behind now (has_due None ∷ [])
      → PassesOn edges before next s t
  passes_to_end next told = record {
    steps = h.steps;
    mid = t;
    said = h.said;
    whole = h.whole;
    ended = inl (told ∙ ap (λ k. behind k (has_due None ∷ [])) h.told, refl);
  }

  pub passes_shut : t.is_open ≡ false → PassesOn edges before now s t
  passes_shut shut = record {
    steps = h.steps;
    mid = t;
    said = h.said;
    whole = h.whole;
    ended = inr (inl (h.told, refl, shut));
  }

  -- no item came, as the call for one says
  pub passes_without : (next : Option (List Told)) → Comes now next t None → PassesOn edges before next s t
  passes_without next (inl told) = passes_to_end next told
  passes_without next (inr (same, shut)) = subst (λ (n : Option (List Told)). PassesOn edges before n s t) (sym same)
      (passes_shut shut)
