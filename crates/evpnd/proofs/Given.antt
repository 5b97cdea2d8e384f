-- If the arguments have no fault, the subcommand's required option has a value.
use Rattle.std.proofs.Common.{◌≡◌, ℕ, zero, suc, ◌&&◌, ◌||◌, ◌==◌, Bool, cond, true, false, not, nat_lt, true≢false}
use Rattle.std.proofs.Common.{List, [], ◌∷◌, ◌++◌, map, length, drop, codes, Option, Some, None, option_map, is_some}
use Rattle.std.proofs.Common.{refl, sym, ap, subst, ◌∙◌}
use Rattle.std.specs.Prelude.{encode_utf8, slice_get, find, fold, unwrap_or, option_and_then}
use Rattle.std.specs.List.{list_all}
use Rattle.std.specs.Option.{option_map_or}
use Rattle.std.specs.Str.{bytes_eq, chars}
use Rattle.std.proofs.lemmas.List.{append-nil}
use Rattle.std.proofs.lemmas.Slice.Eq.{bytes_eq-Decides}
use Rattle.std.specs.Cmp.Derive.{both_true}
use Rattle.clap.specs.Facts.{explicit_source, unwrap_or_range}
use Rattle.clap.specs.Lexer.{long_of, short_of}
use Rattle.clap.specs.Walk.{Held, Names, Outcome, Row, Rule, Step, Text, Waiting, Walk, action_of, after_flag}
use Rattle.clap.specs.Walk.{after_step, answers_to, arg_by_id, arg_by_index, arg_by_long, arg_by_short, at_row}
use Rattle.clap.specs.Walk.{attached_value, bundle_met, bundle_step, default_rows, done, finished, first_of, flag_met}
use Rattle.clap.specs.Walk.{has_row, idle, is_pending, long_met, long_or_other, more_values, most_values, next}
use Rattle.clap.specs.Walk.{nothing_held, option, option_met, option_word, plain, plain_word, positional, reacted}
use Rattle.clap.specs.Walk.{reading_by, refused, rows_after, settled, settled_rows, short_met, short_or_plain}
use Rattle.clap.specs.Walk.{stop_after, subcommand, subcommand_met, subcommand_or_other, takes_several, takes_values}
use Rattle.clap.specs.Walk.{to_positional, trailing, used, used_as, used_by_id, value, waits, walk, walk_from, walked}
use Rattle.clap.specs.Walk.{walked_from, with_default, with_values, without, word_met}
use Rattle.clap.specs.Simple.{App, Shape, new_app, argument_words, built, built_leaf, entered, help_shape, inherited}
use Rattle.clap.specs.Simple.{label_of, marked_built, names_of, rows_at, subcommand_of, with_leaf_noted}
use Rattle.clap.specs.Takes.{is_given}
use Rattle.clap.specs.Kinds.{Kinds, check_kinds, or_else, range_kinds}
use Rattle.clap.specs.Faults.{bundle_fault, bundle_step_fault, check_fault, entered_fault, fault_of, flag_word_fault}
use Rattle.clap.specs.Faults.{flags_fault, level_fault, long_fault, option_fault, other_fault, positional_fault}
use Rattle.clap.specs.Faults.{react_fault, settle_fault, short_fault, step_fault, stray_fault, turn_fault, use_fault}
use Rattle.clap.specs.Faults.{walk_fault, word_fault}
use Rattle.clap.specs.declared.builder.action.ArgAction.{ArgAction}
use Rattle.clap.specs.declared.builder.action.ArgAction.TheVariants as action
use Rattle.clap.specs.declared.error.kind.ErrorKind.TheVariants as kind
use Rattle.clap.specs.declared.parser.matches.ValueSource.TheVariants.{CommandLine, DefaultValue}
use Rattle.clap.proofs.WalkLemmas.{both}
use Rattle.evpnd.specs.declared.subcommand.Subcommand.{Subcommand}
use Rattle.evpnd.specs.declared.subcommand.Subcommand.TheVariants.{Report, Migrate, Check, Simulate, Play}
use Rattle.evpnd.specs.declared.subcommand.Subcommand.TheVariants.{Run, Serve, Version}
use Rattle.evpnd.specs.declared.subcommand.ParsedOptions.{ParsedOptions}
use Rattle.evpnd.specs.declared.subcommand.ParsedOptions.TheVariants.{Originators, Config, Script, ForRun, ForServe}
use Rattle.evpnd.specs.declared.subcommand.ParsedOptions.TheVariants.{Degraded}
use Rattle.evpnd.specs.declared.subcommand.Aim.{Aim}
use Rattle.evpnd.specs.Args.{Parts, subcommands, name_of, option_name, needs_of, takes_of, with_option, with_flag}
use Rattle.evpnd.specs.Args.{aim_in, subcommand_app, program, named, needed_in, given_in, invocation_in}

-- ---- options

-- a command with no option more
pub none_more : (is_required : Bool) (a : App) → with_option is_required None a ≡ a
none_more is_required a =
    ap (λ (rules : List Rule). record a { top = record a.top { rules = rules } }) (append-nil a.top.rules)

-- a command with no flag more
pub no_flag : (a : App) → with_flag None a ≡ a
no_flag a = none_more false a

-- ---- tests

or_nil : (a b : Kinds) → or_else a b ≡ [] → (a ≡ []) × (b ≡ [])
or_nil [] b e = (refl, e)
or_nil (k ∷ ks) b e = cc

-- ---- rows that have a value each

abbrev has_value : List Text → Bool
has_value [] = false
has_value (v ∷ vs) = true

abbrev are_full : List Row → Bool
are_full = list_all (λ r. has_value r.values)

abbrev AreFull : List Row → Type 0
AreFull rows = are_full rows ≡ true

value_more : (vs more : List Text) → has_value vs ≡ true → has_value (vs ++ more) ≡ true
value_more [] more e = absurd (true≢false (sym e))
value_more (v ∷ vs) more e = refl

full_append : (xs ys : List Row) → AreFull xs → AreFull ys → AreFull (xs ++ ys)
full_append [] ys a b = b
full_append (x ∷ xs) ys a b =
    let p = both (has_value x.values) (are_full xs) a in
    both_true p.0 (full_append xs ys p.1 b)

at_full : (id : Text) (change : Row → List Row) (missing rows : List Row)
    → ((r : Row) → has_value r.values ≡ true → AreFull (change r)) → AreFull missing → AreFull rows
    → AreFull (at_row id change missing rows)
at_full id change missing [] h m e = m
at_full id change missing (r ∷ rs) h m e = go (bytes_eq r.id id) (both (has_value r.values) (are_full rs) e)
    (at_full id change missing rs h m (both (has_value r.values) (are_full rs) e).1)
  where
    go : (b : Bool) → (has_value r.values ≡ true) × AreFull rs → AreFull (at_row id change missing rs)
        → AreFull (cond b (change r ++ rs) (r ∷ at_row id change missing rs))
    go true p rest = full_append (change r) rs (h r p.0) p.1
    go false p rest = both_true p.0 rest

with_full : (id : Text) (how : _) (source : _) (values : List Text) (rows : List Row) → has_value values ≡ true
    → AreFull rows → AreFull (with_values id how source values rows)
with_full id how source values rows v e =
    at_full id (more_values source values) (record {
      id = id;
      values = values;
      count = None;
      source = Some source;
      reading = how;
    } ∷ []) rows
    (λ r has. both_true (value_more r.values values has) refl)
    (both_true v refl) e

without_full : (id : Text) (rows : List Row) → AreFull rows → AreFull (without id rows)
without_full id rows e = at_full id (λ _. []) [] rows (λ r has. refl) refl e

-- ---- one use of an argument

-- a use leaves a value, or changes nothing
abbrev is_sure_as : ArgAction → Rule → Bool
is_sure_as action.Set a = nat_lt 0 (unwrap_or_range a.range).start_inclusive
is_sure_as action.Append a = false
is_sure_as action.SetTrue a = has_value a.missing
is_sure_as action.SetFalse a = false
is_sure_as action.Count a = false
is_sure_as action.Help a = true
is_sure_as action.HelpShort a = true
is_sure_as action.HelpLong a = true
is_sure_as action.Version a = true

abbrev is_sure : Rule → Bool
is_sure a = is_sure_as (action_of a) a

-- a range from 1 on wants a value
wants : (least most : ℕ) → nat_lt 0 least ≡ true → range_kinds least most 0 ≡ [] → ⊥
wants least most lt e = go (nat_lt 0 least) lt e
  where
    go : (b : Bool) → b ≡ true
        → cond (b && true) (kind.InvalidValue ∷ []) (cond (least == most)
        (cond (least == 0) [] (kind.WrongNumberOfValues ∷ []))
        (cond (nat_lt 0 least) (kind.TooFewValues ∷ []) (cond (nat_lt most 0) (kind.TooManyValues ∷ []) [])))
        ≡ [] → ⊥
    go true t e = cc
    go false t e = true≢false (sym t)

used_full : (again : Bool) (a : Rule) (values : List Text) (rows : List Row) → is_sure a ≡ true
    → use_fault again a values rows ≡ [] → AreFull rows → AreFull (used a values rows)
used_full again a [] rows s f e = go (action_of a) s
  where
    go : (x : ArgAction) → is_sure_as x a ≡ true → AreFull (used_as x a.id (reading_by a) a.missing rows)
    go action.Set s = absurd (wants (unwrap_or_range a.range).start_inclusive (most_values a) s (or_nil _ _ f).0)
    go action.Append s = absurd (true≢false (sym s))
    go action.SetTrue s = with_full a.id (reading_by a) CommandLine a.missing (without a.id rows) s
        (without_full a.id rows e)
    go action.SetFalse s = absurd (true≢false (sym s))
    go action.Count s = absurd (true≢false (sym s))
    go action.Help s = e
    go action.HelpShort s = e
    go action.HelpLong s = e
    go action.Version s = e
used_full again a (v ∷ vs) rows s f e = go (action_of a) s
  where
    go : (x : ArgAction) → is_sure_as x a ≡ true → AreFull (used_as x a.id (reading_by a) (v ∷ vs) rows)
    go action.Set s = with_full a.id (reading_by a) CommandLine (v ∷ vs) (without a.id rows) refl
        (without_full a.id rows e)
    go action.Append s = absurd (true≢false (sym s))
    go action.SetTrue s = with_full a.id (reading_by a) CommandLine (v ∷ vs) (without a.id rows) refl
        (without_full a.id rows e)
    go action.SetFalse s = absurd (true≢false (sym s))
    go action.Count s = absurd (true≢false (sym s))
    go action.Help s = e
    go action.HelpShort s = e
    go action.HelpLong s = e
    go action.Version s = e

sure_found : (p : Rule → Bool) (c : List Rule) (a : Rule) → list_all is_sure c ≡ true → find p c ≡ Some a
    → is_sure a ≡ true
sure_found p [] a s e = cc
sure_found p (x ∷ xs) a s e = go (p x) e (λ f. sure_found p xs a (both (is_sure x) (list_all is_sure xs) s).1 f)
  where
    go : (b : Bool) → cond b (Some x) (find p xs) ≡ Some a → (find p xs ≡ Some a → is_sure a ≡ true) → is_sure a ≡ true
    go true e more =
        let same : x ≡ a = ap (λ (o : Option Rule). unwrap_or o x) e in
        subst (λ (y : Rule). is_sure y ≡ true) same (both (is_sure x) (list_all is_sure xs) s).0
    go false e more = more e

-- ---- a walk over the arguments

module _ (s : Shape) (sure : list_all is_sure s.rules ≡ true) where
  settled_full : (h : Held) → settle_fault s.rules s.args_override_self h ≡ [] → AreFull h.rows
      → AreFull (settled s.rules h).rows
  settled_full h f e = go h.pending f
    where
      at : (o : Option Rule) (values : List Text) → ((a : Rule) → o ≡ Some a → is_sure a ≡ true)
          → option_map_or (λ a. use_fault s.args_override_self a values h.rows) o [] ≡ []
          → AreFull (used_by_id o values h.rows)
      at None values known f = e
      at (Some a) values known f = used_full s.args_override_self a values h.rows (known a refl) f e

      go : (p : Option (Text × List Text)) → option_map_or
          (λ p. option_map_or (λ a. use_fault s.args_override_self a p.1 h.rows) (arg_by_id s.rules p.0) []) p [] ≡ []
          → AreFull (settled_rows s.rules p h.rows)
      go None f = e
      go (Some p) f = at (arg_by_id s.rules p.0) p.1 (λ a is. sure_found _ s.rules a sure is) f

  reacted_full : (a : Rule) (values : List Text) (h : Held) → is_sure a ≡ true
      → react_fault s.rules s.args_override_self a values h ≡ [] → AreFull h.rows
      → AreFull (reacted s.rules a values h).rows
  reacted_full a values h sa f e =
      let p = or_nil _ _ f in
      used_full s.args_override_self a values (settled s.rules h).rows sa p.1 (settled_full h p.0 e)

  option_full : (a : Rule) (v : Option Text) (h : Held) → is_sure a ≡ true
      → option_fault s.rules s.args_override_self a v h ≡ [] → AreFull h.rows
      → AreFull (option_met s.rules a v h).0.rows
  option_full a (Some v) h sa f e = reacted_full a (v ∷ []) h sa f e
  option_full a None h sa f e = settled_full h f e

  long_full : (o : Option Rule) (v : Option Text) (h : Held) → ((a : Rule) → o ≡ Some a → is_sure a ≡ true)
      → long_fault s.rules s.args_override_self o v h ≡ []
      → AreFull h.rows → AreFull (long_met s.rules o v h).0.rows
  long_full None v h known f e = e
  long_full (Some a) v h known f e = go (takes_values a) v f
    where
      go : (b : Bool) (v : Option Text)
          → cond b (option_fault s.rules s.args_override_self a v h)
          (cond (is_some v) (kind.TooManyValues ∷ []) (react_fault s.rules s.args_override_self a [] h)) ≡ []
          → AreFull (cond b (option_met s.rules a v h) (flag_met s.rules a v h)).0.rows
      go true v f = option_full a v h (known a refl) f e
      go false (Some v) f = e
      go false None f = reacted_full a [] h (known a refl) f e

  short_full : (o : Option Rule) (rest : Text) (h : Held) (fault : Held → Kinds) (later : Held → Held × Outcome)
      → ((a : Rule) → o ≡ Some a → is_sure a ≡ true)
      → ((g : Held) → fault g ≡ [] → AreFull g.rows → AreFull (later g).0.rows)
      → short_fault s.rules s.args_override_self o rest h fault ≡ [] → AreFull h.rows
      → AreFull (short_met s.rules o rest h later).0.rows
  short_full None rest h fault later known more f e = e
  short_full (Some a) rest h fault later known more f e = go (takes_values a) f
    where
      go : (b : Bool) → cond b (option_fault s.rules s.args_override_self a (attached_value rest) h)
          (or_else (react_fault s.rules s.args_override_self a [] h) (fault (reacted s.rules a [] h))) ≡ []
          → AreFull (cond b (option_met s.rules a (attached_value rest) h) (later (reacted s.rules a [] h))).0.rows
      go true f = option_full a (attached_value rest) h (known a refl) f e
      go false f =
          let p = or_nil _ _ f in
          more (reacted s.rules a [] h) p.1 (reacted_full a [] h (known a refl) p.0 e)

  bundle_full : (o : Option ℕ) (flags : Text) (skip : ℕ) (so_far : Outcome) (h : Held) (fault : Text → ℕ → Held
      → Kinds) (later : Text → ℕ → Outcome → Held → Held × Outcome)
      → ((rest : Text) (n : ℕ) (x : Outcome) (g : Held) → fault rest n g ≡ [] → AreFull g.rows
      → AreFull (later rest n x g).0.rows)
      → bundle_step_fault s.rules s.args_override_self o flags skip h fault ≡ [] → AreFull h.rows
      → AreFull (bundle_step s.rules o flags skip so_far h later).0.rows
  bundle_full None flags skip so_far h fault later more f e = e
  bundle_full (Some x) flags zero so_far h fault later more f e =
      let rest = drop (length (encode_utf8 x)) flags in
      short_full (arg_by_short s.rules x) rest h (fault rest 0) (later rest 0 done)
      (λ a is. sure_found _ s.rules a sure is) (λ g. more rest 0 done g) f e
  bundle_full (Some x) flags (suc skip) so_far h fault later more f e =
      more (drop (length (encode_utf8 x)) flags) skip so_far h f e

  flags_full : (k : ℕ) (flags : Text) (skip : ℕ) (so_far : Outcome) (h : Held)
      → flags_fault s.rules s.args_override_self k flags skip h ≡ [] → AreFull h.rows
      → AreFull (bundle_met s.rules k flags skip so_far h).0.rows
  unfolding flags_fault bundle_met
  flags_full zero flags skip so_far h f e = e
  flags_full (suc k) flags skip so_far h f e =
      bundle_full (slice_get (chars flags) 0) flags skip so_far h (flags_fault s.rules s.args_override_self k)
      (bundle_met s.rules k) (λ rest n x g. flags_full k rest n x g) f e

  -- ---- one argument

  -- a step enters no subcommand that answers with help
  abbrev passes : Step → Bool
  passes (next waiting) = true
  passes (trailing position) = true
  passes (subcommand name) = not (bytes_eq name (codes "help") && not s.disable_help_subcommand)
  passes value = true

  abbrev IsFine : Held × Step → Type 0
  IsFine p = AreFull p.0.rows × (passes p.1 ≡ true)

  plain_fine : (waiting : Waiting) (word : Text) (h : Held) → AreFull h.rows
      → IsFine (plain_word s.rules waiting word h)
  plain_fine idle word h e = (e, refl)
  plain_fine positional word h e = (e, refl)
  plain_fine (option id) word h e = (go (arg_by_id s.rules id), refl)
    where
      go : (o : Option Rule) → AreFull (option_word o id word h).0.rows
      go None = e
      go (Some a) = e

  after_fine : (waiting : Waiting) (word : Text) (h : Held) (x : Outcome) → AreFull h.rows
      → IsFine (after_flag s.rules waiting word h x)
  after_fine waiting word h done e = (e, refl)
  after_fine waiting word h (waits id) e = (e, refl)
  after_fine waiting word h plain e = plain_fine waiting word h e
  after_fine waiting word h refused e = plain_fine waiting word h e

  short_fine : (o : Option Text) (waiting : Waiting) (word : Text) (h : Held)
      → option_map_or (λ flags. bundle_fault s.rules s.args_override_self flags h) o [] ≡ []
      → AreFull h.rows → IsFine (short_or_plain s.rules waiting word o h)
  short_fine None waiting word h f e = plain_fine waiting word h e
  short_fine (Some flags) waiting word h f e =
      let met = bundle_met s.rules (length flags) flags h.skip plain (record h { skip = 0 }) in
      after_fine waiting word met.0 met.1 (flags_full (length flags) flags h.skip plain (record h { skip = 0 }) f e)

  flag_fine : (o : Option (Text × Option Text)) (waiting : Waiting) (word : Text) (h : Held)
      → flag_word_fault s.rules s.args_override_self o word h ≡ []
      → AreFull h.rows → IsFine (long_or_other s.rules waiting word o h)
  flag_fine None waiting word h f e = short_fine (short_of word) waiting word h f e
  flag_fine (Some p) waiting word h f e =
      let met = long_met s.rules (arg_by_long s.rules p.0) p.1 h in
      after_fine waiting word met.0 met.1 (long_full (arg_by_long s.rules p.0) p.1 h
      (λ a is. sure_found _ s.rules a sure is) f e)

  other_fine : (o : Option Text) (waiting : Waiting) (position : ℕ) (word : Text) (h : Held)
      → other_fault s o word h ≡ [] → AreFull h.rows
      → IsFine (subcommand_or_other s.rules o waiting position word h)
  other_fine (Some name) waiting position word h f e = (
    e,
    go (bytes_eq name (codes "help") && not s.disable_help_subcommand) f,
  )
    where
      go : (b : Bool) → cond b (kind.DisplayHelp ∷ kind.InvalidSubcommand ∷ []) [] ≡ [] → not b ≡ true
      go true f = cc
      go false f = refl
  other_fine None waiting position word h f e = go (bytes_eq word (45 ∷ 45 ∷ [])) f
    where
      go : (b : Bool) → cond b [] (flag_word_fault s.rules s.args_override_self (long_of word) word h) ≡ []
          → IsFine (cond b (h, trailing position) (long_or_other s.rules waiting word (long_of word) h))
      go true f = (e, refl)
      go false f = flag_fine (long_of word) waiting word h f e

  word_fine : (names : Names) (is_trailing : Bool) (waiting : Waiting) (position : ℕ) (word : Text) (h : Held)
      → word_fault s names is_trailing waiting word h ≡ []
      → AreFull h.rows → IsFine (word_met s.rules names is_trailing waiting position word h)
  word_fine names true waiting position word h f e = (e, refl)
  word_fine names false waiting position word h f e = other_fine (subcommand_met names waiting word) waiting position
      word h f e

  -- ---- all arguments

  abbrev stops : Option (Text × List Text) → Bool
  stops None = true
  stops (Some p) = not (bytes_eq p.0 (codes "help") && not s.disable_help_subcommand)

  abbrev IsFineWalk : Walk → Type 0
  IsFineWalk w = AreFull w.held.rows × (stops w.stopped ≡ true)

  positional_fine : (o : Option Rule) (word : Text) (w : Walk) (h : Held)
      → option_map_or (λ a. positional_fault s.rules s.args_override_self a h) o (stray_fault s) ≡ [] → AreFull h.rows
      → stops w.stopped ≡ true
      → IsFineWalk (to_positional s.rules o word w h)
  positional_fine None word w h f e t = (e, t)
  positional_fine (Some a) word w h f e t = (go (is_pending a h.pending && takes_several a) f, refl)
    where
      go : (b : Bool) → cond b [] (settle_fault s.rules s.args_override_self h) ≡ []
          → AreFull (cond b h (settled s.rules h)).rows
      go true f = e
      go false f = settled_full h f e

  step_fine : (word : Text) (w : Walk) (h : Held) (x : Step) → step_fault s w.position h x ≡ [] → IsFine (h, x)
      → stops w.stopped ≡ true
      → IsFineWalk (after_step s.rules word w h x)
  step_fine word w h (next waiting) f e t = (e.0, t)
  step_fine word w h (trailing position) f e t = (e.0, t)
  step_fine word w h (subcommand name) f e t = e
  step_fine word w h value f e t = positional_fine (arg_by_index s.rules w.position) word w h f e.0 t

  turn_fine : (names : Names) (w : Walk) (word : Text) → turn_fault s names w word ≡ [] → IsFineWalk w
      → IsFineWalk (walked s.rules names w word)
  unfolding walked
  turn_fine names w word f fine = go w.stopped f fine.1
    where
      go : (o : Option (Text × List Text))
          → cond (is_some o) [] (or_else (word_fault s names w.is_trailing w.waiting word w.held)
          (step_fault s w.position (word_met s.rules names w.is_trailing w.waiting w.position word w.held).0
          (word_met s.rules names w.is_trailing w.waiting w.position word w.held).1))
          ≡ [] → stops o ≡ true → IsFineWalk (walked_from s.rules names o w word)
      go (Some p) f t = (fine.0, t)
      go None f t =
          let p = or_nil _ _ f in
          let met = word_met s.rules names w.is_trailing w.waiting w.position word w.held in
          step_fine word w met.0 met.1 p.1 (word_fine names w.is_trailing w.waiting w.position word w.held p.0 fine.0)
          fine.1

  walk_fine : (names : Names) (words : List Text) (w : Walk) → walk_fault s names w words ≡ [] → IsFineWalk w
      → IsFineWalk (fold (walked s.rules names) w words)
  unfolding walk_fault
  walk_fine names [] w f fine = fine
  walk_fine names (x ∷ xs) w f fine =
      let p = or_nil _ _ f in
      walk_fine names xs (walked s.rules names w x) p.1 (turn_fine names w x p.0 fine)

default_full : (rows : List Row) (a : Rule) → AreFull rows → AreFull (with_default rows a)
default_full rows a e = go (has_row a.id rows) a.defaults
  where
    go : (b : Bool) (values : List Text) → AreFull (cond b rows (default_rows a.id (reading_by a) values rows))
    go true values = e
    go false [] = e
    go false (v ∷ vs) = with_full a.id (reading_by a) DefaultValue (v ∷ vs) rows refl e

defaults_full : (c : List Rule) (rows : List Row) → AreFull rows → AreFull (fold with_default rows c)
defaults_full [] rows e = e
defaults_full (a ∷ c) rows e = defaults_full c (with_default rows a) (default_full rows a e)

-- an argument that was given has a first value
given_first : (id : Text) (rows : List Row) → is_given id rows ≡ true → AreFull rows → is_some (first_of id rows) ≡ true
given_first id [] g e = absurd (true≢false (sym g))
given_first id (r ∷ rs) g e = go (bytes_eq r.id id) g (both (has_value r.values) (are_full rs) e).0
    (λ h. given_first id rs h (both (has_value r.values) (are_full rs) e).1)
  where
    first : (vs : List Text) → has_value vs ≡ true → is_some (slice_get vs 0) ≡ true
    first [] h = absurd (true≢false (sym h))
    first (v ∷ vs) h = refl

    go : (b : Bool) → option_map_or (λ (x : Row). explicit_source x.source)
        (cond b (Some r) (find (λ x. bytes_eq x.id id) rs)) false ≡ true → has_value r.values ≡ true
        → (is_given id rs ≡ true → is_some (first_of id rs) ≡ true)
        → is_some (option_and_then (λ (x : Row). slice_get x.values 0)
        (cond b (Some r) (find (λ x. bytes_eq x.id id) rs))) ≡ true
    go true g has rest = first r.values has
    go false g has rest = rest g

-- ---- one level

-- each step of a level without a fault
abbrev Passes : Shape → Names → List Text → Bool → Kinds → Type 0
Passes s names words has below =
    (walk_fault s names (walk_from nothing_held) words ≡ []) × (below ≡ [])
    × (settle_fault s.rules s.args_override_self (walk s.rules names nothing_held words).held ≡ [])
    × (check_fault s (finished s.rules (walk s.rules names nothing_held words).held) has ≡ [])

level_passes : (s : Shape) (names : Names) (words : List Text) (has : Bool) (below : Kinds)
    → level_fault s names nothing_held words has below ≡ [] → Passes s names words has below
level_passes s names words has below f =
    let a = or_nil _ _ f in
    let b = or_nil _ _ a.1 in
    let c = or_nil _ _ b.1 in
    let d = or_nil _ _ c.1 in
    (a.0, b.0, c.0, d.1)

-- ---- the program

-- what its subcommands take from it
abbrev above : Shape
above = with_leaf_noted (marked_built program.top)

abbrev leaf : Subcommand → Shape
leaf x = built_leaf (inherited above (subcommand_app x).top)

abbrev help_leaf : Shape
help_leaf = built_leaf (inherited (record above { disable_help_subcommand = false }) help_shape)

-- a subcommand of this name, with an option that has to be given, and perhaps one and two flags that may be
abbrev leaf_of : Text → ParsedOptions → Option ParsedOptions → Option ParsedOptions → Option ParsedOptions → Shape
leaf_of name needs takes flag other =
    built_leaf (inherited above (with_flag other (with_flag flag
    (with_option false takes (with_option true (Some needs) (new_app name))))).top)

-- if its level passes, the required option has a value
one_given : (name : Text) (needs : ParsedOptions) (words : List Text)
    → level_fault (leaf_of name needs None None None) [] nothing_held words false [] ≡ []
    → is_some (first_of (option_name needs) (rows_after (leaf_of name needs None None None).rules [] words)) ≡ true
one_given name needs words f =
    let s = leaf_of name needs None None None in
    let p = level_passes s [] words false [] f in
    let fine = walk_fine s refl [] words (walk_from nothing_held) p.0 (refl, refl) in
    let rows = rows_after s.rules [] words in
    let full : AreFull rows =
    defaults_full s.rules _ (settled_full s refl (walk s.rules [] nothing_held words).held p.2 fine.0) in
    given_first (option_name needs) rows
    (go (is_given (option_name needs) rows) (is_given (codes "help") rows) p.3) full
  where
    go : (a b : Bool) → check_kinds false false (not a || ((false && not b) || false)) ≡ [] → a ≡ true
    go true b f = refl
    go false b f = cc

-- the result for a subcommand with an optional flag
one_of_two : (name : Text) (needs flag : ParsedOptions) (words : List Text)
    → level_fault (leaf_of name needs None (Some flag) None) [] nothing_held words false [] ≡ []
    → is_some (first_of (option_name needs)
    (rows_after (leaf_of name needs None (Some flag) None).rules [] words)) ≡ true
one_of_two name needs flag words f =
    let s = leaf_of name needs None (Some flag) None in
    let p = level_passes s [] words false [] f in
    let fine = walk_fine s refl [] words (walk_from nothing_held) p.0 (refl, refl) in
    let rows = rows_after s.rules [] words in
    let full : AreFull rows =
    defaults_full s.rules _ (settled_full s refl (walk s.rules [] nothing_held words).held p.2 fine.0) in
    given_first (option_name needs) rows
    (go (is_given (option_name needs) rows) (is_given (option_name flag) rows) (is_given (codes "help") rows) p.3)
    full
  where
    go : (a c b : Bool)
        → check_kinds false false (not a || ((false && not c) || ((false && not b) || false))) ≡ []
        → a ≡ true
    go true c b f = refl
    go false c b f = cc

-- the result for a subcommand with one and two optional flags
one_of_four : (name : Text) (needs takes flag other : ParsedOptions) (words : List Text)
    → level_fault (leaf_of name needs (Some takes) (Some flag) (Some other)) [] nothing_held words false [] ≡ []
    → is_some (first_of (option_name needs)
    (rows_after (leaf_of name needs (Some takes) (Some flag) (Some other)).rules [] words)) ≡ true
one_of_four name needs takes flag other words f =
    let s = leaf_of name needs (Some takes) (Some flag) (Some other) in
    let p = level_passes s [] words false [] f in
    let fine = walk_fine s refl [] words (walk_from nothing_held) p.0 (refl, refl) in
    let rows = rows_after s.rules [] words in
    let full : AreFull rows =
    defaults_full s.rules _ (settled_full s refl (walk s.rules [] nothing_held words).held p.2 fine.0) in
    given_first (option_name needs) rows
    (go (is_given (option_name needs) rows) (is_given (option_name takes) rows) (is_given (option_name flag) rows)
    (is_given (option_name other) rows) (is_given (codes "help") rows) p.3)
    full
  where
    go : (a c d e b : Bool)
        → check_kinds false false
        (not a || ((false && not c) || ((false && not d) || ((false && not e) || ((false && not b) || false)))))
        ≡ []
        → a ≡ true
    go true c d e b f = refl
    go false c d e b f = cc

-- a subcommand whose level passes has the value of the option that it has to be given
option_given : (x : Subcommand) (words : List Text) → level_fault (leaf x) [] nothing_held words false [] ≡ []
    → is_some (needed_in (needs_of x) (rows_after (leaf x).rules [] words)) ≡ true
option_given Report words f = one_given (codes "report") Originators words f
option_given Migrate words f = one_given (codes "migrate") Originators words f
option_given Check words f = one_of_four (codes "check") Config Script ForRun ForServe words f
option_given Simulate words f = one_given (codes "simulate") Config words f
option_given Play words f = one_given (codes "play") Config words f
option_given Run words f = one_of_two (codes "run") Config Degraded words f
option_given Serve words f = one_of_two (codes "serve") Config Degraded words f
option_given Version words f = refl

-- each subcommand's name names it
names_it : (x : Subcommand) → named (name_of x) ≡ Some x
names_it Report = refl
names_it Migrate = refl
names_it Check = refl
names_it Simulate = refl
names_it Play = refl
names_it Run = refl
names_it Serve = refl
names_it Version = refl

-- an invocation's parts
abbrev pub the_parts : Subcommand → Option Text → Aim → Text → Parts
the_parts s more aim text = (s, text, more, aim)

abbrev pub found_as : Text → List Row → Option (Text × List Row)
found_as name rows = Some (name, rows)

invocation_is_there : (x : Subcommand) (rows : List Row) → is_some (needed_in (needs_of x) rows) ≡ true
    → is_some (invocation_in (found_as (name_of x) rows)) ≡ true
invocation_is_there x rows has = rw (names_it x) (go (needed_in (needs_of x) rows) has)
  where
    go : (o : Option Text) → is_some o ≡ true
        → is_some {T = Parts} (option_and_then
        (λ (text : Text). Some (x, text, given_in (takes_of x) rows, aim_in x rows)) o) ≡ true
    go None h = absurd (true≢false (sym h))
    go (Some text) h = refl

abbrev answers : Text → Shape → Bool
answers name s = answers_to name (label_of s)

entered_invocation : (xs : List Subcommand) (name : Text) (words : List Text)
    → is_some (option_map (λ s. rows_at s words) (find (answers name) (map leaf xs ++ help_leaf ∷ []))) ≡ true
    → option_map_or (λ s. level_fault s [] nothing_held words false [])
    (find (answers name) (map leaf xs ++ help_leaf ∷ [])) [] ≡ []
    → not (bytes_eq name (codes "help") && true) ≡ true
    → is_some (invocation_in (option_map (λ s. rows_at s words) (find (answers name) (map leaf xs ++ help_leaf ∷ []))))
    ≡ true
entered_invocation [] name words has f no_help = go (bytes_eq (codes "help") name) refl has
  where
    go : (b : Bool) → bytes_eq (codes "help") name ≡ b → is_some
        (option_map (λ s. rows_at s words) (cond (b || false) (Some help_leaf) None)) ≡ true
        → is_some (invocation_in (option_map (λ s. rows_at s words) (cond (b || false) (Some help_leaf) None))) ≡ true
    go false e has = absurd (true≢false (sym has))
    go true e has =
        let is : codes "help" ≡ name = (bytes_eq-Decides (codes "help") name).0 e in
        let back : bytes_eq name (codes "help") ≡ true =
        subst (λ (t : Text). bytes_eq t t ≡ true → bytes_eq t (codes "help") ≡ true) is (λ h. h)
        (subst (λ (t : Text). bytes_eq t t ≡ true) is refl) in
        absurd (true≢false (sym (rw back at no_help)))
entered_invocation (x ∷ xs) name words has f no_help = go (bytes_eq (name_of x) name) has f
    (entered_invocation xs name words)
  where
    rest : Option Shape
    rest = find (answers name) (map leaf xs ++ help_leaf ∷ [])

    go : (b : Bool) → is_some (option_map (λ s. rows_at s words) (cond (b || false) (Some (leaf x)) rest)) ≡ true
        → option_map_or (λ s. level_fault s [] nothing_held words false []) (cond (b || false) (Some (leaf x)) rest) []
        ≡ []
        → (is_some (option_map (λ s. rows_at s words) rest) ≡ true
        → option_map_or (λ s. level_fault s [] nothing_held words false []) rest [] ≡ []
        → not (bytes_eq name (codes "help") && true) ≡ true
        → is_some (invocation_in (option_map (λ s. rows_at s words) rest)) ≡ true)
        → is_some (invocation_in (option_map (λ s. rows_at s words) (cond (b || false) (Some (leaf x)) rest))) ≡ true
    go true has f more = invocation_is_there x (rows_after (leaf x).rules [] words) (option_given x words f)
    go false has f more = more has f no_help

-- If the arguments have no fault, they are an invocation.
pub invocation_given : (words : List Text) → fault_of program words ≡ []
    → is_some (invocation_in (subcommand_of program words)) ≡ true
invocation_given words f =
    let a = built program in
    let ws = argument_words program words in
    let stop = stop_after a.top.rules (names_of a) ws in
    let p = level_passes a.top (names_of a) ws (is_some (entered a stop)) (entered_fault a stop) f in
    let fine = walk_fine a.top refl (names_of a) ws (walk_from nothing_held) p.0 (refl, refl) in
    go stop (enters (is_some (entered a stop)) p.3) p.1 fine.1
  where
    enters : (has : Bool) → check_kinds (not has && false) (not has && true) false ≡ [] → has ≡ true
    enters true f = refl
    enters false f = cc

    go : (stop : Option (Text × List Text)) → is_some (entered (built program) stop) ≡ true
        → entered_fault (built program) stop ≡ [] → stops (built program).top refl stop ≡ true
        → is_some (invocation_in (entered (built program) stop)) ≡ true
    go None has f t = absurd (true≢false (sym has))
    go (Some q) has f t = entered_invocation subcommands q.0 q.1 has f t

pub not_none : (words : List Text) (found : Option (Text × List Row)) → fault_of program words ≡ []
    → found ≡ subcommand_of program words → None ≡ invocation_in found → ⊥
not_none words found f same none =
    let some = invocation_given words f in
    let is : None ≡ invocation_in (subcommand_of program words) = none ∙ ap invocation_in same in
    true≢false (sym some ∙ ap (λ (o : Option Parts). is_some o) (sym is))

-- ---- the invocation at the subcommand that was used

pub invocation_found : (all : Option (Text × List Row)) (name : Text) (rows : List Row) (s : Subcommand)
    (o more : Option Text) (aim : Aim) → all ≡ found_as name rows → Some s ≡ named name → o
    ≡ needed_in (needs_of s) rows
    → more ≡ given_in (takes_of s) rows → aim ≡ aim_in s rows
    → option_map (the_parts s more aim) o ≡ invocation_in all
invocation_found all name rows s o more aim is found text besides flags =
    go o more aim ∙ ap (λ (m : Option Text). option_and_then (λ (text : Text). Some (the_parts s m aim text))
    o) besides
    ∙ ap (λ (b : Aim). option_and_then (λ (text : Text). Some (the_parts s (given_in (takes_of s) rows) b text)) o)
    flags
    ∙ ap (λ (t : Option Text).
    option_and_then (λ (text : Text). Some
    (the_parts s (given_in (takes_of s) rows) (aim_in s rows) text)) t) text
    ∙ ap (option_and_then (λ (x : Subcommand).
    option_and_then (λ (text : Text). Some
    (the_parts x (given_in (takes_of x) rows) (aim_in x rows) text))
    (needed_in (needs_of x) rows))) found
    ∙ ap invocation_in (sym is)
  where
    go : (o more : Option Text) (aim : Aim) → option_map (the_parts s more aim) o
        ≡ option_and_then (λ (text : Text). Some (the_parts s more aim text)) o
    go None more aim = refl
    go (Some text) more aim = refl
