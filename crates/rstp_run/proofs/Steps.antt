-- Parts of the sweep: parts that change nothing, and the order of parts.
-- Lemmas on single firings and on runs.
-- Passes up to one that fires nothing, and rounds up to one in which nothing fires.
use Rattle.rstp_run.proofs.Basics.{Claim, neither, Off, On}
use Rattle.rstp_run.proofs.Names.{[], AreOff, AreOffAt, AreOffBelow, add-one, after, and_then, ap, arith, Bool, Count}
use Rattle.rstp_run.proofs.Names.{cases_lt, change_at, done, Firing, false, fired, flushed, Goes, Going, get_or, guard}
use Rattle.rstp_run.proofs.Names.{IsIdle, if◌then◌else◌, inl, inr, List, length, length-append, length-map, main_order}
use Rattle.rstp_run.proofs.Names.{map, None, ne_eqb, option_map_or, PortState, pass, passes, ports_after, Rule, Run}
use Rattle.rstp_run.proofs.Names.{refl, round, Select, Some, Sweeps, sending_order, slice_get, slice_set, suc, swept_on}
use Rattle.rstp_run.proofs.Names.{sym, Tree, take, telling_others, tries, tries_all, tries_below, true, until_idle}
use Rattle.rstp_run.proofs.Names.{Walk, with_propagation, with_re_root, with_sync, without_proposal, zero, ℕ, ◌&&◌}
use Rattle.rstp_run.proofs.Names.{◌++◌, ◌+◌, ◌<◌, ◌==◌, ◌∙◌, ◌∷◌, ◌≡◌, ◌≢◌, ◌≤◌, ◌⊎◌}
use Rattle.rstp_run.specs.Inner.Runs.{counted, IsOff}
use Rattle.rstp_run.specs.Runs.{flush_after}
use Rattle.rstp_run.specs.declared.rule.Rule.TheVariants.{Role, Topology}
use Rattle.rstp_state.specs.Inner.Selection.{length-selected_ports}
use Rattle.std.proofs.lemmas.Bool.{le-ltb, lt-ltb}
use Rattle.std.proofs.lemmas.List.{append_assoc, length-set, take_more}
use Rattle.std.proofs.lemmas.List.Folds.{list_any_more}
use Rattle.rstp_run.proofs.Names.role_rule
use Rattle.rstp_run.proofs.Names.topology_rule

-- ---- choices

either : (b : Bool) (x y z : Going) → x ≡ z → y ≡ z → (if b then x else y) ≡ z
either true x y z h k = h
either false x y z h k = k

off_too : (b : Bool) (x y : Going) → (if b && false then x else y) ≡ y
off_too true x y = refl
off_too false x y = refl

-- ---- if the limit is reached

abbrev pub IsFull : ℕ → Claim
IsFull limit g = limit ≤ length g.firings

pub tries-full : (rule : Rule) (p limit : ℕ) (g : Going) → IsFull limit g → tries rule p limit g ≡ g
tries-full rule p limit g full = rw (le-ltb (length g.firings) limit full) refl

pub tries_all-full : (rules : List Rule) (p limit : ℕ) (g : Going) → IsFull limit g → tries_all rules p limit g ≡ g
tries_all-full [] p limit g full = refl
tries_all-full (rule ∷ rules) p limit g full =
    rw (tries-full rule p limit g full) (tries_all-full rules p limit g full)

tries_below-full : (rules : List Rule) (n limit : ℕ) (g : Going) → IsFull limit g → tries_below rules n limit g ≡ g
tries_below-full rules zero limit g full = refl
tries_below-full rules (suc n) limit g full =
    rw (tries_below-full rules n limit g full) (tries_all-full rules n limit g full)

pub pass-full : (rules : List Rule) (limit : ℕ) (g : Going) → IsFull limit g → pass rules limit g ≡ g
pass-full rules limit g full = tries_below-full rules (length g.tree.ports) limit g full

-- ---- if nothing is enabled

pub tries-off : (rule : Rule) (p limit : ℕ) (g : Going) → Off (guard rule g.tree p) → tries rule p limit g ≡ g
tries-off rule p limit g off = rw off (off_too _ _ g)

pub tries_all-off : (rules : List Rule) (p limit : ℕ) (g : Going) → AreOffAt rules p g.tree
    → tries_all rules p limit g ≡ g
tries_all-off [] p limit g off = refl
tries_all-off (rule ∷ rules) p limit g off =
    let (here, others) = neither off in
    rw (tries-off rule p limit g here) (tries_all-off rules p limit g others)

pub tries_below-off : (rules : List Rule) (n limit : ℕ) (g : Going) → AreOffBelow rules n g.tree
    → tries_below rules n limit g ≡ g
tries_below-off rules zero limit g off = refl
tries_below-off rules (suc n) limit g off =
    rw (tries_below-off rules n limit g (λ p below. off p (omega arith)))
    (tries_all-off rules n limit g (off n (omega arith)))

pub pass-off : (rules : List Rule) (limit : ℕ) (g : Going) → AreOff rules g.tree → pass rules limit g ≡ g
pass-off rules limit g off = tries_below-off rules (length g.tree.ports) limit g off

-- ---- repetition

until-still : (n : ℕ) (f : Going → Going) (g : Going) → f g ≡ g → until_idle n f g ≡ g
until-still zero f g still = refl
until-still (suc n) f g still =
    either _ _ (until_idle n f (f g)) g still (ap (until_idle n f) still ∙ until-still n f g still)

-- the last time
until-last : (n : ℕ) (f : Going → Going) (g : Going) → (n ≡ 0 → f g ≡ g) → f (f g) ≡ f g → until_idle n f g ≡ f g
until-last zero f g first still = sym (first refl)
until-last (suc n) f g first still =
    either _ _ (until_idle n f (f g)) (f g) refl (until-still n f (f g) still)

module _ (n : ℕ) (f : Going → Going) (g : Going) where
  -- the first time is the last one
  pub until-once : On (length (f g).firings == length g.firings)
      → until_idle (suc n) f g ≡ f g
  until-once is = rw is refl

  -- not the last time
  pub until-more : length g.firings < length (f g).firings
      → until_idle (suc n) f g ≡ until_idle n f (f g)
  until-more more = rw (ne_eqb (length (f g).firings) (length g.firings) (λ e. omega arith))

module _ (rules : List Rule) (limit : ℕ) (g : Going) where
  passes-full : IsFull limit g → passes rules limit g ≡ g
  passes-full full = until-still limit (pass rules limit) g (pass-full rules limit g full)

  pub passes-off : AreOff rules g.tree → passes rules limit g ≡ g
  passes-off off = until-still limit (pass rules limit) g (pass-off rules limit g off)

round-full : (limit : ℕ) (g : Going) → IsFull limit g → round limit g ≡ g
round-full limit g full =
    rw (passes-full main_order limit g full) (passes-full sending_order limit g full)

round-off : (limit : ℕ) (g : Going) → AreOff main_order g.tree → AreOff sending_order g.tree → round limit g ≡ g
round-off limit g main sends =
    rw (passes-off main_order limit g main) (passes-off sending_order limit g sends)

-- ---- one more rule, and one more port

pub tries_below-more : (rules : List Rule) (n limit : ℕ) (g : Going)
    → tries_below rules (n + 1) limit g ≡ tries_all rules n limit (tries_below rules n limit g)
tries_below-more rules n limit g = rw (add-one n)

tries_all-append : (first second : List Rule) (p limit : ℕ) (g : Going)
    → tries_all (first ++ second) p limit g ≡ tries_all second p limit (tries_all first p limit g)
tries_all-append [] second p limit g = refl
tries_all-append (rule ∷ first) second p limit g = tries_all-append first second p limit (tries rule p limit g)

pub tries_all-more : (rules : List Rule) (i : ℕ) (d : Rule) (p limit : ℕ) (g : Going) → i < length rules
    → tries_all (take (i + 1) rules) p limit g
    ≡ tries (get_or rules i d) p limit (tries_all (take i rules) p limit g)
tries_all-more rules i d p limit g within =
    rw (take_more rules i d within) (tries_all-append (take i rules) (get_or rules i d ∷ []) p limit g)

-- the rule fires
pub tries-on : (rule : Rule) (p limit : ℕ) (g : Going) → length g.firings < limit → On (guard rule g.tree p)
    → tries rule p limit g ≡ fired rule p g
tries-on rule p limit g below on = rw (lt-ltb (length g.firings) limit below, on) refl

-- the same firings by another part of the sweep
goes-as : {part rest part' rest' : Walk} {s t : Tree} {a b : Count} (goes : Goes part rest s a t b)
    → ((before : List Firing) → length before ≡ a.fired
    → part' a.limit (record { tree = s; firings = before })
    ≡ rest' a.limit (record { tree = t; firings = goes.firings ++ before }))
    → Goes part' rest' s a t b
goes-as goes order = record {
  firings = goes.firings;
  run = goes.run;
  fired = goes.fired;
  flush = goes.flush;
  limit = goes.limit;
  within = goes.within;
  order = order;
}

-- nothing fired yet
pub goes-none : {part rest : Walk} {s : Tree} {a : Count} → a.fired ≤ a.limit
    → ((before : List Firing) → length before ≡ a.fired
    → part a.limit (record { tree = s; firings = before }) ≡ rest a.limit (record { tree = s; firings = before }))
    → Goes part rest s a s a
goes-none within order = record {
  firings = [];
  run = refl;
  fired = omega arith;
  flush = refl;
  limit = refl;
  within = within;
  order = order;
}

-- a part, before another part
goes-first : {part rest : Walk} {s t : Tree} {a b : Count} → Goes part done s a t b
    → Goes (and_then part rest) rest s a t b
goes-first goes = goes-as goes (λ before is. rw (goes.order before is))

-- the count after a part is the number of its firings and of the earlier ones together
tally : {part rest : Walk} {s t : Tree} {a b : Count} (goes : Goes part rest s a t b) (before : List Firing)
    → length before ≡ a.fired → length (goes.firings ++ before) ≡ b.fired
tally goes before is = omega (arith, length-append goes.firings before, goes.fired)

abbrev pub again : ℕ → Walk → Walk
again n part limit g = until_idle n (part limit) g

module _ (part : Walk) (is_full : (limit : ℕ) (g : Going) → IsFull limit g → part limit g ≡ g) where
  -- the last time: after it the part changes nothing
  goes-last : (n : ℕ) {s t : Tree} {a b : Count} → Goes part done s a t b → a.limit ≤ n + a.fired
      → ((before : List Firing) → length before ≡ b.fired
      → part b.limit (record { tree = t; firings = before }) ≡ record { tree = t; firings = before })
      → Goes (again n part) done s a t b
  goes-last n {s = s} {a = a} goes enough still = goes-as goes (λ before is.
      let g : Going = record { tree = s; firings = before } in
      let now = goes.order before is in
      let rests = rw goes.limit at (still (goes.firings ++ before) (tally goes before is)) in
      until-last n (part a.limit) g (λ none. is_full a.limit g (omega arith)) (rw now rests) ∙ now)

  -- not the last time
  goes-more : (n : ℕ) {s t : Tree} {a b : Count} → Goes part done s a t b → a.fired < b.fired
      → Goes (again (suc n) part) (again n part) s a t b
  goes-more n {s = s} {a = a} {b = b} goes more = goes-as goes (λ before is.
      let g : Going = record { tree = s; firings = before } in
      let now = goes.order before is in
      let many : length (part a.limit g).firings ≡ b.fired = rw now (tally goes before is) in
      until-more n (part a.limit) g (omega arith) ∙ ap (until_idle n (part a.limit)) now)

module _ (p : ℕ) (change : PortState → PortState) (ports : List PortState) where
  pub length-change_at : length (change_at p change ports) ≡ length ports
  length-change_at =
      elim (slice_get ports p) as (λ o. length (option_map_or (λ port. slice_set ports p (change port)) o ports)
      ≡ length ports)
      [ None ↦ refl | Some port ↦ length-set ports p (change port) ]

  length-telling_others : length (telling_others p change ports) ≡ length ports
  length-telling_others =
      elim (slice_get ports p) as
      (λ o. length (option_map_or (λ port. slice_set (map with_propagation ports) p (change port)) o ports)
      ≡ length ports) [
        | None ↦ refl
        | Some port ↦ length-set (map with_propagation ports) p (change port)
            ∙ length-map ports with_propagation
      ]

length-proposed : (p : ℕ) (ports : List PortState) → length (change_at p without_proposal (map with_sync ports))
    ≡ length ports
length-proposed p ports = length-change_at p without_proposal (map with_sync ports) ∙ length-map ports with_sync

pub length-ports_after : (rule : Rule) (s : Tree) (p : ℕ) → length (ports_after rule s p) ≡ length s.ports
length-ports_after Select s p = length-selected_ports s.settings s.ports
length-ports_after (Role role_rule.RootProposed) s p = length-proposed p s.ports
length-ports_after (Role role_rule.Reroot) s p = length-map s.ports with_re_root
length-ports_after (Role role_rule.AlternateProposed) s p = length-proposed p s.ports
length-ports_after (Topology topology_rule.Detected) s p = length-telling_others p _ s.ports
length-ports_after (Topology topology_rule.NotifiedTcn) s p = length-telling_others p _ s.ports
length-ports_after (Topology topology_rule.NotifiedTc) s p = length-telling_others p _ s.ports
length-ports_after _ s p = length-change_at p _ s.ports

run-append : (fs gs : List Firing) (s t u : Tree) → Run fs s t → Run gs t u → Run (gs ++ fs) s u
run-append fs [] s t u first second = rw second first
run-append fs (g ∷ gs) s t u first (mid, second, fires) = (mid, run-append fs gs s t mid first second, fires)

flushed-append : (fs gs : List Firing) (before : ℕ) → flushed (gs ++ fs) before ≡ flushed gs (flushed fs before)
flushed-append fs [] before = refl
flushed-append fs (g ∷ gs) before = ap (flush_after g.rule g.place) (flushed-append fs gs before)

-- two consecutive parts make one
goes-both : {part rest end : Walk} {s t u : Tree} {a b c : Count} → Goes part rest s a t b → Goes rest end t b u c
    → Goes part end s a u c
goes-both {end = end} {s = s} {t = t} {u = u} {a = a} first second = record {
  firings = second.firings ++ first.firings;
  run = run-append first.firings second.firings s t u first.run second.run;
  fired = omega (arith, length-append {A = Firing});
  flush = second.flush ∙ ap (flushed second.firings) first.flush
      ∙ sym (flushed-append first.firings second.firings a.flush);
  limit = second.limit ∙ first.limit;
  within = second.within;
  order = λ before many.
      let next = second.order (first.firings ++ before) (tally first before many) in
      first.order before many ∙ (rw first.limit at next)
      ∙ ap (λ list. end a.limit (record { tree = u; firings = list }))
      (sym (append_assoc second.firings first.firings before));
}

-- one firing from a state
pub fires-one : {s t : Tree} {a : Count} (rule : Rule) (p : ℕ) → On (guard rule s p) → t ≡ after rule s p
    → a.fired < a.limit → Sweeps (tries rule p) (IsOff rule p) s a t (counted a rule p)
fires-one {s} {t} {a} rule p holds is below = record {
  goes = record {
    firings = record { rule = rule; place = p } ∷ [];
    run = (s, refl, (holds, is));
    fired = refl;
    flush = refl;
    limit = refl;
    within = omega arith;
    order = λ before many.
        tries-on rule p a.limit (record { tree = s; firings = before }) (omega arith) holds
        ∙ ap (λ v. record { tree = v; firings = record { rule = rule; place = p } ∷ before }) (sym is);
  };
  idle = λ none. absurd (omega (arith, none.same));
  ports = ap (λ (v : Tree). length v.ports) is ∙ length-ports_after rule s p;
}

-- nothing was tried, since P holds already
pub sweeps-none : {part : Walk} {P : Tree → Type 0} {s : Tree} {a : Count} → a.fired ≤ a.limit → P s
    → ((before : List Firing) → length before ≡ a.fired
    → part a.limit (record { tree = s; firings = before }) ≡ record { tree = s; firings = before })
    → Sweeps part P s a s a
sweeps-none within holds still = record {
  goes = goes-none within still;
  idle = λ none. (holds, refl);
  ports = refl;
}

-- two consecutive sweeps make one
pub sweeps-both : {first_part second_part : Walk} {P Q R : Tree → Type 0} {s t u : Tree} {a b c : Count}
    → Sweeps first_part P s a t b → Sweeps second_part Q t b u c
    → (P s → Q s → R s) → Sweeps (and_then first_part second_part) R s a u c
sweeps-both {Q = Q} {s = s} {t = t} {a = a} {b = b} {c = c} first second joins =
    let goes = goes-both (goes-first first.goes) second.goes in
    record {
      goes = goes;
      idle = λ none.
          let f₁ = first.goes.fired in
          let f₂ = second.goes.fired in
          let l₁ = first.goes.limit in
          let l₂ = second.goes.limit in
          let h₁ = none.same in
          let h₂ = none.below in
          let idle₁ : IsIdle a b = record { same = omega arith; below = omega arith } in
          let idle₂ : IsIdle b c = record { same = omega arith; below = omega arith } in
          let same₁ : t ≡ s = (first.idle idle₁).1 in
          let q : Q s = rw same₁ at (second.idle idle₂).0 in
          (joins (first.idle idle₁).0 q, (second.idle idle₂).1 ∙ same₁);
      ports = second.ports ∙ first.ports;
    }

-- the same sweep by another name
pub sweeps-as : {part part' : Walk} {P : Tree → Type 0} {s t : Tree} {a b : Count}
    → ((limit : ℕ) (g : Going) → part' limit g ≡ part limit g) → Sweeps part P s a t b → Sweeps part' P s a t b
sweeps-as {a = a} same sweep = record {
  goes = goes-as sweep.goes (λ before is. same a.limit _ ∙ sweep.goes.order before is);
  idle = sweep.idle;
  ports = sweep.ports;
}

-- one more rule is tried
pub are_off-more : (rules : List Rule) (s : Tree) (p i : ℕ) (d : Rule) → i < length rules → AreOffAt (take i rules) p s
    → IsOff (get_or rules i d) p s → AreOffAt (take (i + 1) rules) p s
are_off-more rules s p i d within before here =
    rw (list_any_more (λ rule. guard rule s p) rules i d within, before) here

-- a pass that fired nothing, or the last one that may fire
abbrev IsOver : Count → Count → Type 0
IsOver b c = (c.fired ≡ b.fired) ⊎ (c.fired ≡ c.limit)

module _ (rules : List Rule) {t u : Tree} {b c : Count}
    (sweep : Sweeps (tries_below rules (length t.ports)) (AreOff rules) t b u c) where
  one_pass : Goes (pass rules) done t b u c
  one_pass = goes-as sweep.goes sweep.goes.order

  still : IsOver b c → (before : List Firing) → length before ≡ c.fired
      → pass rules c.limit (record { tree = u; firings = before }) ≡ record { tree = u; firings = before }
  still (inr full) before is = pass-full rules c.limit _ (omega arith)
  still (inl same) before is =
      elim (cases_lt c.fired c.limit) [
        | inl below ↦ (let idle : IsIdle b c = record { same = same; below = below } in
            pass-off rules c.limit (record { tree = u; firings = before })
            (rw ((sweep.idle idle).1) (sweep.idle idle).0))
        | inr full ↦ pass-full rules c.limit _ (omega arith)
      ]

  pub passes-end : (n : ℕ) {s : Tree} {a : Count} → Goes (passes rules) (again n (pass rules)) s a t b
      → b.limit ≤ n + b.fired → IsOver b c
      → Goes (passes rules) done s a u c
  passes-end n goes enough over =
      goes-both goes (goes-last (pass rules) (pass-full rules) n one_pass enough (still over))

  pub passes-on : (n : ℕ) {s : Tree} {a : Count} → Goes (passes rules) (again n (pass rules)) s a t b
      → b.limit ≤ n + b.fired
      → c.fired ≢ b.fired → c.fired ≢ c.limit
      → (m : ℕ) × (c.limit ≤ m + c.fired) × Goes (passes rules) (again m (pass rules)) s a u c
  passes-on zero goes enough some full =
      absurd (full (omega (arith, sweep.goes.fired, sweep.goes.limit, sweep.goes.within)))
  passes-on (suc m) goes enough some full =
      let f = sweep.goes.fired in (
        m,
        omega (arith, sweep.goes.limit),
        goes-both goes (goes-more (pass rules) (pass-full rules) m one_pass (omega arith)),
      )

-- the first part of a round from t to m, the second one from m to u
module _ {t m u : Tree} {b d c : Count} (main : Goes (passes main_order) done t b m d)
    (sends : Goes (passes sending_order) done m d u c) where
  one_round : Goes round done t b u c
  one_round =
      let both = goes-both (goes-first main) sends in
      goes-as both both.order

  rests : (c.fired ≡ c.limit) ⊎ (AreOff main_order u × AreOff sending_order u) → (before : List Firing)
      → length before ≡ c.fired
      → round c.limit (record { tree = u; firings = before }) ≡ record { tree = u; firings = before }
  rests (inl full) before is = round-full c.limit _ (omega arith)
  rests (inr off) before is = round-off c.limit (record { tree = u; firings = before }) off.0 off.1

  pub rounds-end : (n : ℕ) {s : Tree} {a : Count} → Goes swept_on (again n round) s a t b → b.limit ≤ n + b.fired
      → (c.fired ≡ c.limit) ⊎ (AreOff main_order u × AreOff sending_order u) → Goes swept_on done s a u c
  rounds-end n goes enough over =
      goes-both goes (goes-last round round-full n one_round enough (rests over))

  pub rounds-on : (n : ℕ) {s : Tree} {a : Count} → Goes swept_on (again n round) s a t b → b.limit ≤ n + b.fired
      → c.fired ≢ d.fired → c.fired ≢ c.limit
      → (k : ℕ) × (c.limit ≤ k + c.fired) × Goes swept_on (again k round) s a u c
  rounds-on zero goes enough some full =
      absurd (full (omega (arith, one_round.fired, one_round.limit, one_round.within)))
  rounds-on (suc k) goes enough some full =
      let f = main.fired in
      let g = sends.fired in (
        k,
        omega (arith, one_round.limit),
        goes-both goes (goes-more round round-full k one_round (omega arith)),
      )
