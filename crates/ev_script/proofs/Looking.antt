-- Lines that are checked, in order.
use Rattle.std.proofs.Common.{◌≡◌, ℕ, ◌+◌, ◌<◌, Bool, true, false, ◌&&◌, List, [], ◌∷◌, ◌++◌, length, length-append}
use Rattle.std.proofs.Common.{append_assoc, Some, refl, sym, ap, subst, ◌∙◌, arith}
use Rattle.std.proofs.lemmas.List.{append-nil}
use Rattle.std.proofs.Math.Bool.{and-true}
use Rattle.std.specs.List.{list_all}
use Rattle.ether_wire.specs.Ends.{End, IsOpen}
use Rattle.ev_report.specs.Ends.{Tells}
use Rattle.ev_report.proofs.Taking.{tells_more, tells_none}
use Rattle.ev_script.specs.declared.checking.CheckedLines.{CheckedLines}
use Rattle.ev_script.specs.Script.{cut_line}
use Rattle.ev_script.specs.Faults.{is_good, told_text, faults_text, LooksAt}
use Rattle.ev_script.proofs.Playings.{follows_more}

faults_more : (name : List ℕ) (number : ℕ) (lines : List (List ℕ)) (line : List ℕ)
    → faults_text name number (lines ++ line ∷ [])
    ≡ faults_text name number lines ++ told_text name (number + length lines) line
faults_more name number [] line = append-nil (told_text name number line)
    ∙ ap (λ n. told_text name n line) (omega arith)
faults_more name number (l ∷ lines) line =
    ap (λ t. told_text name number l ++ t) (faults_more name (number + 1) lines line)
    ∙ sym (append_assoc (told_text name number l) (faults_text name (number + 1) lines) _)
    ∙ ap (λ n. (told_text name number l ++ faults_text name (number + 1) lines)
    ++ told_text name n line) (omega arith)

and_assoc : (a b c : Bool) → ((a && b) && c) ≡ (a && (b && c))
and_assoc true b c = refl
and_assoc false b c = refl

all_more : (lines : List (List ℕ)) (line : List ℕ)
    → list_all is_good (lines ++ line ∷ []) ≡ (list_all is_good lines && is_good line)
all_more [] line = and-true (is_good line)
all_more (l ∷ lines) line = ap (λ b. is_good l && b) (all_more lines line)
    ∙ sym (and_assoc (is_good l) (list_all is_good lines) (is_good line))

pub looks_none : (name script : List ℕ) (e : End) (found : CheckedLines) → found.count ≡ 0 → found.are_good ≡ true
    → found.are_told ≡ true → LooksAt name script script e e found
looks_none name script e found count good told =
    let silent = subst (λ b. Tells e e true b []) (sym told) (tells_none e true) in
    record { lines = []; follows = refl; count = count; good = good; told = silent }

pub looks_more : (name script rest line after : List ℕ) (a b c : End) (found more : CheckedLines)
    → LooksAt name script rest a b found → 0 < length rest → (line, after) ≡ cut_line rest
    → more.count ≡ found.count + 1 → more.are_good ≡ (found.are_good && is_good line)
    → Tells b c found.are_told more.are_told (told_text name (found.count + 1) line)
    → LooksAt name script after a c more
looks_more name script rest line after a b c found more h some cut count good told =
    let many : found.count + 1 ≡ 1 + length h.lines = let n = h.count in omega arith in
    record {
      lines = h.lines ++ line ∷ [];
      follows = follows_more (λ line. Some line) script h.lines rest line line after h.follows some cut refl;
      count = let l = length-append h.lines (line ∷ []) in let n = h.count in omega arith;
      good = good ∙ ap (λ b. b && is_good line) h.good ∙ sym (all_more h.lines line);
      told = subst (λ t. Tells a c true more.are_told t) (sym (faults_more name 1 h.lines line))
          (tells_more a b c true found.are_told more.are_told (faults_text name 1 h.lines)
          (told_text name (1 + length h.lines) line) h.told
          (subst (λ n. Tells b c found.are_told more.are_told (told_text name n line)) many told));
    }
