-- Lines that are printed one after the other.
use Rattle.std.proofs.Common.{◌≡◌, ℕ, ◌+◌, ◌<◌, ◌≤◌, Bool, false, inl, inr, List, [], ◌∷◌, ◌++◌, length, take, get_or}
use Rattle.std.proofs.Common.{map, Some, Ok, Err}
use Rattle.std.proofs.Common.{refl, sym, ap, subst, ◌∙◌, append_assoc, codes}
use Rattle.std.specs.Prelude.{Result}
use Rattle.std.proofs.lemmas.List.{append-nil, take_more, take_all, map-append}
use Rattle.toml.specs.Data.{Members}
use Rattle.toml.specs.Parse.{parse_document}
use Rattle.ether_wire.specs.declared.ends.Device.{Device}
use Rattle.ether_wire.specs.Ends.{End, Puts, with_text}
use Rattle.ether_wire.proofs.Appending.{with_text_twice, puts_behind}
use Rattle.ev_config.specs.declared.faults.FaultyKey.{FaultyKey}
use Rattle.ev_config.specs.declared.whole.Use.{Use}
use Rattle.ev_config.specs.Faults.{Faulty, faults_in}
use Rattle.ev_config.specs.Inner.Faults.{faulty_of, faults_view}
use Rattle.ev_config.specs.Told.{line_text, lines_text, spot_text, range_text, is_plain, IsShown, IsAbout, AreAbout}
use Rattle.ev_config.specs.Told.{TellsEach, TellsRefusal, AreFaultLines}
use Rattle.ev_config.specs.Inner.Told.{TellsFault, TellsFaults}

-- one line more
pub lines_push : (ws : List (List ℕ)) (w : List ℕ) → lines_text (ws ++ w ∷ []) ≡ lines_text ws ++ line_text w
lines_push [] w = append-nil (line_text w)
lines_push (x ∷ ws) w = ap (λ more. line_text x ++ more) (lines_push ws w)
    ∙ sym (append_assoc (line_text x) (lines_text ws) (line_text w))

-- one line more, about one fault more
pub about_push : (u : Use) (fs : List Faulty) (ws : List (List ℕ)) (f : Faulty) (w : List ℕ) → AreAbout u fs ws
    → IsAbout u f w → AreAbout u (fs ++ f ∷ []) (ws ++ w ∷ [])
about_push u [] [] f w h one = (one, tt)
about_push u [] (x ∷ ws) f w h one = absurd h
about_push u (g ∷ fs) [] f w h one = absurd h
about_push u (g ∷ fs) (x ∷ ws) f w h one = (h.0, about_push u fs ws f w h.1 one)

-- the line of a fault without advice
abbrev pub bare : Use → Faulty → List ℕ
bare u f = spot_text f.0 ++ f.1 ++ ([] ++ codes ", " ++ range_text u f ++ [])

pub bare_about : (u : Use) (f : Faulty) → IsAbout u f (bare u f)
bare_about u f = (f.1, [], [], (λ plain. refl), refl)

pub all_about : (u : Use) (fs : List Faulty) → AreAbout u fs (map (bare u) fs)
all_about u [] = tt
all_about u (f ∷ fs) = (bare_about u f, all_about u fs)

-- the place and the key of a fault were put, and then the rest of its line
pub fault_told : (u : Use) (f : Faulty) (shown found advice : List ℕ) (a b c d : End) (r : Result (Unit {0}) Device)
    → IsShown f.1 shown → b ≡ with_text a (spot_text f.0) → c ≡ with_text b shown
    → Puts c d (line_text (found ++ codes ", " ++ range_text u f ++ advice)) r → TellsFault u f a d r
fault_told u f shown found advice a b c d r is place key put =
    let spot = spot_text f.0 in
    let rest = found ++ codes ", " ++ range_text u f ++ advice in
    let words = spot ++ shown ++ rest in
    let same : spot ++ (shown ++ line_text rest) ≡ line_text words =
    sym (append_assoc spot shown (line_text rest)) ∙ sym (append_assoc (spot ++ shown) rest (10 ∷ [])) in (
      words,
      (shown, found, advice, is, refl),
      subst (λ t. Puts a d t r) same
          (puts_behind a b d spot (shown ++ line_text rest) r place
          (puts_behind b c d shown (line_text rest) r key put)),
    )

-- a key that isn't plain may be shown in any way
pub any_shown : (key bytes shown : List ℕ) (b : Bool) → b ≡ is_plain bytes → b ≡ false → bytes ≡ key
    → IsShown key shown
any_shown key bytes shown b is odd same plain = cc

-- the next fault among those that were found
pub found_more : (faults : List FaultyKey) (i : ℕ) (d : FaultyKey) → i < length faults
    → faults_view (take (i + 1) faults) ≡ faults_view (take i faults) ++ faulty_of (get_or faults i d) ∷ []
found_more faults i d within =
    ap faults_view (take_more faults i d within) ∙ map-append faulty_of (take i faults) (get_or faults i d ∷ [])

-- lines about the first faults, and then the line of one more
pub lines_more : (u : Use) (faults : List FaultyKey) (i : ℕ) (one : FaultyKey) (lines : List (List ℕ)) (words : List ℕ)
    (start old new : End) → i < length faults → one ≡ get_or faults i one
    → AreAbout u (faults_view (take i faults)) lines → old ≡ with_text start (lines_text lines)
    → IsAbout u (faulty_of one) words → new ≡ with_text old (line_text words)
    → (next : List (List ℕ)) × AreAbout u (faults_view (take (i + 1) faults)) next
    × (new ≡ with_text start (lines_text next))
lines_more u faults i one lines words start old new within is about was this put = (
  lines ++ words ∷ [],
  subst (λ fs. AreAbout u fs (lines ++ words ∷ []))
      (ap (λ (d : FaultyKey). faults_view (take i faults) ++ faulty_of d ∷ []) is
      ∙ sym (found_more faults i one within))
      (about_push u (faults_view (take i faults)) lines (faulty_of one) words about this),
  put ∙ ap (λ (e : End). with_text e (line_text words)) was ∙ with_text_twice start (lines_text lines) (line_text words)
      ∙ ap (with_text start) (sym (lines_push lines words)),
)

-- the lines about all faults
pub lines_all : (u : Use) (faults : List FaultyKey) (i : ℕ) (lines : List (List ℕ)) → length faults ≤ i
    → AreAbout u (faults_view (take i faults)) lines → AreAbout u (faults_view faults) lines
lines_all u faults i lines all h =
    subst (λ (fs : List FaultyKey). AreAbout u (faults_view fs) lines) (take_all i faults all) h

-- the faults that were found are those of the document
pub faults_told : (wanted : Use) (t : Members) (faults : List FaultyKey) (old new : End)
    (r : Result (Unit {0}) Device) → faults_view faults ≡ faults_in wanted t
    → TellsEach wanted (faults_view faults) old new r → TellsFaults wanted t old new r
faults_told wanted t faults old new r e each = inl (subst (λ fs. TellsEach wanted fs old new r) e each)

-- the lines for a document are the lines for its text
pub text_told : (wanted : Use) (text : List ℕ) (t : Members) (old new : End) (r : Result (Unit {0}) Device)
    → parse_document text ≡ Some t → TellsFaults wanted t old new r → TellsRefusal wanted text old new r
text_told wanted text t old new r is (inl each) = inl (t, is, each)
text_told wanted text t old new r is (inr one) = inr one

-- so these lines are put
pub refusal_lines : (wanted : Use) (text : List ℕ) (old new : End) (r : Result (Unit {0}) Device)
    → TellsRefusal wanted text old new r
    → (told : List ℕ) × AreFaultLines wanted text told × Puts old new told r
refusal_lines wanted text old new (Ok done) (inl (t, is, (lines, about, put))) = (
  lines_text lines,
  inl (record { document = t; parsed = is; lines = lines; about = about; told_is = refl }),
  put,
)
refusal_lines wanted text old new (Err device) (inl (t, is, failed)) =
    let lines = map (bare wanted) (faults_in wanted t) in (
      lines_text lines,
      inl (record {
        document = t;
        parsed = is;
        lines = lines;
        about = all_about wanted (faults_in wanted t);
        told_is = refl;
      }),
      failed,
    )
refusal_lines wanted text old new r (inr (words, put)) =
    (line_text words, inr (record { words = words; told_is = refl }), put)
