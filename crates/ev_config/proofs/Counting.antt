-- Numbers of a configuration that are counted one after the other.
use Rattle.std.proofs.Common.{◌≡◌, ℕ, ◌+◌, ◌<◌, ◌||◌, if◌then◌else◌, List, ◌++◌, length, drop, get_or, ap, sym, arith}
use Rattle.std.proofs.Common.{◌∙◌}
use Rattle.std.specs.Prelude.{eqb}
use Rattle.std.specs.List.{list_any}
use Rattle.std.proofs.lemmas.List.{drop_more}
use Rattle.std.proofs.lemmas.List.Folds.{list_any-append}
use Rattle.ev_edge.specs.declared.config.EdgeConfig.{EdgeConfig}
use Rattle.ev_config.specs.Summary.{count_different, all_vnis, vni_count}

-- the next edge serves the VNI, or a later one
pub served_more : (v : ℕ) (edges : List EdgeConfig) (i : ℕ) (d : EdgeConfig) → i < length edges
    → list_any (λ x. eqb x v) (all_vnis (drop i edges))
    ≡ (list_any (λ x. eqb x v) (get_or edges i d).vnis.items || list_any (λ x. eqb x v) (all_vnis (drop (i + 1) edges)))
served_more v edges i d within =
    ap (λ l. list_any (λ x. eqb x v) (all_vnis l)) (drop_more edges i d within)
    ∙ list_any-append (λ x. eqb x v) (get_or edges i d).vnis.items (all_vnis (drop (i + 1) edges))

-- the next number is counted, unless it comes again
pub counted_more : (vnis more rest : List ℕ) (i v count last total : ℕ) → i < length vnis → v ≡ get_or vnis i v
    → rest ≡ drop (i + 1) vnis → last ≡ (if list_any (λ x. eqb x v) (rest ++ more) then 0 else 1)
    → count + count_different (drop i vnis ++ more) ≡ total
    → count + last + count_different (drop (i + 1) vnis ++ more) ≡ total
counted_more vnis more rest i v count last total within is behind one h =
    let after = drop (i + 1) vnis in
    let left : ℕ = count_different (after ++ more) in
    let worth : List ℕ → ℕ → ℕ = λ l w. if list_any (λ x. eqb x w) (l ++ more) then 0 else 1 in
    let same : last ≡ worth after (get_or vnis i v) =
    one ∙ ap (λ l. worth l v) behind ∙ ap (λ w. worth after w) is in
    let step : count_different (drop i vnis ++ more) ≡ last + left =
    ap (λ l. count_different (l ++ more)) (drop_more vnis i v within) ∙ ap (λ n. n + left) (sym same) in
    omega (arith, step, h)

-- the VNI comes again among the rest, or a later edge serves it
pub again : (v : ℕ) (rest : List ℕ) (later : List EdgeConfig)
    → list_any (λ x. eqb x v) (rest ++ all_vnis later)
    ≡ (list_any (λ x. eqb x v) rest || list_any (λ x. eqb x v) (all_vnis later))
again v rest later = list_any-append (λ x. eqb x v) rest (all_vnis later)

-- the VNIs of the next edge, and those of the later edges
pub vnis_more : (edges : List EdgeConfig) (i : ℕ) (d : EdgeConfig) → i < length edges
    → vni_count (drop i edges) ≡ count_different ((get_or edges i d).vnis.items ++ all_vnis (drop (i + 1) edges))
vnis_more edges i d within = ap vni_count (drop_more edges i d within)
