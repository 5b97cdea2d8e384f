-- The order of paths to the root is total, and the path that a pass finds is the least candidate.
use Rattle.std.proofs.Common.{◌≡◌, ℕ, List, Option, Some, None, refl, sym, ap}
use Rattle.std.specs.Cmp.{IsTotalOrder}
use Rattle.std.specs.Cmp.Lexicographic.{options_total}
use Rattle.std.specs.FinMap.{nat_cmp-IsAntisymmetric}
use Rattle.std.specs.List.{filter_map, enumerate_from}
use Rattle.std.specs.Option.{option_cmp}
use Rattle.std.specs.Ordering.{nat_cmp}
use Rattle.std.specs.declared.cmp.Ordering.TheVariants.{Equal}
use Rattle.std.proofs.lemmas.Cmp.{nat_cmp_total, on_total, then_total}
use Rattle.rstp_state.specs.declared.port.PortState.{PortState}
use Rattle.rstp_state.specs.declared.selection.Path.{Path}
use Rattle.rstp_state.specs.declared.start.Settings.{Settings}
use Rattle.rstp_state.specs.Vector.{vector_cmp}
use Rattle.rstp_state.specs.Selection.{path_cmp, own_path, path_at, candidates, is_least, IsLeastOf, best_path}
use Rattle.rstp_state.proofs.Vectors.{vector_total, both_equal, same_vector}
use Rattle.rstp_state.proofs.Least.{least, least_all, least_among, tie, find_only}

path_total : IsTotalOrder path_cmp
path_total =
    then_total (on_total (λ p. p.vector) vector_total) (then_total (on_total (λ p. p.port) nat_cmp_total)
    (on_total (λ p. p.place) (options_total nat_cmp_total)))

same_place : (a b : Option ℕ) → option_cmp nat_cmp a b ≡ Equal → a ≡ b
same_place None None h = refl
same_place None (Some b) h = cc
same_place (Some a) None h = cc
same_place (Some a) (Some b) h = ap Some (nat_cmp-IsAntisymmetric a b h)

same_path : (a b : Path) → path_cmp a b ≡ Equal → a ≡ b
same_path a b h =
    let h1 = both_equal (vector_cmp a.vector b.vector) _ h in
    let h2 = both_equal (nat_cmp a.port b.port) (option_cmp nat_cmp a.place b.place) h1.1 in
    let vector = same_vector _ _ h1.0 in
    let port = nat_cmp-IsAntisymmetric _ _ h2.0 in
    let place = same_place _ _ h2.1 in
    λ i. record { vector = vector i; port = port i; place = place i }

pub least_of_candidates : (s : Settings) (ports : List PortState)
    → IsLeastOf (candidates s ports) (least path_cmp (own_path s) (filter_map (path_at s) (enumerate_from 0 ports)))
least_of_candidates s ports = record {
  among = least_among path_total (own_path s) (filter_map (path_at s) (enumerate_from 0 ports));
  least = least_all path_total (own_path s) (filter_map (path_at s) (enumerate_from 0 ports));
}

-- the least of the candidates is the one that the definition names
pub least_is_best : (s : Settings) (ports : List PortState) (path : Path) → IsLeastOf (candidates s ports) path
    → path ≡ best_path s ports
unfolding best_path
least_is_best s ports path h =
    sym (find_only (is_least (candidates s ports)) (candidates s ports) path (own_path s) h.among h.least
    (λ y in_y least_y. same_path y path (tie path_total (candidates s ports) y path in_y least_y h.among h.least)))
