-- Laws of `behind`: appending twice, and appending nothing.
use Rattle.std.proofs.Common.{◌≡◌, List, [], ◌++◌, Option, Some, None, refl, ap, append_assoc}
use Rattle.std.proofs.lemmas.List.{append-nil}
use Rattle.ev_links.specs.Coming.{behind}

pub behind_twice : {A : Type 0} (k : Option (List A)) (a b : List A) → behind (behind k a) b ≡ behind k (a ++ b)
behind_twice None a b = refl
behind_twice (Some xs) a b = ap Some (append_assoc xs a b)

pub behind_none : {A : Type 0} (k : Option (List A)) → behind k [] ≡ k
behind_none None = refl
behind_none (Some xs) = ap Some (append-nil xs)
