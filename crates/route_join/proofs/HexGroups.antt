-- Four groups of hexadecimal digits after other octets.
use Rattle.std.proofs.Common.{◌≡◌, ℕ, ◌/◌, ◌%◌, ◌^◌, List, [], ◌∷◌, ◌++◌, append_assoc}
use Rattle.ether_wire.specs.Addr.{hex_group}
use Rattle.route_wire.specs.Text.{groups_text}

pub groups_behind : (x : List ℕ) (n : ℕ)
    → ((((((x ++ hex_group (n / 2 ^ 48 % 2 ^ 16)) ++ 58 ∷ []) ++ hex_group (n / 2 ^ 32 % 2 ^ 16)) ++ 58 ∷ [])
    ++ hex_group (n / 2 ^ 16 % 2 ^ 16)) ++ 58 ∷ []) ++ hex_group (n % 2 ^ 16) ≡ x ++ groups_text n
unfolding groups_text
groups_behind x n = simp append_assoc
