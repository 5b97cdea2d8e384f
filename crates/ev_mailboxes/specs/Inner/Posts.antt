-- The posts of a worker that has sent nothing.
use Rattle.std.specs.Prelude.{ℕ, zero, suc, ◌+◌, List, [], ◌∷◌, ◌++◌}
use Rattle.ev_mailboxes.specs.declared.edge_message.Letter.{Letter}

-- nothing was sent to edges 1 .. n
abbrev pub none_sent : {U : Type 0} → ℕ → List (ℕ × List (Letter U))
none_sent zero = []
none_sent (suc n) = none_sent n ++ (n + 1, []) ∷ []
