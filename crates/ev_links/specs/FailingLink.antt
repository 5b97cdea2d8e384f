-- Links of which one call fails.
use Rattle.std.specs.Prelude.{ℕ, ◌+◌, ◌-◌, ◌^◌, min}
use Rattle.ev_links.specs.declared.failing_link.FailingLink.{FailingLink}

-- the wrapped link, which all other calls go to
abbrev pub inner_link : {K : Type 0} → FailingLink K → K
inner_link f = f.inner

-- the number of calls so far, and the number of the call that fails
abbrev pub calls_of : {K : Type 0} → FailingLink K → ℕ
calls_of f = f.calls

abbrev pub fails_at : {K : Type 0} → FailingLink K → ℕ
fails_at f = f.at

-- the failures of the wrapped link plus its own, at most 2^64 - 1
abbrev pub failing : {K : Type 0} → (K → ℕ) → FailingLink K → ℕ
failing failed f = min (failed f.inner + f.failures) (2 ^ 64 - 1)

-- one more call; the count stops at 2^64 - 1
abbrev pub counted : ℕ → ℕ
counted calls = min (calls + 1) (2 ^ 64 - 1)
