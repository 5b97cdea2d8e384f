-- Files: their content, and the result of reading one.
use Rattle.std.specs.Prelude.{ℕ, Option}
use Rattle.evpnd.specs.Files.{Text, Shelf}

abbrev pub shelf_of : Option (Text → Option Text) → ℕ → ℕ → Shelf
shelf_of texts refusals failures = record { texts = texts; refusals = refusals; failures = failures }
