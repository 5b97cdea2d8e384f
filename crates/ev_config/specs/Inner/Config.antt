-- The configuration that a document gives, or its first fault.
use Rattle.std.specs.Prelude.{◌≡◌, ℕ, List, [], string_bytes}
use Rattle.std.specs.Prelude.{Some, None, Result, Ok, Err}
use Rattle.toml.specs.Data.{Members}
use Rattle.toml.specs.Parse.{parse_document}
use Rattle.ev_config.specs.declared.config.ConfigRefusal.{ConfigRefusal}
use Rattle.ev_config.specs.declared.config.ConfigRefusal.TheVariants as refusal
use Rattle.ev_config.specs.Schema.{Key}
use Rattle.ev_config.specs.Faults.{Faulty}
use Rattle.ev_config.specs.Config.{StartAt}

-- the document that the text spells, or that it spells none
abbrev pub Reads : {T : Type 0} → (T → Members) → List ℕ → Result T ConfigRefusal → Type 0
Reads view text (Ok t) = parse_document text ≡ Some (view t)
Reads view text (Err (refusal.Key k)) = ⊥
Reads view text (Err refusal.Text) = parse_document text ≡ None
Reads view text (Err refusal.NoMemory) = Unit {0}

-- there is no fault, or the first one is at this key; only refused memory is an exception
abbrev pub IsFirst : {X : Type 0} → List Faulty → Result X ConfigRefusal → Type 0
IsFirst faults (Ok x) = faults ≡ []
IsFirst faults (Err (refusal.Key k)) = StartAt (string_bytes k) faults
IsFirst faults (Err refusal.Text) = ⊥
IsFirst faults (Err refusal.NoMemory) = Unit {0}

-- the wanted value, or the wanted fault; only refused memory is an exception
abbrev pub Gives : {X V : Type 0} → (X → V) → Result V Key → Result X ConfigRefusal → Type 0
Gives view wanted (Ok x) = wanted ≡ Ok (view x)
Gives view wanted (Err (refusal.Key k)) = wanted ≡ Err (string_bytes k)
Gives view wanted (Err refusal.Text) = ⊥
Gives view wanted (Err refusal.NoMemory) = Unit {0}
