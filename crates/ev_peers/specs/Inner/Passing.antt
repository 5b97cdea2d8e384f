-- The notes of an edge about its book's answers.
use Rattle.std.specs.Prelude.{Bool, true, false, Option, Some, None}
use Rattle.ev_mobility.specs.declared.alert.Alert.{Alert}
use Rattle.ev_mobility.specs.declared.alert.Alert.TheVariants.{NoMemory}

-- the alert is that memory was refused
abbrev pub is_no_memory : Option Alert → Bool
is_no_memory None = false
is_no_memory (Some NoMemory) = true
is_no_memory (Some _) = false
