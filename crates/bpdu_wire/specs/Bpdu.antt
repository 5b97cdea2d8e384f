-- The role of the sender's port in a BPDU, and when a BPDU is too old (IEEE 802.1D-2004, 9.3.3 and 9.3.4).
use Rattle.std.specs.Prelude.{ℕ, Bool, true, false, ◌&&◌, ◌==◌, nat_le, if◌then◌else◌, bit_and}
use Rattle.bpdu_wire.specs.Numbers.{ALTERNATE_OR_BACKUP_ROLE, ROLE_BITS, ROOT_ROLE, UNKNOWN_ROLE}
use Rattle.bpdu_wire.specs.declared.bpdu.SenderRole.{SenderRole}
use Rattle.bpdu_wire.specs.declared.bpdu.SenderRole.TheVariants.{Unknown, AlternateOrBackup, Root, Designated}
use Rattle.bpdu_wire.specs.declared.bpdu.Message.{Message}
use Rattle.bpdu_wire.specs.declared.bpdu.Bpdu.{Bpdu}
use Rattle.bpdu_wire.specs.declared.bpdu.Bpdu.TheVariants.{Config, Rst, Tcn}

-- the two bits of the role
abbrev pub role_of : ℕ → SenderRole
role_of flags =
    if bit_and flags ROLE_BITS == UNKNOWN_ROLE then Unknown
    else if bit_and flags ROLE_BITS == ALTERNATE_OR_BACKUP_ROLE then AlternateOrBackup
    else if bit_and flags ROLE_BITS == ROOT_ROLE then Root
    else Designated

abbrev pub is_designated : SenderRole → Bool
is_designated Designated = true
is_designated _ = false

-- the message age isn't below the max age
abbrev pub is_expired : Message → Bool
is_expired m = nat_le m.max_age m.message_age

-- A Configuration BPDU, or a designated port's Rapid Spanning Tree BPDU, whose message age isn't below its max age.
abbrev pub is_aged : Bpdu → Bool
is_aged (Config m) = is_expired m
is_aged (Rst m) = is_designated (role_of m.flags) && is_expired m
is_aged Tcn = false
