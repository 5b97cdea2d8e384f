-- The numbers of a BPDU (IEEE 802.1D-2004, clause 9), and this crate's numbers for the reasons that octets are no BPDU.
use Rattle.std.specs.Prelude.{ℕ, ◌≡◌}
use Rattle.bpdu_wire.specs.declared.bpdu.TheConstants as times
use Rattle.bpdu_wire.specs.declared.flags.TheConstants as flags

-- ---- the place of each field, counted from 0 (9.3.1, 9.3.3)

abbrev pub VERSION_PLACE : ℕ
VERSION_PLACE = 2

abbrev pub TYPE_PLACE : ℕ
TYPE_PLACE = 3

abbrev pub FLAGS_PLACE : ℕ
FLAGS_PLACE = 4

abbrev pub ROOT_PLACE : ℕ
ROOT_PLACE = 5

abbrev pub COST_PLACE : ℕ
COST_PLACE = 13

abbrev pub BRIDGE_PLACE : ℕ
BRIDGE_PLACE = 17

abbrev pub PORT_PLACE : ℕ
PORT_PLACE = 25

abbrev pub MESSAGE_AGE_PLACE : ℕ
MESSAGE_AGE_PLACE = 27

abbrev pub MAX_AGE_PLACE : ℕ
MAX_AGE_PLACE = 29

abbrev pub HELLO_PLACE : ℕ
HELLO_PLACE = 31

abbrev pub FORWARD_DELAY_PLACE : ℕ
FORWARD_DELAY_PLACE = 33

-- ---- types and versions: a Configuration BPDU (9.3.1), a Topology Change Notification BPDU (9.3.2), and a Rapid
-- Spanning Tree BPDU (9.3.3)

abbrev pub CONFIG_TYPE : ℕ
CONFIG_TYPE = 0x00

abbrev pub TCN_TYPE : ℕ
TCN_TYPE = 0x80

abbrev pub RST_TYPE : ℕ
RST_TYPE = 0x02

abbrev pub OLD_VERSION : ℕ
OLD_VERSION = 0

abbrev pub RAPID_VERSION : ℕ
RAPID_VERSION = 2

-- ---- the least number of octets of each

abbrev pub CONFIG_SIZE : ℕ
CONFIG_SIZE = 35

abbrev pub TCN_SIZE : ℕ
TCN_SIZE = 4

abbrev pub RST_SIZE : ℕ
RST_SIZE = 36

-- ---- the flags (9.3.3; a Configuration BPDU has only the first and the last of them, 9.3.1)

abbrev pub TOPOLOGY_CHANGE : ℕ
TOPOLOGY_CHANGE = 0x01

abbrev pub PROPOSAL : ℕ
PROPOSAL = 0x02

abbrev pub ROLE_BITS : ℕ
ROLE_BITS = 0x0c

abbrev pub UNKNOWN_ROLE : ℕ
UNKNOWN_ROLE = 0x00

abbrev pub ALTERNATE_OR_BACKUP_ROLE : ℕ
ALTERNATE_OR_BACKUP_ROLE = 0x04

abbrev pub ROOT_ROLE : ℕ
ROOT_ROLE = 0x08

abbrev pub DESIGNATED_ROLE : ℕ
DESIGNATED_ROLE = 0x0c

abbrev pub LEARNING : ℕ
LEARNING = 0x10

abbrev pub FORWARDING : ℕ
FORWARDING = 0x20

abbrev pub AGREEMENT : ℕ
AGREEMENT = 0x40

abbrev pub CHANGE_ACKNOWLEDGEMENT : ℕ
CHANGE_ACKNOWLEDGEMENT = 0x80

-- ---- times, two octets each: the number of units in a second, and the greatest number (9.2.8)

abbrev pub TIME_UNITS : ℕ
TIME_UNITS = 256

abbrev pub MOST_TIME : ℕ
MOST_TIME = 65535

-- ---- the reasons that octets are no BPDU

abbrev pub TOO_SHORT : ℕ
TOO_SHORT = 1

abbrev pub BAD_PROTOCOL : ℕ
BAD_PROTOCOL = 2

abbrev pub BAD_TYPE : ℕ
BAD_TYPE = 3

abbrev pub BAD_VERSION : ℕ
BAD_VERSION = 4

abbrev pub OVER_AGE : ℕ
OVER_AGE = 5

-- ---- the public constants of the sources: other crates read and write flags and times with them

pub record AreStandard : Type 0 where
  pub topology_change : flags.TOPOLOGY_CHANGE ≡ TOPOLOGY_CHANGE
  pub proposal : flags.PROPOSAL ≡ PROPOSAL
  pub role_bits : flags.ROLE_BITS ≡ ROLE_BITS
  pub unknown_role : flags.UNKNOWN_ROLE ≡ UNKNOWN_ROLE
  pub alternate_or_backup_role : flags.ALTERNATE_OR_BACKUP_ROLE ≡ ALTERNATE_OR_BACKUP_ROLE
  pub root_role : flags.ROOT_ROLE ≡ ROOT_ROLE
  pub designated_role : flags.DESIGNATED_ROLE ≡ DESIGNATED_ROLE
  pub learning : flags.LEARNING ≡ LEARNING
  pub forwarding : flags.FORWARDING ≡ FORWARDING
  pub agreement : flags.AGREEMENT ≡ AGREEMENT
  pub change_acknowledgement : flags.CHANGE_ACKNOWLEDGEMENT ≡ CHANGE_ACKNOWLEDGEMENT
  pub time_units : times.TIME_UNITS ≡ TIME_UNITS
  pub most_time : times.MOST_TIME ≡ MOST_TIME
