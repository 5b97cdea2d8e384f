-- The numbers of a record and of its route, each with the section that it is from.
use Rattle.std.specs.Prelude.{ℕ}

-- a record begins with `EV`, version, kind and a length of two octets, the number of octets after it
abbrev pub MAGIC_FIRST : ℕ
MAGIC_FIRST = 0x45

abbrev pub MAGIC_SECOND : ℕ
MAGIC_SECOND = 0x56

abbrev pub VERSION_PLACE : ℕ
VERSION_PLACE = 2

abbrev pub KIND_PLACE : ℕ
KIND_PLACE = 3

abbrev pub LENGTH_PLACE : ℕ
LENGTH_PLACE = 4

abbrev pub LENGTH_END : ℕ
LENGTH_END = 5

abbrev pub HEAD : ℕ
HEAD = 6

-- the versions, and the kinds of a record
abbrev pub FIRST_VERSION : ℕ
FIRST_VERSION = 1

abbrev pub NEWEST : ℕ
NEWEST = 3

abbrev pub ADVERTISES : ℕ
ADVERTISES = 1

abbrev pub WITHDRAWS : ℕ
WITHDRAWS = 2

-- the number of octets after the length: the minimum in version 1, the minimum in later versions, and the maximum
abbrev pub LEAST_FIRST : ℕ
LEAST_FIRST = 15

abbrev pub LEAST_LATER : ℕ
LEAST_LATER = 19

abbrev pub MOST : ℕ
MOST = 512

-- the places of the fields in version 1
abbrev pub ORIGINATOR_PLACE : ℕ
ORIGINATOR_PLACE = 6

abbrev pub FIRST_COUNTER_PLACE : ℕ
FIRST_COUNTER_PLACE = 10

abbrev pub FIRST_VNI_PLACE : ℕ
FIRST_VNI_PLACE = 18

abbrev pub FIRST_ROUTE_PLACE : ℕ
FIRST_ROUTE_PLACE = 21

-- the places of the fields in later versions
abbrev pub INCARNATION_PLACE : ℕ
INCARNATION_PLACE = 10

abbrev pub COUNTER_PLACE : ℕ
COUNTER_PLACE = 14

abbrev pub VNI_PLACE : ℕ
VNI_PLACE = 22

abbrev pub ROUTE_PLACE : ℕ
ROUTE_PLACE = 25

-- the types of a MAC/IP advertisement route and of an inclusive multicast route (RFC 7432, section 7)
abbrev pub MAC_ROUTE : ℕ
MAC_ROUTE = 2

abbrev pub FLOOD_ROUTE : ℕ
FLOOD_ROUTE = 3

-- the route distinguisher: the lower octet of its type, and its address (RFC 7432, sections 7.2 and 7.9)
abbrev pub RD_TYPE_PLACE : ℕ
RD_TYPE_PLACE = 3

abbrev pub RD_ADDR_PLACE : ℕ
RD_ADDR_PLACE = 4

-- the places in a MAC/IP advertisement route (RFC 7432, section 7.2)
abbrev pub SEGMENT_PLACE : ℕ
SEGMENT_PLACE = 10

abbrev pub SEGMENT_LEN : ℕ
SEGMENT_LEN = 10

abbrev pub MAC_TAG_PLACE : ℕ
MAC_TAG_PLACE = 20

abbrev pub MAC_BITS_PLACE : ℕ
MAC_BITS_PLACE = 24

abbrev pub MAC_PLACE : ℕ
MAC_PLACE = 25

abbrev pub IP_BITS_PLACE : ℕ
IP_BITS_PLACE = 31

abbrev pub IP_PLACE : ℕ
IP_PLACE = 32

abbrev pub LABEL2_PLACE : ℕ
LABEL2_PLACE = 35

-- its lengths: without IP address, then with a second label, and the least with an IPv4 or IPv6 address (RFC 7432,
-- section 7.2)
abbrev pub MAC_LEN : ℕ
MAC_LEN = 33

abbrev pub MAC_LEN_LABEL2 : ℕ
MAC_LEN_LABEL2 = 36

abbrev pub MAC_LEN_V4 : ℕ
MAC_LEN_V4 = 37

abbrev pub MAC_LEN_V6 : ℕ
MAC_LEN_V6 = 49

-- the bits of a MAC and of a router address (RFC 7432, sections 7.2 and 7.3)
abbrev pub BITS_OF_MAC : ℕ
BITS_OF_MAC = 48

abbrev pub BITS_OF_ROUTER : ℕ
BITS_OF_ROUTER = 32

-- the places in an inclusive multicast route with an IPv4 router, and its length (RFC 7432, section 7.3)
abbrev pub FLOOD_TAG_PLACE : ℕ
FLOOD_TAG_PLACE = 10

abbrev pub ROUTER_BITS_PLACE : ℕ
ROUTER_BITS_PLACE = 14

abbrev pub ROUTER_PLACE : ℕ
ROUTER_PLACE = 15

abbrev pub FLOOD_LEN : ℕ
FLOOD_LEN = 17

-- the MAC Mobility community: octets, type (its subtype is 0), places of flags and sequence number (RFC 7432,
-- section 7.7)
abbrev pub COMMUNITY_LEN : ℕ
COMMUNITY_LEN = 8

abbrev pub COMMUNITY_TYPE : ℕ
COMMUNITY_TYPE = 6

abbrev pub FLAGS_PLACE : ℕ
FLAGS_PLACE = 2

abbrev pub SEQUENCE_PLACE : ℕ
SEQUENCE_PLACE = 4

-- the faults of a stream
abbrev pub BAD_MAGIC : ℕ
BAD_MAGIC = 1

abbrev pub BAD_VERSION : ℕ
BAD_VERSION = 2

abbrev pub BAD_KIND : ℕ
BAD_KIND = 3

abbrev pub BAD_LENGTH : ℕ
BAD_LENGTH = 4

-- the refusals of a record
abbrev pub UNKNOWN_TYPE : ℕ
UNKNOWN_TYPE = 5

abbrev pub BAD_ROUTE : ℕ
BAD_ROUTE = 6

abbrev pub RD_MISMATCH : ℕ
RD_MISMATCH = 7

abbrev pub MULTIHOMED : ℕ
MULTIHOMED = 8

abbrev pub TAG_UNSUPPORTED : ℕ
TAG_UNSUPPORTED = 9

abbrev pub LABEL_MISMATCH : ℕ
LABEL_MISMATCH = 10

abbrev pub BAD_MAC : ℕ
BAD_MAC = 11

abbrev pub COUNTER_ZERO : ℕ
COUNTER_ZERO = 14

-- the refusals of an update by its receiver
abbrev pub UNKNOWN_ORIGINATOR : ℕ
UNKNOWN_ORIGINATOR = 12

abbrev pub NO_MEMORY : ℕ
NO_MEMORY = 15
