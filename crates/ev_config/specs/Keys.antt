-- The values of the keys of a table.
use Rattle.std.specs.Prelude.{ℕ, ℤ, pos, negsuc, ◌+◌, ◌-◌, ◌*◌, ◌%◌, Bool, true, not, ◌&&◌, ◌||◌, ◌==◌, nat_lt, nat_le}
use Rattle.std.specs.Prelude.{if◌then◌else◌, List, [], ◌∷◌, ◌++◌, length, is_some, Option, Some, None}
use Rattle.std.specs.Prelude.{option_and_then, codes}
use Rattle.std.specs.Option.{unwrap_or}
use Rattle.std.specs.List.{list_any}
use Rattle.toml.specs.Data.{Data, Items, no_items, item, Members, no_members, member, get_member, as_integer, as_bool}
use Rattle.toml.specs.Data.{as_str, as_array, as_table}
use Rattle.ether_wire.specs.Addr.{is_group}
use Rattle.ether_wire.specs.Parse.{addr_of_text, mac_of_text}
use Rattle.ev_links.specs.declared.device_name.DeviceName.{DeviceName}
use Rattle.ev_links.specs.DeviceName.{device_of_text}
use Rattle.ev_config.specs.declared.endpoint.Endpoint.{Endpoint}
use Rattle.ev_config.specs.declared.schema.Range.{Range}
use Rattle.ev_config.specs.Endpoint.{endpoint_of_text}
use Rattle.ev_config.specs.Schema.{Key, vni}

-- ---- values

-- a number in a range; step 0 is none
abbrev pub is_within : Range → ℕ → Bool
is_within range n = nat_le range.0 n && nat_le n range.1 && (range.2 == 0 || n % range.2 == 0)

abbrev pub within : Range → Option ℤ → Option ℕ
within range (Some (pos n)) = if is_within range n then Some n else None
within range (Some (negsuc n)) = None
within range None = None

-- an integer in a range
abbrev pub number_in : Range → Data → Option ℕ
number_in range d = within range (as_integer d)

abbrev pub flag_in : Data → Option Bool
flag_in d = as_bool d

abbrev pub addr_in : Data → Option ℕ
addr_in d = option_and_then addr_of_text (as_str d)

abbrev pub individual : Option ℕ → Option ℕ
individual None = None
individual (Some m) = if is_group m then None else Some m

-- the MAC address of one station
abbrev pub bridge_in : Data → Option ℕ
bridge_in d = individual (option_and_then mac_of_text (as_str d))

abbrev pub endpoint_in : Data → Option Endpoint
endpoint_in d = option_and_then endpoint_of_text (as_str d)

-- the name of a network device
abbrev pub device_in : Data → Option DeviceName
device_in d = option_and_then device_of_text (as_str d)

-- the text of the name of a network device
abbrev pub name_of : List ℕ → Option (List ℕ)
name_of text = if is_some (device_of_text text) then Some text else None

abbrev pub name_in : Data → Option (List ℕ)
name_in d = option_and_then name_of (as_str d)

-- the path of a Unix socket: 1 to 107 octets, none of which is 0 (unix(7))
abbrev pub is_path : List ℕ → Bool
is_path path = nat_lt 0 (length path) && nat_le (length path) 107 && not (list_any (λ x. x == 0) path)

abbrev pub path_of : List ℕ → Option (List ℕ)
path_of text = if is_path text then Some text else None

abbrev pub path_in : Data → Option (List ℕ)
path_in d = option_and_then path_of (as_str d)

abbrev pub vni_in : Data → Option ℕ
vni_in d = number_in vni d

-- one that isn't among those before
abbrev pub new_among : List ℕ → Option ℕ → Option ℕ
new_among before None = None
new_among before (Some n) = if list_any (λ x. x == n) before then None else Some n

-- 2 * (forward_delay - 1) >= max_age >= 2 * (hello + 1)
abbrev pub times_fit : ℕ → ℕ → ℕ → Bool
times_fit hello max_age forward_delay =
    nat_le max_age (2 * (forward_delay - 1)) && nat_le (2 * (hello + 1)) max_age

-- ---- arrays

-- distinct numbers, after those before
abbrev pub numbers_from : (Data → Option ℕ) → List ℕ → Items → Option (List ℕ)
numbers_from read before no_items = Some before
numbers_from read before (item d ds) = option_and_then (λ n. numbers_from read (before ++ n ∷ []) ds)
    (new_among before (read d))

abbrev pub count_of : Items → ℕ
count_of no_items = 0
count_of (item d ds) = 1 + count_of ds

-- 1 to 64 items
abbrev pub is_few : Items → Bool
is_few ds = nat_lt 0 (count_of ds) && nat_le (count_of ds) 64

abbrev pub few : Items → Option Items
few ds = if is_few ds then Some ds else None

-- 1 to 64 distinct VNIs
abbrev pub vnis_in : Data → Option (List ℕ)
vnis_in d = option_and_then (numbers_from vni_in []) (option_and_then few (as_array d))

abbrev pub are_tables : Items → Bool
are_tables no_items = true
are_tables (item d ds) = is_some (as_table d) && are_tables ds

-- an array of 1 to 64 tables
abbrev pub tables_in : Data → Option Items
tables_in d = option_and_then (λ ds. if is_few ds && are_tables ds then Some ds else None) (as_array d)

-- an array of at most 64 tables, together with this number of others
abbrev pub tables_beside : ℕ → Data → Option Items
tables_beside others d =
    option_and_then (λ ds. if nat_le (others + count_of ds) 64 then Some ds else None) (tables_in d)

-- ---- a table

-- the value of a table at a key, if it is there and right
abbrev pub spelt : {X : Type 0} → Key → (Data → Option X) → Members → Option X
spelt key read t = option_and_then read (get_member key t)

-- whether a port's table has the key of a device, with any value
abbrev pub has_device : Members → Bool
has_device t = is_some (get_member (codes "device") t)

abbrev pub or_default : ℕ → Range → Option Data → Option ℕ
or_default default range None = Some default
or_default default range (Some d) = number_in range d

-- the number at a key, or the default if it is missing; none if it is wrong
abbrev pub known_number : Key → Range → Members → Option ℕ
known_number key range t = or_default range.3 range (get_member key t)

-- the number at a key, or this one
abbrev pub number_or : ℕ → Key → Range → Members → ℕ
number_or default key range t = unwrap_or (spelt key (number_in range) t) default

-- the number at a key, or the default
abbrev pub number_at : Key → Range → Members → ℕ
number_at key range t = number_or range.3 key range t

abbrev pub flag_at : Key → Bool → Members → Bool
flag_at key default t = unwrap_or (spelt key flag_in t) default

-- the tables at a key, or none
abbrev pub tables_at : Key → Members → Items
tables_at key t = unwrap_or (spelt key tables_in t) no_items

abbrev pub with_table : Option Members → List Members → List Members
with_table None ts = ts
with_table (Some t) ts = t ∷ ts

-- the tables among the items
abbrev pub tables_of : Items → List Members
tables_of no_items = []
tables_of (item d ds) = with_table (as_table d) (tables_of ds)

-- the keys of a table, in the order of their octets
abbrev pub keys_of : Members → List Key
keys_of no_members = []
keys_of (member k d ms) = k ∷ keys_of ms
