-- All faults of a document: its faulty keys, each with its table, in the order in which they are printed.
use Rattle.std.specs.Prelude.{◌≡◌, List, ◌++◌, map, Option, option_map}
use Rattle.std.specs.Prelude.{Result, Ok, Err, Vec}
use Rattle.std.specs.Borrow.{Bor}
use Rattle.std.specs.Option.{option_map_or}
use Rattle.std.specs.declared.alloc.Global.{Global}
use Rattle.toml.specs.Data.{Items, no_items}
use Rattle.toml.specs.View.{array_view}
use Rattle.toml.specs.declared.value.Value.{Value}
use Rattle.ev_config.specs.declared.schema.Row.{Row as CodeRow}
use Rattle.ev_config.specs.declared.document_table.DocumentTable.{DocumentTable}
use Rattle.ev_config.specs.declared.document_table.DocumentTable.TheVariants as place
use Rattle.ev_config.specs.declared.faults.FaultyKey.{FaultyKey}
use Rattle.ev_config.specs.declared.devices.NamedPort.{NamedPort as CodePort}
use Rattle.ev_config.specs.declared.seen_names.SeenNames.{SeenNames as CodeNames}
use Rattle.ev_config.specs.declared.document_table.Context.{Context as CodeContext}
use Rattle.ev_config.specs.Schema.{Row}
use Rattle.ev_config.specs.Faults.{Spot, File, Edge, Port, Peer, Faulty, NamedPort, SeenNames, Context}

abbrev pub spot_of : DocumentTable → Spot
spot_of (place.File t) = File
spot_of (place.Edge n t) = Edge n
spot_of (place.Port n m t) = Port n m
spot_of (place.Peer n t) = Peer n

abbrev pub faulty_of : FaultyKey → Faulty
faulty_of f = (spot_of f.place, f.key.now)

abbrev pub faults_view : List FaultyKey → List Faulty
faults_view faults = map faulty_of faults

-- these faults were added, unless memory was refused
abbrev pub Adds : {X E : Type 0} → List Faulty → List FaultyKey → List FaultyKey → Result X E → Type 0
Adds more old new (Ok x) = faults_view new ≡ faults_view old ++ more
Adds more old new (Err any) = Unit {0}

abbrev pub named_of : CodePort → NamedPort
named_of p = (spot_of p.place, p.name.now)

abbrev pub named_view : List CodePort → List NamedPort
named_view ports = map named_of ports

-- these ports were found, unless memory was refused
abbrev pub Finds : {X E : Type 0} → List NamedPort → List CodePort → List CodePort → Result X E → Type 0
Finds more old new (Ok x) = named_view new ≡ named_view old ++ more
Finds more old new (Err any) = Unit {0}

-- a row without its advice
abbrev pub row_of : CodeRow → Row
row_of row = (row.0.now, row.1)

abbrev pub names_view : CodeNames → SeenNames
names_view n = record { addresses = n.addresses.items; bridges = n.bridges.items }

abbrev pub context_view : CodeContext → Context
context_view c = record {
  for_run = c.for_run;
  names = names_view c.names.now;
  vnis = option_map (λ v. v.items) c.vnis.now;
  edges = c.edges;
  has_device = c.has_device;
}

abbrev pub items_at : Option (Bor (Vec Value Global)) → Items
items_at tables = option_map_or (λ a. array_view a.now) tables no_items
