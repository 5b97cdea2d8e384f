-- Pinning a station on a port: the first of these cases that applies, with its effect.
use Rattle.std.specs.Prelude.{◌≡◌, ℕ, ◌==◌, ◌&&◌, Bool, true, false, not, Option, Some, None, if◌then◌else◌}
use Rattle.std.specs.FinMap.{remove}
use Rattle.ether_wire.specs.Addr.{is_group}
use Rattle.mac_arena.specs.declared.station.Station.{Station}
use Rattle.mac_arena.specs.declared.station.Entry.{Entry}
use Rattle.mac_arena.specs.Learning.{entry_at, is_full, is_pinned}
use Rattle.ev_mobility.specs.declared.alert.Alert.{Alert}
use Rattle.ev_mobility.specs.declared.alert.Alert.TheVariants.{StaticElsewhere, CounterSpent, TableFull}
use Rattle.ev_mobility.specs.declared.seq.Seq.{Seq}
use Rattle.ev_mobility.specs.declared.seq.Seq.TheVariants.{Next, Static, Spent}
use Rattle.ev_mobility.specs.Seq.{seq_for}
use Rattle.ev_claims.specs.LocalRoutes.{vni_at, after_pin, after_shift, after_removal}
use Rattle.ev_edge.specs.declared.pinning.PinCase.{PinCase}
use Rattle.ev_edge.specs.declared.pinning.PinCase.TheVariants.{Keep, Shift, Deny, Pin}
use Rattle.ev_edge.specs.declared.refusal.EdgeRefusal.{EdgeRefusal}
use Rattle.ev_edge.specs.declared.refusal.EdgeRefusal.TheVariants.{BadMac, NoSuchPort, NoSuchVni}
use Rattle.ev_edge.specs.Edge.{Edge, table_of, address_of}
use Rattle.ev_edge.specs.Learning.{is_spent, needs_register, OrNoMemory}

-- the cause of a refused pin: the port doesn't exist or is of another VNI, or a group address can't be pinned
abbrev pub pin_refusal : Option ℕ → Station → Option EdgeRefusal
pin_refusal None s = Some NoSuchPort
pin_refusal (Some vni) s = if vni == s.vni then (if is_group s.mac then Some BadMac else None) else Some NoSuchVni

abbrev pub refused_pin : Edge → Station → ℕ → Option EdgeRefusal
refused_pin e s port = pin_refusal (vni_at e.routes.ports port) s

abbrev pub is_static : Seq → Bool
is_static Static = true
is_static Spent = false
is_static (Next n) = false

-- a station that isn't pinned: another edge's static advert hinders it, a spent counter, and a full table where it
-- isn't
-- learnt
abbrev pub unpinned_case : Edge → Station → Bool → PinCase
unpinned_case e s known =
    if is_static (seq_for (table_of e) (address_of e) s.vni s.mac) then Deny StaticElsewhere
    else if is_spent e.routes then Deny CounterSpent
    else if not known && is_full e.routes.learned then Deny TableFull
    else Pin

abbrev pub pin_case_at : Edge → Station → ℕ → Option Entry → PinCase
pin_case_at e s port None = unpinned_case e s false
pin_case_at e s port (Some x) = if x.pinned then (if x.port == port then Keep else Shift) else unpinned_case e s true

abbrev pub pin_case : Edge → Station → ℕ → PinCase
pin_case e s port = pin_case_at e s port (entry_at e.routes.learned s)

abbrev pub DoesPin : PinCase → Edge → Station → ℕ → Option Alert → Edge → Type 0
DoesPin Keep e s port told e' = (told ≡ None) × (e' ≡ e)
DoesPin Shift e s port told e' = (told ≡ None) × (e' ≡ record e { routes = after_shift e.routes s port })
DoesPin (Deny alert) e s port told e' = (told ≡ Some alert) × (e' ≡ e)
DoesPin Pin e s port told e' =
    OrNoMemory (needs_register e s) e None (record e { routes = after_pin e.routes s port }) told e'

-- pinning the station on the port
abbrev pub Pinning : Edge → Station → ℕ → Option Alert → Edge → Type 0
Pinning e s port told e' = DoesPin (pin_case e s port) e s port told e'

-- a pinned station goes; any other one stays
abbrev pub after_unpin : Edge → Station → Edge
after_unpin e s = if is_pinned (entry_at e.routes.learned s) then record e { routes = after_removal e.routes s } else e

-- the station's window ends
abbrev pub after_thawing : Edge → Station → Edge
after_thawing e s = record e { windows = remove e.windows s }
