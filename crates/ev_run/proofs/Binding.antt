-- The ports that have a cable so far, and the reason that prevents the next one.
use Rattle.std.proofs.Common.{◌≡◌, ℕ, zero, suc, ◌+◌, ◌<◌, Bool, true, false, List, [], ◌∷◌, ◌++◌, map, take, length}
use Rattle.std.proofs.Common.{get_or, Option, Some, None, is_none, refl, sym, ap, ap₂, subst, ◌∙◌, arith}
use Rattle.std.proofs.Common.{◌||◌, cond, Result, Ok, Err, IfOk, IfErr, IsErrAnd}
use Rattle.std.proofs.lemmas.List.{take_more, map-append}
use Rattle.std.proofs.lemmas.List.Elements.{filter_map-append, Contains-append_left, Contains-append_right}
use Rattle.std.proofs.lemmas.Grind.{flat_map-append}
use Rattle.std.proofs.lemmas.List.Folds.{list_any_more}
use Rattle.std.proofs.lemmas.Slice.Eq.{bytes_eq-Decides}
use Rattle.std.specs.List.{cons_option, Contains, filter_map, flat_map, list_any}
use Rattle.arrayvec.specs.ArrayVec.{ArrayVec}
use Rattle.ev_edge.specs.declared.config.EdgeConfig.{EdgeConfig}
use Rattle.ev_config.specs.declared.whole.Config.{Config}
use Rattle.ev_run.specs.declared.sockets.StartError.{StartError}
use Rattle.ev_run.specs.declared.sockets.StartError.TheVariants.{Unbindable, Unattached, Unnamed, NoMemory}
use Rattle.ev_config.specs.declared.endpoint.Endpoint.{Endpoint}
use Rattle.ev_config.specs.declared.endpoint.PortEndpoints.{PortEndpoints}
use Rattle.ev_run.specs.declared.bound.Cable.{Cable}
use Rattle.ev_run.specs.declared.taps.AttachError.{AttachError}
use Rattle.ev_run.specs.LinkEnds.{LinkEnd, Udp, Device, end_of, local_of, remote_of}
use Rattle.ev_run.specs.Inner.Sockets.{attached, local_end, remote_end}
use Rattle.ev_links.specs.declared.device_name.DeviceName.{DeviceName}
use Rattle.ev_links.specs.Tap.{name_of}
use Rattle.ev_links.specs.declared.tap.Tap.{Tap}
use Rattle.ev_run.specs.Inner.Taps.{is_named, tap_named}
use Rattle.ev_run.specs.Sockets.{locals_of, tunnel_of, edge_ends, ends_from, endpoints_of, all_ends, lacks_end}
use Rattle.ev_run.specs.Sockets.{lacks_ends, lacks_address, Hinders}
use Rattle.rstp_state.proofs.Basics.{no as never}

-- one port more, and one end of its link
pub end_more : (end : PortEndpoints → Option LinkEnd) (at : Cable → LinkEnd) (links : List PortEndpoints)
    (place : ℕ) (d : PortEndpoints) (ports : List Cable) (port : Cable) → place < length links
    → map at ports ≡ filter_map end (take place links)
    → end (get_or links place d) ≡ Some (at port)
    → map at (ports ++ port ∷ []) ≡ filter_map end (take (place + 1) links)
end_more end at links place d ports port within was one =
    let before = take place links in
    map-append at ports (port ∷ [])
    ∙ ap (λ (xs : List LinkEnd). xs ++ at port ∷ []) was
    ∙ ap (λ (o : Option LinkEnd). filter_map end before ++ cons_option o []) (sym one)
    ∙ sym (filter_map-append end before (get_or links place d ∷ []))
    ∙ ap (filter_map end) (sym (take_more links place d within))

-- one link more, of which the same holds as of its port
pub link_more : {L X : Type 0} (of : L → X) (to : Cable → X) (ports : List Cable) (place : ℕ) (d : Cable)
    (links : List L) (link : L) → place < length ports → map of links ≡ map to (take place ports)
    → of link ≡ to (get_or ports place d) → map of (links ++ link ∷ []) ≡ map to (take (place + 1) ports)
link_more {X = X} of to ports place d links link within was one =
    let before = take place ports in
    map-append of links (link ∷ [])
    ∙ ap (λ (xs : List X). xs ++ of link ∷ []) was
    ∙ ap (λ (x : X). map to before ++ x ∷ []) one
    ∙ sym (map-append to before (get_or ports place d ∷ []))
    ∙ ap (map to) (sym (take_more ports place d within))

-- one port more that has its addresses
pub whole_more : (links : List PortEndpoints) (place : ℕ) (d : PortEndpoints) → place < length links
    → lacks_ends (take place links) ≡ false → lacks_end (get_or links place d) ≡ false
    → lacks_ends (take (place + 1) links) ≡ false
whole_more links place d within was one =
    list_any_more lacks_end links place d within ∙ ap (λ b. b || lacks_end (get_or links place d)) was ∙ one

-- a port that has both ends
pub lacks_none : (link : PortEndpoints) (local remote : LinkEnd) → local_of link ≡ Some local
    → remote_of link ≡ Some remote → lacks_end link ≡ false
lacks_none link local remote a b = ap₂ (λ (o p : Option LinkEnd). is_none o || is_none p) a b

-- ---- an end that is of no use

-- the value that the exit of a `?` returns
pub exits : {T : Type 0} (r : Result T StartError) (ends : List LinkEnd) (lacks : Bool) (why : StartError)
    → IsErrAnd r (λ e. e ≡ why) → Hinders ends lacks why → IfErr r (λ e. Hinders ends lacks e)
exits (Ok x) ends lacks why is h = tt
exits (Err e) ends lacks why is h = subst (λ (it : StartError). Hinders ends lacks it) (sym is) h

-- a reason for these ends is one for more ends
hinders_more : (ends wider : List LinkEnd) (lacks more : Bool) (why : StartError)
    → ((at : LinkEnd) → Contains ends at → Contains wider at) → (lacks ≡ true → more ≡ true)
    → Hinders ends lacks why → Hinders wider more why
hinders_more ends wider lacks more (Unbindable at why) within also h = within (Udp at) h
hinders_more ends wider lacks more (Unattached name why) within also h = within (Device name) h
hinders_more ends wider lacks more Unnamed within also h = also h
hinders_more ends wider lacks more NoMemory within also h = h

behind : (o : Option LinkEnd) (ends : List LinkEnd) (at : LinkEnd) → Contains ends at
    → Contains (cons_option o ends) at
behind None ends at h = h
behind (Some first) ends at h = Contains-append_right (first ∷ []) ends at h

one_of : (one at : LinkEnd) → Contains (one ∷ []) at → one ≡ at
one_of one at (zero, within, is) = is
one_of one at (suc k, within, is) = absurd (omega (arith, within))

all_in_one : (one : LinkEnd) (ends : List LinkEnd) → Contains ends one → (at : LinkEnd) → Contains (one ∷ []) at
    → Contains ends at
all_in_one one ends there at h = subst (λ (e : LinkEnd). Contains ends e) (one_of one at h) there

-- the end at which a port receives its frames is one of those of its edge's ports
own_in : (o : Option LinkEnd) (ends : List LinkEnd) (at : LinkEnd) → Contains (cons_option o []) at
    → Contains (cons_option o ends) at
own_in None ends at (k, within, is) = absurd (omega (arith, within))
own_in (Some one) ends at h = Contains-append_left (one ∷ []) ends at h

local_in : (links : List PortEndpoints) (place : ℕ) (d : PortEndpoints) → place < length links → (at : LinkEnd)
    → Contains (cons_option (local_of (get_or links place d)) []) at → Contains (locals_of links) at
local_in [] place d within at h = absurd (omega (arith, within))
local_in (link ∷ links) zero d within at h = own_in (local_of link) (locals_of links) at h
local_in (link ∷ links) (suc place) d within at h =
    behind (local_of link) (locals_of links) at (local_in links place d (omega (arith, within)) at h)

lacking_in : (links : List PortEndpoints) (place : ℕ) (d : PortEndpoints) → place < length links
    → lacks_end (get_or links place d) ≡ true → lacks_ends links ≡ true
lacking_in [] place d within h = absurd (omega (arith, within))
lacking_in (link ∷ links) zero d within h = ap (λ b. b || lacks_ends links) h
lacking_in (link ∷ links) (suc place) d within h =
    elim (lacks_end link) as (λ b. (b || lacks_ends links) ≡ true) [
      | true ↦ refl
      | false ↦ lacking_in links place d (omega (arith, within)) h
    ]

-- a port whose end is of no use
pub port_hinders : (links : List PortEndpoints) (place : ℕ) (d : PortEndpoints) (why : StartError)
    → place < length links
    → Hinders (cons_option (local_of (get_or links place d)) []) (lacks_end (get_or links place d)) why
    → Hinders (locals_of links) (lacks_ends links) why
port_hinders links place d why within h =
    let link = get_or links place d in
    hinders_more (cons_option (local_of link) []) (locals_of links) (lacks_end link) (lacks_ends links) why
    (local_in links place d within) (lacking_in links place d within) h

-- the socket of an edge's tunnels that can't be bound
pub tunnel_hinders : (edge : EdgeConfig) (links : ArrayVec PortEndpoints) (at : Endpoint) (why : StartError)
    → at ≡ tunnel_of edge → Hinders (Udp at ∷ []) false why
    → Hinders (edge_ends edge links) (lacks_ends links.items) why
tunnel_hinders edge links at why is h =
    hinders_more (Udp at ∷ []) (edge_ends edge links) false (lacks_ends links.items) why
    (all_in_one (Udp at) (edge_ends edge links) (subst (λ (e : Endpoint). Contains (edge_ends edge links) (Udp e))
    (sym is) (0, omega arith, refl))) never h

-- a reason for its ports is one for an edge
pub ports_hinder : (edge : EdgeConfig) (links : ArrayVec PortEndpoints) (why : StartError)
    → Hinders (locals_of links.items) (lacks_ends links.items) why
    → Hinders (edge_ends edge links) (lacks_ends links.items) why
ports_hinder edge links why h =
    hinders_more (locals_of links.items) (edge_ends edge links) (lacks_ends links.items) (lacks_ends links.items) why
    (Contains-append_right (Udp (tunnel_of edge) ∷ []) (locals_of links.items)) (λ lacking. lacking) h

one_of_all : (bound : List (List LinkEnd)) (one : List LinkEnd) (more all : List (List LinkEnd))
    → bound ++ one ∷ more ≡ all → (at : LinkEnd) → Contains one at → Contains (flat_map (λ ends. ends) all) at
one_of_all bound one more all same at h =
    let each : List LinkEnd → List LinkEnd = λ ends. ends in
    subst (λ (all : List (List LinkEnd)). Contains (flat_map each all) at) same
    (subst (λ (ends : List LinkEnd). Contains ends at) (sym (flat_map-append each bound (one ∷ more)))
    (Contains-append_right (flat_map each bound) (flat_map each (one ∷ more)) at
    (Contains-append_left one (flat_map each more) at h)))

-- a reason for the next edge is one for a run
pub edge_hinders : (bound : List (List LinkEnd)) (edges more : List EdgeConfig)
    (all others : List (ArrayVec PortEndpoints)) (edge : EdgeConfig) (links : ArrayVec PortEndpoints) (config : Config)
    (why : StartError)
    → (edges ≡ edge ∷ more) × (all ≡ links ∷ others) → bound ++ ends_from edges all ≡ endpoints_of config
    → list_any (λ (l : ArrayVec PortEndpoints). lacks_ends l.items) all ≡ lacks_address config
    → Hinders (edge_ends edge links) (lacks_ends links.items) why → Hinders (all_ends config) (lacks_address config) why
edge_hinders bound edges more all others edge links config why next same whole h =
    let lacks : List (ArrayVec PortEndpoints) → Bool = list_any (λ (l : ArrayVec PortEndpoints). lacks_ends l.items) in
    hinders_more (edge_ends edge links) (all_ends config) (lacks_ends links.items) (lacks_address config) why
    (one_of_all bound (edge_ends edge links) (ends_from more others) (endpoints_of config)
    (ap₂ (λ (es : List EdgeConfig) (ls : List (ArrayVec PortEndpoints)). bound ++ ends_from es ls) (sym next.0)
    (sym next.1) ∙ same))
    (λ lacking. sym whole ∙ ap lacks next.1 ∙ ap (λ b. b || lacks others) lacking) h

-- ---- devices

-- the device that was found has the name
pub named_so : (taps : List Tap) (name : DeviceName) (tap : Tap) → tap_named taps name ≡ Some tap → name_of tap ≡ name
named_so [] name tap is = cc
named_so (one ∷ taps) name tap is = elim (is_named name one) as (λ b. is_named name one ≡ b
    → cond b (Some one) (tap_named taps name) ≡ Some tap → name_of tap ≡ name) [
      | true ↦ λ e f.
          let same : one ≡ tap = cc in
          ap name_of (sym same) ∙ ap (λ (o : List ℕ). record { octets = o })
          ((bytes_eq-Decides (name_of one).octets name.octets).0 e)
      | false ↦ λ e f. named_so taps name tap f
    ] refl is

-- the ends of a port over the device that was found
module _ (link : PortEndpoints) (taps : List Tap) (others : AttachError) (name : DeviceName)
    (is : link.device ≡ Some name) where
  local_over : (o : Option Tap) → tap_named taps name ≡ o
      → IfOk (attached name others o) (λ cable. local_of link ≡ Some (local_end cable))
  local_over None e = tt
  local_over (Some tap) e = ap (λ (d : Option DeviceName). end_of d link.local) is
      ∙ ap (λ (n : DeviceName). Some (Device n)) (sym (named_so taps name tap e))

  remote_over : (o : Option Tap) → tap_named taps name ≡ o
      → IfOk (attached name others o) (λ cable. remote_of link ≡ Some (remote_end cable))
  remote_over None e = tt
  remote_over (Some tap) e = ap (λ (d : Option DeviceName). end_of d link.remote) is
      ∙ ap (λ (n : DeviceName). Some (Device n)) (sym (named_so taps name tap e))

  pub attached_local : (r : Result Cable StartError) → r ≡ attached name others (tap_named taps name)
      → IfOk r (λ cable. local_of link ≡ Some (local_end cable))
  attached_local r found =
      subst (λ (s : Result Cable StartError). IfOk s (λ cable. local_of link ≡ Some (local_end cable))) (sym found)
      (local_over (tap_named taps name) refl)

  pub attached_remote : (r : Result Cable StartError) → r ≡ attached name others (tap_named taps name)
      → IfOk r (λ cable. remote_of link ≡ Some (remote_end cable))
  attached_remote r found =
      subst (λ (s : Result Cable StartError). IfOk s (λ cable. remote_of link ≡ Some (remote_end cable))) (sym found)
      (remote_over (tap_named taps name) refl)
