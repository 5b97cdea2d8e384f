-- A bridge stays settled from its start on, if each event may have enough firings.
use Rattle.rstp_run.proofs.Basics.{Off, On}
use Rattle.rstp_run.proofs.Few.{events_are_short}
use Rattle.rstp_run.proofs.Kept.{settled-start}
use Rattle.rstp_run.proofs.Names.{[], ap, arith, Bool, Comes, direct, Event, Firing, false, Happens, IsReached}
use Rattle.rstp_run.proofs.Names.{IsSettled, List, length, length-map, map, most_firings, PortSettings, ports_from, Run}
use Rattle.rstp_run.proofs.Names.{refl, Settings, start, Tree, true, without_slot, ℕ, ◌*◌, ◌+◌, ◌∙◌, ◌∷◌, ◌≡◌, ◌≤◌}
use Rattle.rstp_run.proofs.Settling.{length-direct}
use Rattle.rstp_run.proofs.Within.{run_length}
use Rattle.rstp_run.specs.Events.{firings_at}
use Rattle.rstp_run.specs.Firings.{ComesByEvents, ComesWithin, EventEndsSettled, EveryEventSettles, StaysSettled}

run_settings : (firings : List Firing) (s t : Tree) → Run firings s t → t.settings ≡ s.settings
run_settings [] s t same = ap (λ (v : Tree). v.settings) same
run_settings (f ∷ earlier) s t (mid, run, fires) =
    ap (λ (v : Tree). v.settings) fires.1 ∙ run_settings earlier s mid run

comes_at_all : (least : ℕ) (events : List Event) (s t : Tree) → ComesWithin least events s t → Comes events s t
comes_at_all least [] s t h = h
comes_at_all least (event ∷ earlier) s t (mid, limit, settled, mask, before, enough, happens) =
    (mid, limit, settled, mask, comes_at_all least earlier s mid before, happens)

length_start : (n : ℕ) (settings : Settings) (ports : List PortSettings)
    → length (ports_from n settings ports) ≡ length ports
length_start n settings [] = refl
length_start n settings (x ∷ xs) = omega (arith, length_start (n + 1) settings xs)

module _ {event : Event} {limit : ℕ} {s t : Tree} {settled : Bool} {mask : ℕ} (most : ℕ)
    (h : Happens event limit s t settled mask) where
  -- an event that has fewer firings than its limit ends settled
  told : length h.firings ≤ most → most + 1 ≤ limit → On settled
  told few enough = go settled h.unsettled
    where
      go : (b : Bool) → (Off b → length h.firings ≡ limit) → On b
      go true full = refl
      go false full = absurd (omega (arith, full refl))

  ends : length h.firings ≤ most → most + 1 ≤ limit → IsSettled t
  ends few enough =
      h.settles.0 (told few enough)

-- the state that is reached is settled, and has its settings and its number of ports
kept : (settings : Settings) (ports : List PortSettings) (events : List Event) (s : Tree) → 1 ≤ settings.hello
    → ComesWithin (most_firings (length ports) + 1) events (start settings ports) s
    → IsSettled s × (s.settings ≡ settings) × (length s.ports ≡ length ports)
kept settings ports [] s some comes =
    rw comes (settled-start settings ports some, refl, length_start 1 settings ports)
kept settings ports (event ∷ earlier) s some (mid, limit, settled, mask, before, enough, happens) =
    let was = kept settings ports earlier mid some before in
    let comes = comes_at_all (most_firings (length ports) + 1) earlier (start settings ports) mid before in
    let can : IsReached mid = (settings, ports, (earlier, comes)) in
    let hello : 1 ≤ mid.settings.hello =
    rw was.1 some in
    let few = events_are_short event limit mid s settled mask can was.0 hello happens in
    let same : length (direct event mid).ports ≡ length mid.ports =
    length-direct event (map without_slot mid.ports) ∙ length-map mid.ports without_slot in
    let end = ends (most_firings (length ports)) happens
    (rw was.2 at few) enough in
    let kept_settings = run_settings happens.firings (direct event mid) s happens.run ∙ was.1 in
    (end, kept_settings, run_length happens.firings (direct event mid) s happens.run ∙ same ∙ was.2)

pub stays_settled : StaysSettled
stays_settled settings ports events s some comes = (kept settings ports events s some comes).0

-- that limit is above the most firings
below : (n : ℕ) → most_firings n + 1 ≤ 64 * (n + 1)
below n = omega arith

pub event_ends_settled : EventEndsSettled
event_ends_settled event limit s t settled mask can rests some enough h =
    let few = events_are_short event limit s t settled mask can rests some h in
    told (most_firings (length s.ports)) h few (omega (arith, below (length s.ports)))

-- events with that limit have enough firings
within : (settings : Settings) (ports : List PortSettings) (events : List Event) (s : Tree) → 1 ≤ settings.hello
    → ComesByEvents events (start settings ports) s
    → ComesWithin (most_firings (length ports) + 1) events (start settings ports) s
within settings ports [] s some comes = comes
within settings ports (event ∷ earlier) s some (mid, settled, mask, before, happens) =
    let was = within settings ports earlier mid some before in (
      mid,
      firings_at mid,
      settled,
      mask,
      was,
      omega (arith, below (length ports), (kept settings ports earlier mid some was).2),
      happens,
    )

pub every_event_settles : EveryEventSettles
every_event_settles settings ports events s t event settled mask some comes h =
    let enough = within settings ports events s some comes in
    let was = kept settings ports events s some enough in
    let history = comes_at_all (most_firings (length ports) + 1) events (start settings ports) s enough in
    let can : IsReached s = (settings, ports, (events, history)) in
    let hello : 1 ≤ s.settings.hello = rw was.1 some in
    event_ends_settled event (firings_at s) s t settled mask can was.0 hello (omega arith) h
