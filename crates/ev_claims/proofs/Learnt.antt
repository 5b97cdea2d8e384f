-- the learning table after each change: its entries, their number, and the number of places and ports
use Rattle.std.proofs.Common.{◌≡◌, ◌≢◌, ℕ, zero, suc, ◌+◌, ◌-◌, ◌≤◌, ◌<◌, Bool, true, false, cond, eqb, Option, Some}
use Rattle.std.proofs.Common.{None, length, map, refl, sym, ap, ◌∙◌, arith}
use Rattle.std.specs.Option.{is_some}
use Rattle.std.specs.FinMap.{get-empty, empty_of_len, insert, len, len-insert, len-remove}
use Rattle.std.proofs.lemmas.List.{length-set, length-map}
use Rattle.std.proofs.lemmas.Bool.Decides.{nat_tests}
use Rattle.mac_arena.specs.declared.station.Station.{Station}
use Rattle.mac_arena.specs.declared.station.Entry.{Entry}
use Rattle.mac_arena.specs.declared.table.Learnt.TheVariants.{New, Moved, Refreshed}
use Rattle.mac_arena.specs.Station.{station_cmp}
use Rattle.mac_arena.specs.Entry.{pinned_at, heard_at}
use Rattle.mac_arena.specs.Learning.{Learning, entry_at, is_full, left, joined_by, entered, after_learn}
use Rattle.mac_arena.specs.Learning.{learnt_of, after_pin, after_pin_at, after_removal, after_removal_at}
use Rattle.mac_arena.proofs.Entries.{station_total, gone_here, gone_there}
use Rattle.ev_claims.specs.LocalRoutes.{key_of}

-- ---- stations by their keys
pub same_station : {r s : Station} → key_of r ≡ key_of s → r ≡ s
same_station {r} {s} e =
    let both = e in
    let vnis : r.vni ≡ s.vni = cc in
    let macs : r.mac ≡ s.mac = cc in
    λ i. record { vni = vnis i; mac = macs i }

-- ---- one entry is set
pub record Sets (t t' : Learning) (s : Station) (x : Entry) : Type 0 where
  pub entries : t'.entries ≡ insert t.entries s x
  pub places : length t'.places ≡ length t.places
  pub ports : length t'.ports ≡ length t.ports

pub sets_new : (t : Learning) (s : Station) (port second : ℕ)
    → Sets t (after_learn t s port second New) s (heard_at port second)
sets_new t s port second = record {
  entries = refl;
  places = length-set t.places _ _;
  ports = length-set t.ports (port - 1) _;
}

-- a station that is known and not pinned is heard
pub sets_refresh : {t : Learning} {s : Station} (port second : ℕ) {x : Entry} → entry_at t s ≡ Some x → x.pinned ≡ false
    → Sets t (after_learn t s port second (learnt_of t s port)) s (heard_at port second)
sets_refresh {t} {s} port second {x} known loose = rw known (rw loose (go (eqb x.port port)))
  where
    go : (b : Bool) → Sets t (after_learn t s port second (cond b Refreshed Moved)) s (heard_at port second)
    go true = record { entries = refl; places = refl; ports = refl }
    go false = record {
      entries = refl;
      places = refl;
      ports = length-set (map (left s) t.ports) (port - 1) _
          ∙ length-map t.ports (left s);
    }

pub sets_pin : (t : Learning) (s : Station) (port : ℕ) → (entry_at t s ≡ None → is_full t ≡ false)
    → Sets t (after_pin t s port) s (pinned_at port)
sets_pin t s port room = go (entry_at t s) refl
  where
    new : (b : Bool) → is_full t ≡ b → b ≡ false → Sets t (cond b t (entered t s port)) s (pinned_at port)
    new true e h = cc
    new false e h = record { entries = refl; places = length-set t.places _ _; ports = length-set t.ports (port - 1) _ }

    known : (here : Bool) → length (cond here t.ports (joined_by (port - 1) s (map (left s) t.ports))) ≡ length t.ports
    known true = refl
    known false = length-set (map (left s) t.ports) (port - 1) _ ∙ length-map t.ports (left s)

    go : (o : Option Entry) → entry_at t s ≡ o → Sets t (after_pin_at t s port o) s (pinned_at port)
    go None e = new (is_full t) refl (room e)
    go (Some x) e = record { entries = refl; places = refl; ports = known (eqb x.port port) }

-- ---- how many
pub size_new : (t t' : Learning) (s : Station) (x : Entry) → t'.entries ≡ insert t.entries s x → entry_at t s ≡ None
    → len t'.entries ≡ len t.entries + 1
size_new t t' s x is none = (rw is) ∙ len-insert station_total t.entries s x
    ∙ rw none

pub size_known : (t t' : Learning) (s : Station) (x : Entry) {y : Entry} → t'.entries ≡ insert t.entries s x
    → entry_at t s ≡ Some y → len t'.entries ≡ len t.entries
size_known t t' s x is known = (rw is) ∙ len-insert station_total t.entries s x
    ∙ rw known

pub some : (t : Learning) (s : Station) {y : Entry} → entry_at t s ≡ Some y → 0 < len t.entries
some t s known = go (len t.entries) refl
  where
    go : (n : ℕ) → len t.entries ≡ n → 0 < n
    go zero e = absurd (cc (sym ((rw (empty_of_len t.entries e)) ∙ get-empty {X = Entry} station_cmp s)
        ∙ known))
    go (suc n) e = omega arith

pub size_gone : (t : Learning) (s : Station) (y : Entry) → entry_at t s ≡ Some y
    → len (after_removal t s).entries + 1 ≡ len t.entries
size_gone t s y known =
    ap (λ o. len (after_removal_at t s o).entries + 1) known ∙ omega (
      arith,
      (len-remove station_total t.entries s
          ∙ ap (λ (o : Option Entry). cond (is_some o) (len t.entries - 1) (len t.entries)) known),
      some t s known,
    )

pub room_left : (t : Learning) → len t.entries ≤ length t.places → is_full t ≡ false
    → len t.entries + 1 ≤ length t.places
room_left t fits room = grind (arith, nat_tests)

-- ---- one entry goes
pub removal_here : (l : Learning) (s : Station) → entry_at (after_removal l s) s ≡ None
removal_here l s = go (entry_at l s) refl
  where
    go : (o : Option Entry) → entry_at l s ≡ o → entry_at (after_removal_at l s o) s ≡ None
    go None is = is
    go (Some x) is = gone_here l.entries s

pub removal_there : (l : Learning) (s r : Station) → r ≢ s → entry_at (after_removal l s) r ≡ entry_at l r
removal_there l s r ne = go (entry_at l s)
  where
    go : (o : Option Entry) → entry_at (after_removal_at l s o) r ≡ entry_at l r
    go None = refl
    go (Some x) = gone_there l.entries s r ne

pub removal_places : (t : Learning) (s : Station) → length (after_removal t s).places ≡ length t.places
removal_places t s = go (entry_at t s)
  where
    go : (o : Option Entry) → length (after_removal_at t s o).places ≡ length t.places
    go None = refl
    go (Some x) = length-set t.places _ _
