-- An edge that advertises a station with the next number above all others', or as static where no other does, owns it.
use Rattle.std.proofs.Common.{◌≡◌, ◌≢◌, inl, inr, ℕ, ◌<◌, Bool, true, false, Option, Some, None}
use Rattle.std.proofs.Common.{refl, sym, ap, ◌∙◌, arith}
use Rattle.std.specs.declared.cmp.Ordering.{Ordering}
use Rattle.std.proofs.lemmas.Bool.Decides.{nat_tests}
use Rattle.std.proofs.lemmas.Bool.{cases_eq}
use Rattle.std.proofs.lemmas.Option.{none-some}
use Rattle.ether_wire.specs.Addr.{is_group}
use Rattle.route_wire.specs.declared.update.Ip.{Ip}
use Rattle.route_wire.specs.declared.update.Key.TheVariants.{Mac}
use Rattle.route_wire.specs.declared.update.Advert.{Advert}
use Rattle.route_wire.specs.declared.update.Content.TheVariants.{Advert as Advertised}
use Rattle.route_wire.specs.declared.update.Register.{Register}
use Rattle.route_wire.specs.Order.{register_cmp}
use Rattle.route_join.specs.Table.{Table, register_of}
use Rattle.route_join.specs.Owner.{advert_of, advert_at, IsBetterBy}
use Rattle.route_join.specs.Updates.{updates_of}
use Rattle.route_join.proofs.Abouts.{updates_of_are}
use Rattle.route_join.proofs.Tables.{at_same, at_other}
use Rattle.mac_arena.specs.declared.station.Station.{Station}
use Rattle.mac_arena.specs.declared.station.Entry.{Entry}
use Rattle.mac_arena.specs.declared.table.Learnt.TheVariants.{New}
use Rattle.mac_arena.proofs.Entries.{same_or_other}
use Rattle.mac_arena.proofs.Looking.{learn_entry, pin_entry}
use Rattle.mac_arena.proofs.Values.{latest_learn, latest_pin, chains_learn, chains_pin}
use Rattle.ev_mobility.specs.declared.seq.Seq.{Seq}
use Rattle.ev_mobility.specs.declared.seq.Seq.TheVariants.{Next, Static, Spent}
use Rattle.ev_mobility.specs.Seq.{EveryElsewhere, IsSeqFor, seq_for}
use Rattle.ev_mobility.proofs.Hearing.{seq_is}
use Rattle.ev_claims.specs.Speaker.{Speaker, own_register, next_value, after_originating}
use Rattle.ev_claims.specs.LocalRoutes.{LocalRoutes, KeepsRoutes, key_of, vni_at, after_advert, after_pin}
use Rattle.ev_edge.specs.declared.pinning.PinCase.TheVariants.{Pin}
use Rattle.ev_edge.specs.Edge.{Edge, OwnsAt, table_of, address_of}
use Rattle.ev_edge.specs.Pinning.{is_static, unpinned_case, pin_case_at, pin_refusal, refused_pin}
use Rattle.ev_edge.proofs.Owning.{Holds, changed_individual, some_bucket, other_key, saying_owns}
use Rattle.ev_claims.proofs.Numbers.{key_stays as said_other}

pub seq_exact : (t : Table) (own vni mac : ℕ) → IsSeqFor t own vni mac (seq_for t own vni mac)
seq_exact t own vni mac = seq_is t own vni mac (updates_of t vni mac) (updates_of_are t vni mac)

-- what beats every other edge's advert
abbrev Beats : LocalRoutes → Station → Advert → Type 0
Beats c s a = (b : Advert) (o : Ordering) (p : ℕ) (j : Option Ip) → p ≢ c.speaker.address
    → advert_at c.speaker.table p (Mac s.vni s.mac j) ≡ Some b
    → IsBetterBy a.is_static b.is_static a.sequence b.sequence o

said_owns : (c : LocalRoutes) (s : Station) (a : Advert) → KeepsRoutes c → Beats c s a
    → OwnsAt (record c { speaker = after_originating c.speaker (key_of s) (Advertised a) }) s
said_owns c s a good beats some = record {
  ip = None;
  advert = a;
  own = ap advert_of (at_same c.speaker.table (own_register c.speaker (key_of s))
      (next_value c.speaker (Advertised a)));
  best = λ p j b ne is. elim (cases_eq p c.speaker.address) [
    | inl same ↦ absurd (same_ip p j b same ne is)
    | inr other ↦ beats b (register_cmp (register_of c.speaker.address (Mac s.vni s.mac None))
        (register_of p (Mac s.vni s.mac j))) p j other (sym (key_other p j other) ∙ is)
  ];
}
  where
    now : Speaker
    now = after_originating c.speaker (key_of s) (Advertised a)

    same_ip : (p : ℕ) (j : Option Ip) (b : Advert) → p ≡ c.speaker.address
        → register_of p (Mac s.vni s.mac j) ≢ register_of c.speaker.address (Mac s.vni s.mac None)
        → advert_at now.table p (Mac s.vni s.mac j) ≡ Some b → ⊥
    same_ip p None b same ne is = ne (λ i. register_of (same i) (Mac s.vni s.mac None))
    same_ip p (Some ip) b same ne is =
        let differ : Mac s.vni s.mac (Some ip) ≢ key_of s = λ e. (let no : Some ip ≡ None = cc in cc) in
        let none : advert_at now.table p (Mac s.vni s.mac (Some ip)) ≡ None =
        said_other c.speaker (key_of s) (Advertised a) (Mac s.vni s.mac (Some ip)) p differ
        ∙ rw same (good.bare s ip) in
        none-some b (sym none ∙ is)

    key_other : (p : ℕ) (j : Option Ip) → p ≢ c.speaker.address
        → advert_at now.table p (Mac s.vni s.mac j) ≡ advert_at c.speaker.table p (Mac s.vni s.mac j)
    key_other p j ne = ap advert_of (at_other c.speaker.table (own_register c.speaker (key_of s))
        (next_value c.speaker (Advertised a)) (register_of p (Mac s.vni s.mac j))
        (λ h. ne (ap (λ (q : Register). q.originator) h)))

said_holds : (c : LocalRoutes) (s : Station) (a : Advert) → KeepsRoutes c → Beats c s a → ((r : Station) → OwnsAt c r)
    → (r : Station) → OwnsAt (record c { speaker = after_originating c.speaker (key_of s) (Advertised a) }) r
said_holds c s a good beats owns r = elim (same_or_other r s) [
  | inl same ↦ rw same (said_owns c s a good beats)
  | inr ne ↦ saying_owns c (key_of s) (Advertised a) r (λ j. other_key r s j None ne) (owns r)
]

-- ---- learning

next_beats : (c : LocalRoutes) (s : Station) (n : ℕ) → seq_for c.speaker.table c.speaker.address s.vni s.mac ≡ Next n
    → Beats c s (record { is_static = false; sequence = n; label2 = None })
next_beats c s n next b o p j other is = pick b.is_static loose
  where
    exact : IsSeqFor c.speaker.table c.speaker.address s.vni s.mac (Next n)
    exact = rw next at (seq_exact c.speaker.table c.speaker.address s.vni s.mac)

    loose : b.is_static ≡ false
    loose = exact.0 p j b other is

    less : b.sequence < n
    less = exact.1 p j b other is

    pick : (x : Bool) → x ≡ false → IsBetterBy false x n b.sequence o
    pick true e = cc
    pick false e = (omega (arith, less), λ same. absurd (omega (arith, less, same)))

pub advert_holds : (c : LocalRoutes) (s : Station) (port second n : ℕ) → KeepsRoutes c
    → seq_for c.speaker.table c.speaker.address s.vni s.mac ≡ Next n → is_group s.mac ≡ false → Holds c second
    → Holds (after_advert c s port second n) second
advert_holds c s port second n good next single h = record {
  owns = said_holds c s (record { is_static = false; sequence = n; label2 = None }) good (next_beats c s n next) h.owns;
  latest = latest_learn c.learned s port second New h.latest;
  individual = changed_individual c.learned (after_advert c s port second n).learned s _
      (learn_entry c.learned s port second New) (λ some. single) h.individual;
  served = h.served;
  buckets = some_bucket c.learned (after_advert c s port second n).learned (chains_learn c.learned s port second New)
      h.buckets;
}

-- ---- pinning

static_beats : (c : LocalRoutes) (s : Station) → is_static (seq_for c.speaker.table c.speaker.address s.vni s.mac)
    ≡ false
    → Beats c s (record { is_static = true; sequence = 0; label2 = None })
static_beats c s free b o p j other is = pick b.is_static
    (loose (seq_for c.speaker.table c.speaker.address s.vni s.mac) free
    (seq_exact c.speaker.table c.speaker.address s.vni s.mac) p j b other is)
  where
    loose : (q : Seq) → is_static q ≡ false → IsSeqFor c.speaker.table c.speaker.address s.vni s.mac q
        → EveryElsewhere c.speaker.table c.speaker.address s.vni s.mac (λ a. a.is_static ≡ false)
    loose Static e x = cc
    loose Spent e x = x.0
    loose (Next n) e x = x.0

    pick : (x : Bool) → x ≡ false → IsBetterBy true x 0 b.sequence o
    pick true e = cc
    pick false e = tt

pub pin_holds : (c : LocalRoutes) (s : Station) (port second : ℕ) → KeepsRoutes c
    → is_static (seq_for c.speaker.table c.speaker.address s.vni s.mac) ≡ false → is_group s.mac ≡ false
    → Holds c second
    → Holds (after_pin c s port) second
pin_holds c s port second good free single h = record {
  owns = said_holds c s (record { is_static = true; sequence = 0; label2 = None }) good (static_beats c s free) h.owns;
  latest = latest_pin c.learned s port second h.latest;
  individual = changed_individual c.learned (after_pin c s port).learned s _ (pin_entry c.learned s port)
      (λ some. single) h.individual;
  served = h.served;
  buckets = some_bucket c.learned (after_pin c s port).learned (chains_pin c.learned s port) h.buckets;
}

-- what isn't refused is an individual address, and the port is of its network
pub pin_fits : (e : Edge) (s : Station) (port : ℕ) → refused_pin e s port ≡ None
    → (vni_at e.routes.ports port ≡ Some s.vni) × (is_group s.mac ≡ false)
pin_fits e s port is = go (vni_at e.routes.ports port) refl is
  where
    go : (o : Option ℕ) → vni_at e.routes.ports port ≡ o → pin_refusal o s ≡ None
        → (vni_at e.routes.ports port ≡ Some s.vni) × (is_group s.mac ≡ false)
    go None at q = cc
    go (Some vni) at q = (at ∙ grind (arith, nat_tests, q), grind (arith, q))

-- a pinned station is not static elsewhere
not_static : (e : Edge) (s : Station) (known : Bool) → unpinned_case e s known ≡ Pin
    → is_static (seq_for (table_of e) (address_of e) s.vni s.mac) ≡ false
not_static e s known is = grind (arith, is)

pub pinned_alone : (e : Edge) (s : Station) (port : ℕ) (o : Option Entry) → pin_case_at e s port o ≡ Pin
    → is_static (seq_for (table_of e) (address_of e) s.vni s.mac) ≡ false
pinned_alone e s port None is = not_static e s false is
pinned_alone e s port (Some x) is = not_static e s true (grind (arith, is))
