-- Each record that is written is read as its update.
use Rattle.std.proofs.Common.{◌≡◌, ℕ, ◌<◌, ◌^◌, Bool, true, false, not, ◌&&◌, ◌||◌, ◌==◌, cond, List, [], ◌∷◌, ◌++◌}
use Rattle.std.proofs.Common.{Option, Some, None, Result, Ok, refl, ap, ◌∙◌, eq-eqb, arith, length}
use Rattle.std.proofs.Math.Seq.{take-append_seam, drop-append_seam}
use Rattle.std.proofs.lemmas.Bool.{and_right, not-true, ne_eqb}
use Rattle.std.proofs.lemmas.Bool.Decides.{nat_tests}
use Rattle.byteorder.specs.Endian.{big_number, big_bytes}
use Rattle.byteorder.specs.Numbers.{big_number-reads_back}
use Rattle.ether_wire.specs.Addr.{is_group}
use Rattle.ether_wire.specs.Frame.{first_of}
use Rattle.route_wire.specs.declared.update.Ip.{Ip}
use Rattle.route_wire.specs.declared.update.Ip.TheVariants.{V4, V6}
use Rattle.route_wire.specs.declared.update.Key.{Key}
use Rattle.route_wire.specs.declared.update.Key.TheVariants.{Flood, Mac}
use Rattle.route_wire.specs.declared.update.Content.{Content}
use Rattle.route_wire.specs.declared.update.Content.TheVariants.{Withdrawn, Advert as Advertised}
use Rattle.route_wire.specs.declared.update.Register.{Register}
use Rattle.route_wire.specs.declared.update.Value.{Value}
use Rattle.route_wire.specs.Fields.{Fields, FitsKey, IsUpdate, is_individual}
use Rattle.route_wire.specs.Order.{vni_of}
use Rattle.route_wire.specs.Stream.{IsWhole}
use Rattle.route_wire.specs.Record.{unless_refused, reading, Spells, Reads}
use Rattle.route_wire.specs.Encode.{mac_route, route_octets, kind_of, record_octets, spelling_of}
use Rattle.route_wire.specs.Inner.Encode.{IpFits, Label2Fits, RouteFits}
use Rattle.route_wire.proofs.Prefixes.{whole_followed}

-- ---- the octets of a number are read as it, and so those of an address, a key or a content
abbrev back : ℕ → ℕ → ℕ
back width n = big_number width (big_bytes width n ++ [])

abbrev ip_back : Option Ip → Option Ip
ip_back None = None
ip_back (Some (V4 n)) = Some (V4 (back 4 n))
ip_back (Some (V6 n)) = Some (V6 (back 16 n))

abbrev label2_back : Option ℕ → Option ℕ
label2_back None = None
label2_back (Some n) = Some (back 3 n)

abbrev key_back : Key → Key
key_back (Flood vni) = Flood (back 3 vni)
key_back (Mac vni mac ip) = Mac (back 3 vni) (back 6 mac) (ip_back ip)

-- an advert with a community, or without one
abbrev advert_back : Bool → Bool → ℕ → Option ℕ → Content
advert_back b s n label2 = Advertised (record {
  is_static = b && s;
  sequence = cond b (back 4 n) 0;
  label2 = label2_back label2;
})

abbrev content_back : Content → Content
content_back Withdrawn = Withdrawn
content_back (Advertised a) =
    advert_back (a.is_static || not (a.sequence == 0)) a.is_static a.sequence a.label2

ip_again : (ip : Option Ip) → IpFits ip → ip_back ip ≡ ip
ip_again None fits = refl
ip_again (Some (V4 n)) fits = ap (λ m. Some (V4 m)) (big_number-reads_back 4 n [] fits)
ip_again (Some (V6 n)) fits = ap (λ m. Some (V6 m)) (big_number-reads_back 16 n [] fits)

label2_again : (label2 : Option ℕ) → Label2Fits label2 → label2_back label2 ≡ label2
label2_again None fits = refl
label2_again (Some n) fits = ap Some (big_number-reads_back 3 n [] fits)

key_again : (key : Key) (content : Content) → vni_of key < 2 ^ 24 → RouteFits key content → key_back key ≡ key
key_again (Flood vni) content hv fits = ap Flood (big_number-reads_back 3 vni [] hv)
key_again (Mac vni mac ip) content hv fits =
    let v = big_number-reads_back 3 vni [] hv in
    let m = big_number-reads_back 6 mac [] fits.0 in
    let a = ip_again ip fits.1 in λ i. Mac (v i) (m i) (a i)

advert_again : (s : Bool) (n m : ℕ) → m ≡ n
    → ((s || not (n == 0)) && s ≡ s) × (cond (s || not (n == 0)) m 0 ≡ n)
advert_again s n m e = grind (arith, nat_tests)

content_again : (key : Key) (content : Content) → RouteFits key content → FitsKey key content
    → content_back content ≡ content
content_again key Withdrawn fits good = refl
content_again (Flood vni) (Advertised a) fits good = rw good refl
content_again (Mac vni mac ip) (Advertised a) fits good =
    let again = advert_again a.is_static a.sequence _ (big_number-reads_back 4 a.sequence [] fits.3) in
    let l = label2_again a.label2 fits.2 in
    λ i. Advertised (record { is_static = again.0 i; sequence = again.1 i; label2 = l i })

-- ---- the record of an update
abbrev fields : ℕ → ℕ → ℕ → Key → Content → Fields
fields o incarnation counter key content = record {
  register = record { originator = o; key = key };
  value = record { incarnation = incarnation; counter = counter; content = content };
}

-- the refusals that depend on its numbers, and the answer
abbrev tests : ℕ → ℕ → ℕ → Key → List (Bool × ℕ)
tests kind o counter (Flood vni) = (not (o == o) || not (o == o), 7) ∷ (counter == 0, 14) ∷ []
tests kind o counter (Mac vni mac ip) =
    (not (o == o) || false, 7) ∷ (not (kind == 2) && not (vni == vni), 10) ∷ (is_group mac, 11)
    ∷ (counter == 0, 14) ∷ []

abbrev answer : ℕ → ℕ → ℕ → ℕ → Key → Content → Result Fields ℕ
answer kind o incarnation counter key content =
    unless_refused (first_of (tests kind o counter key)) (fields o incarnation counter key content)

unrefused : (kind o counter : ℕ) (key : Key) → 0 < counter → is_individual key ≡ true
    → first_of (tests kind o counter key) ≡ None
unrefused kind o counter (Flood vni) counted e = simp (eq-eqb o o refl, ne_eqb counter 0 (λ z. omega arith))
unrefused kind o counter (Mac vni mac ip) counted e =
    simp (
      eq-eqb o o refl,
      eq-eqb vni vni refl,
      and_right (not (kind == 2)) false refl,
      not-true (is_group mac) e,
      ne_eqb counter 0 (λ z. omega arith),
    )

module _ (o incarnation counter : ℕ) where
  -- the octets with this route are one whole record, and the answer is that of its parts
  abbrev Computes : ℕ → Key → Content → List ℕ → Type 0
  Computes kind key content route =
      IsWhole (record_octets kind o incarnation counter (vni_of key) route)
      × (reading (record_octets kind o incarnation counter (vni_of key) route)
      ≡ answer kind (back 4 o) (back 4 incarnation) (back 8 counter) (key_back key) content)

  -- the patterns only separate the cases, by address, second label, community and static flag, so that each computes
  advert_computes : (vni mac : ℕ) (ip : Option Ip) (label2 : Option ℕ) (b s : Bool) (n : ℕ)
      → Computes 1 (Mac vni mac ip) (advert_back b s n label2)
      (mac_route o vni mac ip label2 ++ cond b (6 ∷ 0 ∷ cond s 1 0 ∷ 0 ∷ big_bytes 4 n) [])
  unfolding reading
  advert_computes vni mac (Some (V4 a)) None true true n = (refl, refl)
  advert_computes vni mac ip (Some l) true true n = (refl, refl)
  advert_computes vni mac ip None true true n = (refl, refl)
  advert_computes vni mac ip label2 b s n = (refl, refl)

  computes : (key : Key) (content : Content) → FitsKey key content
      → Computes (kind_of content) key (content_back content) (route_octets o key content)
  unfolding reading
  computes (Flood vni) Withdrawn fits = (refl, refl)
  computes (Flood vni) (Advertised a) fits = rw fits (refl, refl)
  computes (Mac vni mac (Some (V4 a))) Withdrawn fits = (refl, refl)
  computes (Mac vni mac ip) Withdrawn fits = (refl, refl)
  computes (Mac vni mac ip) (Advertised a) fits =
      advert_computes vni mac ip a.label2 (a.is_static || not (a.sequence == 0)) a.is_static a.sequence

-- the octets that are written for a well formed update spell it
pub written : (r : Register) (v : Value) → r.originator < 2 ^ 32 → v.incarnation < 2 ^ 32 → v.counter < 2 ^ 64
    → vni_of r.key < 2 ^ 24 → RouteFits r.key v.content → IsUpdate (record { register = r; value = v })
    → Spells (spelling_of (record { register = r; value = v })) (record { register = r; value = v })
unfolding spelling_of
written r v ho hi hc hv fits good =
    let o = big_number-reads_back 4 r.originator [] ho in
    let incarnation = big_number-reads_back 4 v.incarnation [] hi in
    let counter = big_number-reads_back 8 v.counter [] hc in
    let key = key_again r.key v.content hv fits in
    let content = content_again r.key v.content fits good.fits in
    let all = computes r.originator v.incarnation v.counter r.key v.content good.fits in
    let none = unrefused (kind_of v.content) r.originator v.counter r.key good.counted good.individual in (
      all.0,
      all.1 ∙ (λ i. answer (kind_of v.content) (o i) (incarnation i) (counter i) (key i) (content i))
          ∙ ap (λ t. unless_refused t (record { register = r; value = v })) none,
    )

-- what spells an update is read as it, whatever follows
pub read_again : (bytes : List ℕ) (u : Fields) → Spells bytes u → (rest : List ℕ)
    → Reads (bytes ++ rest) (Ok u ∷ []) rest
read_again bytes u s rest = (
  length bytes,
  whole_followed 3 bytes rest (length bytes) s.0,
  ap reading (take-append_seam bytes rest) ∙ s.1,
  drop-append_seam bytes rest,
)
