-- After an update under its own name an edge still owns each MAC that it advertises: no own advert changes.
use Rattle.std.proofs.Common.{◌≡◌, ◌≢◌, ℕ, Bool, true, false, cond, Option, refl, sym, ap, ◌∙◌}
use Rattle.std.proofs.lemmas.Bool.{cases_eq}
use Rattle.std.proofs.Common.{inl, inr}
use Rattle.route_wire.specs.declared.update.Ip.{Ip}
use Rattle.route_wire.specs.declared.update.Key.{Key}
use Rattle.route_wire.specs.declared.update.Key.TheVariants.{Mac}
use Rattle.route_wire.specs.declared.update.Register.{Register}
use Rattle.route_wire.specs.declared.update.Content.TheVariants.{Withdrawn}
use Rattle.route_wire.specs.Fields.{Fields}
use Rattle.route_join.specs.Table.{register_of}
use Rattle.route_join.specs.Owner.{advert_of, advert_at}
use Rattle.route_join.proofs.Owners.{owner_along}
use Rattle.route_join.proofs.Joins.{others_stay}
use Rattle.route_join.proofs.Tables.{at_other}
use Rattle.mac_arena.specs.declared.station.Station.{Station}
use Rattle.ev_claims.specs.Speaker.{Speaker, KeepsNumbers, own_register, own_advert, next_value, after_originating}
use Rattle.ev_claims.specs.Speaker.{after_importing, is_ahead, is_returning}
use Rattle.ev_claims.specs.LocalRoutes.{LocalRoutes, key_of, after_own}
use Rattle.ev_claims.proofs.Hearing.{own_said}
use Rattle.ev_edge.proofs.Owning.{Holds}

heard_others : (e : Speaker) (u : Fields) (o : ℕ) (k : Key) → u.register.originator ≡ e.address → o ≢ e.address
    → advert_at (after_importing e u).table o k ≡ advert_at e.table o k
heard_others e u o k own other = ap advert_of (others_stay e.table u (register_of o k)
    (λ same. other (ap (λ (r : Register). r.originator) same ∙ own)))

said_others : (e : Speaker) (u : Fields) (o : ℕ) (k j : Key) → u.register.originator ≡ e.address → o ≢ e.address
    → advert_at (after_originating (after_importing e u) j Withdrawn).table o k ≡ advert_at e.table o k
said_others e u o k j own other =
    ap advert_of (at_other (after_importing e u).table (own_register (after_importing e u) j)
    (next_value (after_importing e u) Withdrawn) (register_of o k)
    (λ same. other (ap (λ (r : Register). r.originator) same))) ∙ heard_others e u o k own other

-- a speaker with the same address and the same adverts
same_holds : (c : LocalRoutes) (v : Speaker) (second : ℕ) → v.address ≡ c.speaker.address
    → ((k : Key) → own_advert v k ≡ own_advert c.speaker k)
    → ((o : ℕ) (k : Key) → o ≢ c.speaker.address → advert_at v.table o k ≡ advert_at c.speaker.table o k)
    → Holds c second → Holds (record c { speaker = v }) second
same_holds c v second address own others h = record {
  owns = λ s some. rw address (owner_along c.speaker.table v.table s.vni s.mac c.speaker.address
      (there s)
      (h.owns s (rw (own (key_of s)) at some)));
  latest = h.latest;
  individual = h.individual;
  served = h.served;
  buckets = h.buckets;
}
  where
    there : (s : Station) (o : ℕ) (j : Option Ip) → advert_at c.speaker.table o (Mac s.vni s.mac j)
        ≡ advert_at v.table o (Mac s.vni s.mac j)
    there s o j = elim (cases_eq o c.speaker.address) [
      | inl same ↦ rw same (sym (rw address at (own (Mac s.vni s.mac j))))
      | inr other ↦ sym (others o (Mac s.vni s.mac j) other)
    ]

pub own_holds : (c : LocalRoutes) (u : Fields) (second : ℕ) → KeepsNumbers c.speaker → u.register.originator
    ≡ c.speaker.address
    → is_ahead c.speaker u ≡ false → Holds c second → Holds (after_own c u) second
own_holds c u second numbers own ahead h = go (is_returning c.speaker u) (own_said c.speaker u numbers own ahead)
  where
    go : (b : Bool) → ((k : Key) → own_advert (cond b (after_originating (after_importing c.speaker u) u.register.key
        Withdrawn)
        (after_importing c.speaker u)) k ≡ own_advert c.speaker k)
        → Holds (record c {
          speaker = cond b (after_originating (after_importing c.speaker u) u.register.key Withdrawn)
              (after_importing c.speaker u);
        }) second
    go true same = same_holds c _ second refl same (λ o k other. said_others c.speaker u o k u.register.key own other) h
    go false same = same_holds c _ second refl same (λ o k other. heard_others c.speaker u o k own other) h
