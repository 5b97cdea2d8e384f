-- An edge that is opened is good: it advertises no station, has heard none, and no port passes.
use Rattle.std.proofs.Common.{◌≡◌, ℕ, zero, suc, ◌+◌, ◌-◌, false, Option, Some, None, List, [], ◌∷◌, length, refl}
use Rattle.std.proofs.Common.{sym, ap, ◌∙◌, arith}
use Rattle.std.specs.Prelude.{IsSome, Contains, replicate, ◌<◌, ◌&&◌}
use Rattle.std.proofs.lemmas.List.{length-replicate}
use Rattle.std.proofs.lemmas.List.Sorted.{Contains-permutation}
use Rattle.std.specs.FinMap.{get-empty}
use Rattle.std.proofs.lemmas.Bool.{false≢true}
use Rattle.route_wire.specs.declared.update.Key.TheVariants.{Flood, Mac}
use Rattle.route_wire.specs.declared.update.Value.{Value}
use Rattle.route_wire.specs.declared.update.Content.TheVariants.{Advert as Advertised}
use Rattle.route_wire.specs.Order.{register_cmp}
use Rattle.route_wire.specs.Fields.{flood_advert}
use Rattle.route_join.specs.Table.{register_of}
use Rattle.route_join.specs.Owner.{advert_of}
use Rattle.ether_wire.proofs.PortLemmas.{has_port-none}
use Rattle.mac_arena.specs.declared.station.Station.{Station}
use Rattle.mac_arena.specs.declared.station.Entry.{Entry}
use Rattle.mac_arena.specs.Station.{station_cmp}
use Rattle.mac_arena.specs.Learning.{entry_at, nothing_learnt}
use Rattle.mac_arena.proofs.Values.{latest_nothing}
use Rattle.rstp_state.specs.declared.start.PortSettings.{PortSettings}
use Rattle.rstp_state.specs.declared.start.Settings.{Settings}
use Rattle.rstp_state.specs.Start.{ports_from}
use Rattle.rstp_state.specs.Port.{test_at}
use Rattle.rstp_run.specs.Events.{start}
use Rattle.rstp_run.specs.Rules.{Tree}
use Rattle.ev_claims.specs.declared.opening.Start.{Start}
use Rattle.ev_claims.specs.Speaker.{Speaker, own_advert, after_originating, silent}
use Rattle.ev_claims.specs.LocalRoutes.{LocalRoutes, key_of}
use Rattle.ev_claims.specs.Opening.{IsOpening, after_floods}
use Rattle.ev_mobility.specs.Moves.{Moves}
use Rattle.ev_edge.specs.declared.limits.Quota.{Quota}
use Rattle.ev_edge.specs.declared.storms.Storm.{Storm}
use Rattle.ev_edge.specs.Limits.{AreKept}
use Rattle.ev_edge.specs.Edge.{ArePassing, AreIndividual, IsEdge, edge_of}
use Rattle.ev_edge.proofs.Marking.{none_listed}
use Rattle.ev_claims.proofs.Numbers.{key_stays as said_other}
use Rattle.ev_edge.proofs.Owning.{never_some}

-- ---- nothing is advertised but flood lists
floods_address : (e : Speaker) (vs : List ℕ) → (after_floods e vs).address ≡ e.address
floods_address e [] = refl
floods_address e (v ∷ vs) = floods_address (after_originating e (Flood v) (Advertised flood_advert)) vs

floods_silent : (e : Speaker) (vs : List ℕ) (s : Station)
    → own_advert (after_floods e vs) (key_of s) ≡ own_advert e (key_of s)
floods_silent e [] s = refl
floods_silent e (v ∷ vs) s =
    floods_silent (after_originating e (Flood v) (Advertised flood_advert)) vs s
    ∙ said_other e (Flood v) (Advertised flood_advert) (key_of s) e.address
    (λ same. let both : Mac s.vni s.mac None ≡ Flood v = same in cc)

nothing_said : (address incarnation : ℕ) (originators vs : List ℕ) (s : Station)
    → own_advert (after_floods (silent address incarnation originators) vs) (key_of s) ≡ None
nothing_said address incarnation originators vs s =
    floods_silent (silent address incarnation originators) vs s
    ∙ ap advert_of (get-empty {X = Value} register_cmp (register_of address (key_of s)))

-- ---- no port is up
down : (settings : Settings) (ports : List PortSettings) (n k : ℕ)
    → test_at k (λ port. port.enabled && port.forwarding) (ports_from n settings ports) ≡ false
down settings [] n k = refl
down settings (p ∷ ports) n zero = refl
down settings (p ∷ ports) n (suc k) = down settings ports (n + 1) k

ports_length : (settings : Settings) (ports : List PortSettings) (n : ℕ)
    → length (ports_from n settings ports) ≡ length ports
ports_length settings [] n = refl
ports_length settings (p ∷ ports) n = ap suc (ports_length settings ports (n + 1))

none_passing : (settings : Settings) (ports : List PortSettings) → ArePassing (start settings ports) 0
none_passing settings ports p = (
  λ h. absurd (false≢true (sym (has_port-none p) ∙ h)),
  λ h. absurd (false≢true (sym (down settings ports 1 (p - 1)) ∙ h.1.1)),
)

abbrev none_there : List Station
none_there = []

-- no station is learnt
nobody_individual : (s : Start) (c : LocalRoutes) → IsOpening s c → AreIndividual c.learned
nobody_individual s c h = rw h.learned (λ r some. absurd (never_learnt (entry_at (nothing_learnt s.capacity (length
    s.ports.items) s.buckets s.salt) r)
    (get-empty {X = Entry} station_cmp r) some))
  where
    never_learnt : (o : Option Entry) → o ≡ None → IsSome o → ⊥
    never_learnt None is some = cc
    never_learnt (Some a) is some = cc

pub opened : (s : Start) (c : LocalRoutes) (settings : Settings) (ports : List PortSettings) (ageing : ℕ) (tree : Tree)
    (moves : Moves) (quotas : List Quota) (storms : List Storm) → IsOpening s c → tree ≡ start settings ports
    → length s.ports.items ≡ length ports
    → ((v : ℕ) → Contains s.ports.items v → Contains s.vnis.items v) → 0 < s.buckets
    → AreKept quotas 0 → IsEdge (edge_of c 0 ageing tree moves [] quotas storms) 0
opened s c settings ports ageing tree moves quotas storms h is size serves some kept =
    rw is (record {
      keeps = record {
        owns = λ r some. absurd (never_some (own_advert c.speaker (key_of r))
            (ap (λ v. own_advert v (key_of r)) h.speaker
            ∙ nothing_said s.address s.incarnation s.originators.items c.vnis r) some);
        latest = rw h.learned (latest_nothing s.capacity (length s.ports.items) s.buckets
            s.salt 0);
        individual = nobody_individual s c h;
        served = λ v in'. Contains-permutation s.vnis.items c.vnis v h.vnis
            (serves v (rw h.ports at in'));
        buckets = rw h.learned (let many : length (replicate s.buckets none_there) ≡ s.buckets = length-replicate
            s.buckets none_there in
            omega (arith, many, some));
        ports = ports_length settings ports 1 ∙ sym size ∙ sym (ap length h.ports);
        early = omega arith;
        away = none_listed c.speaker.table.originators;
        quotas = kept;
      };
      exact = none_passing settings ports;
    })
