-- Edges that are opened again in incarnation 1, and own updates that come back to an edge.
use Rattle.std.proofs.Common.{◌≡◌, ◌==◌, ◌&&◌, ◌<◌, ◌^◌, ◌+◌, ℕ, Bool, true, false, cond, Some, List, [], ◌∷◌}
use Rattle.std.proofs.Common.{refl, sym, ap, subst, ◌∙◌, arith, lit<, lit≤}
use Rattle.std.specs.Prelude.{Ok, Contains, is_some, nat_le, nat_lt}
use Rattle.std.specs.FinMap.{empty}
use Rattle.std.specs.Option.{MatchOption}
use Rattle.std.proofs.lemmas.List.Sorted.{IsPermutation-refl}
use Rattle.route_wire.specs.declared.update.Key.TheVariants.{Flood}
use Rattle.route_wire.specs.declared.update.Register.{Register}
use Rattle.route_wire.specs.declared.update.Value.{Value}
use Rattle.route_wire.specs.declared.update.Content.TheVariants.{Advert as Advertised, Withdrawn}
use Rattle.route_wire.specs.Fields.{Fields, flood_advert}
use Rattle.route_join.specs.Table.{register_of, is_news}
use Rattle.route_join.specs.Taken.{taken_of}
use Rattle.route_join.specs.Owner.{advert_in}
use Rattle.mac_arena.specs.Learning.{Learning}
use Rattle.rstp_run.specs.Events.{start}
use Rattle.ev_sites.proofs.Ring.{two_ports}
use Rattle.ev_claims.specs.Opening as routes
use Rattle.ev_claims.specs.Pending.{marked}
use Rattle.ev_claims.specs.Speaker.{Speaker, silent, is_ahead, is_spent, is_newest, is_returning, after_originating}
use Rattle.ev_claims.specs.Speaker.{after_importing}
use Rattle.ev_claims.specs.LocalRoutes.{LocalRoutes, after_own}
use Rattle.ev_claims.proofs.Hearing.{silent_speaker}
use Rattle.ev_claims.proofs.Numbers.{said_numbers}
use Rattle.ev_claims.proofs.Opened.{opened_routes}
use Rattle.ev_edge.specs.declared.config.EdgeConfig.{EdgeConfig}
use Rattle.ev_edge.specs.declared.reply.Reply.{Reply}
use Rattle.ev_edge.specs.Config.{settings_of}
use Rattle.ev_edge.specs.Edge.{Edge, IsGoodEdge, table_of, address_of}
use Rattle.ev_edge.specs.Opening.{IsOpening, start_of}
use Rattle.ev_edge.specs.Steps.{nothing}
use Rattle.ev_edge.proofs.Opened as edge
use Rattle.ev_edge.proofs.Quotas.{opened_kept}
use Rattle.ev_fabric.specs.declared.refusal.FabricRefusal.TheVariants.{NoSuchEdge}
use Rattle.ev_fabric.specs.declared.step.Step.TheVariants.{Deliver, Restart}
use Rattle.ev_fabric.specs.Fabric.{Fabric, nth, incarnation_of}
use Rattle.ev_fabric.specs.Steps.{IsRefused, RestartsAt, in_incarnation, with_edge, with_opened}
use Rattle.ev_fabric.proofs.Example.{listeners, config_of, port_of, served, good, nobody_learnt, unlimited, no_storms}
use Rattle.ev_sites.proofs.Tables.{Said, looked_up, found, taken, unchanged}
use Rattle.ev_sites.proofs.Guest.{flood_register, speaker_in, routes_with}
use Rattle.ev_sites.proofs.Risen.{root_settings}
use Rattle.ev_sites.proofs.Telling.{update}
use Rattle.ev_sites.proofs.Trio.{Going, delivers, living}

-- ---- opened again

abbrev pub flood_anew : Value
flood_anew = record { incarnation = 1; counter = 1; content = Advertised flood_advert }

-- no port is up
abbrev pub anew : ℕ → List Said → ℕ → List Register → Learning → Edge
anew address said counter pending l = living 1 (start root_settings two_ports) address said counter pending l empty

abbrev pub opened_anew : ℕ → Edge
opened_anew address =
    anew address ((flood_register address, flood_anew) ∷ []) 1 (flood_register address ∷ []) nobody_learnt

abbrev pub config_anew : ℕ → EdgeConfig
config_anew address = in_incarnation (config_of root_settings address) 1

opens_routes : (address : ℕ) → routes.IsOpening (start_of (config_anew address)) (opened_anew address).routes
opens_routes address = record {
  vnis = IsPermutation-refl (5001 ∷ []);
  ascending = λ k d from within. absurd (omega (arith, within));
  speaker = refl;
  learned = refl;
  ports = refl;
}

is_opening : (address : ℕ) → IsOpening (config_anew address) (opened_anew address)
is_opening address = record {
  routes = opens_routes address;
  clock = refl;
  ageing = refl;
  tree = refl;
  windows = refl;
  away = refl;
  quotas = refl;
  storms = refl;
}

is_good : {address : ℕ} → Contains listeners address → IsGoodEdge (opened_anew address)
is_good {address} listed = record {
  routes = record {
    routes = opened_routes address 1 listeners (5001 ∷ []) (5001 ∷ 5001 ∷ []) 1 1 0 (lit≤ tt) (lit≤ tt) (lit≤ tt);
    numbers = said_numbers (silent address 1 listeners) (Flood 5001) (Advertised flood_advert)
        (silent_speaker address 1 listeners listed).numbers;
    lists = (good root_settings address listed).routes.lists;
  };
  keeps = (edge.opened (start_of (config_anew address)) (opened_anew address).routes root_settings
      (settings_of (port_of ∷ port_of ∷ [])) 300 (start root_settings (settings_of (port_of ∷ port_of ∷ [])))
      (record { windows = empty; places = [] }) unlimited no_storms (opens_routes address) refl refl served (lit< tt)
      (opened_kept (port_of ∷ port_of ∷ []))).keeps;
}

pub reopens : {f : Fabric} {e : ℕ} (a : Edge) (address : ℕ) → Contains listeners address → nth f.edges e ≡ Some a
    → incarnation_of a < 1 → nth f.configs e ≡ Some (config_of root_settings address)
    → Going f (Restart e 1) (with_opened f e (opened_anew address) (config_anew address))
reopens {f} {e} a address listed at less config = record {
  reply = nothing;
  goes = subst (λ o. MatchOption o (IsRefused NoSuchEdge f (Ok nothing) new)
      (λ c. RestartsAt f e c 1 (Ok nothing) new)) (sym at)
      (record {
        higher = less;
        config = config_of root_settings address;
        config_is = config;
        after = opened_anew address;
        opened = is_opening address;
        good = is_good listed;
        reply_is = refl;
        new_is = refl;
      });
}
  where
    new : Fabric
    new = with_opened f e (opened_anew address) (config_anew address)

-- ---- own updates

-- an own update that is accepted, and the routes then
pub record IsBack (c : LocalRoutes) (u : Fields) (d : LocalRoutes) : Type 0 where
  pub ahead : is_ahead c.speaker u ≡ false
  pub spent : is_spent c.speaker u ≡ false
  pub after : after_own c u ≡ d

pub returns : {f : Fabric} {e k : ℕ} (a : Edge) (u : Fields) {c : LocalRoutes} → nth f.edges e ≡ Some a
    → nth f.pool k ≡ Some u → (u.register.originator == address_of a) ≡ true → IsBack a.routes u c
    → Going f (Deliver e k) (with_edge f e (record a { routes = c }))
returns {f} {e} {k} a u {c} at there own back =
    delivers (record a { routes = c }) reply at there
    (rw own (back.ahead, back.spent, refl, rw back.after))
  where
    reply : Reply
    reply = record nothing { taken = Some (taken_of (table_of a) u) }

module _ (life address : ℕ) (said : List Said) (counter : ℕ) (pending : List Register) (l : Learning) (r : Register)
    (v : Value) where
  abbrev own : Speaker
  own = speaker_in life address said counter pending

  abbrev imported : Speaker
  imported = after_importing own (update r v)

  newest : (b : Bool) → is_news (looked_up said r) v ≡ b → is_newest own (update r v) ≡ b
  newest b is = (rw (found said r)) ∙ is

  abbrev past_advert : Bool
  past_advert = nat_lt v.incarnation life && is_some (advert_in v.content)

  after_back : (b : Bool) → is_returning own (update r v) ≡ b → after_own (routes_with own l) (update r v)
      ≡ routes_with (cond b (after_originating imported r.key Withdrawn) imported) l
  after_back b is = rw is

  -- one that is no news changes nothing
  pub no_news : is_news (looked_up said r) v ≡ false
      → IsBack (routes_with own l) (update r v) (routes_with own l)
  no_news old = record {
    ahead = rw (newest false old);
    spent = rw back;
    after = after_back false back
        ∙ rw (unchanged said r v old);
  }
    where
      back : is_returning own (update r v) ≡ false
      back = rw (newest false old)

  taken_in : is_news (looked_up said r) v ≡ true → imported ≡ speaker_in life address ((r, v) ∷ said) counter pending
  taken_in new = rw (taken said r v new)

  -- an advert of an earlier life is withdrawn
  pub withdrawn : is_news (looked_up said r) v ≡ true → nat_le life v.incarnation ≡ false
      → nat_le (2 ^ 63) counter ≡ false → past_advert ≡ true
      → IsBack (routes_with own l) (update r v) (routes_with
      (speaker_in life address
      ((register_of address r.key, record { incarnation = life; counter = counter + 1; content = Withdrawn })
      ∷ (r, v) ∷ said) (counter + 1) (marked pending (register_of address r.key))) l)
  withdrawn new past low advert = record {
    ahead = ap (λ b. b && nat_le life v.incarnation) (newest true new) ∙ past;
    spent = ap (λ b. b && nat_le (2 ^ 63) counter) back ∙ low;
    after = after_back true back ∙ ap (λ s. routes_with (after_originating s r.key Withdrawn) l) (taken_in new);
  }
    where
      back : is_returning own (update r v) ≡ true
      back = ap (λ b. b && past_advert) (newest true new) ∙ advert

  -- a withdrawal of an earlier life is kept
  pub kept : is_news (looked_up said r) v ≡ true → nat_le life v.incarnation ≡ false → past_advert ≡ false
      → IsBack (routes_with own l) (update r v)
      (routes_with (speaker_in life address ((r, v) ∷ said) counter pending) l)
  kept new past none = record {
    ahead = (rw (newest true new)) ∙ past;
    spent = rw back;
    after = after_back false back ∙ rw (taken_in new);
  }
    where
      back : is_returning own (update r v) ≡ false
      back = (rw (newest true new)) ∙ none
