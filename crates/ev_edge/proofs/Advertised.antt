-- The learnt stations are the advertised ones, and the edge owns them.
use Rattle.std.proofs.Common.{◌≡◌, Bool, Option, Some, None, refl, sym, ap, ◌∙◌}
use Rattle.std.specs.Prelude.{IsSome, ◌↔◌}
use Rattle.std.specs.Option.{option_map}
use Rattle.route_wire.specs.declared.update.Advert.{Advert}
use Rattle.mac_arena.specs.declared.station.Station.{Station}
use Rattle.mac_arena.specs.declared.station.Entry.{Entry}
use Rattle.mac_arena.specs.Learning.{entry_at}
use Rattle.ev_claims.specs.Speaker.{own_advert}
use Rattle.ev_claims.specs.LocalRoutes.{key_of}
use Rattle.ev_edge.specs.Edge.{Edge, IsGoodEdge}
use Rattle.ev_edge.specs.Laws.{AdvertisesItsOwn}

abbrev pins : Option Entry → Option Bool
pins o = option_map (λ (x : Entry). x.pinned) o

abbrev fixes : Option Advert → Option Bool
fixes o = option_map (λ (a : Advert). a.is_static) o

both : (o : Option Entry) (a : Option Advert) → pins o ≡ fixes a → IsSome o ↔ IsSome a
both None None same = (λ p. p, λ p. p)
both None (Some a) same = absurd (let no : None ≡ Some a.is_static = same in cc)
both (Some x) None same = absurd (let no : Some x.pinned ≡ None = same in cc)
both (Some x) (Some a) same = (λ p. refl, λ p. refl)

pub advertises_own : (e : Edge) → IsGoodEdge e → AdvertisesItsOwn e
advertises_own e h = record {
  learnt = names;
  pinned = λ s x a at said. (let same : Some x.pinned ≡ Some a.is_static = ap pins (sym at) ∙ h.routes.routes.kinds s
      ∙ ap fixes said in cc);
  bare = h.routes.routes.bare;
  owned = λ s there. h.keeps.owns s ((names s).0 there);
}
  where
    names : (s : Station) → IsSome (entry_at e.routes.learned s) ↔ IsSome (own_advert e.routes.speaker (key_of s))
    names s = both (entry_at e.routes.learned s) (own_advert e.routes.speaker (key_of s)) (h.routes.routes.kinds s)
