-- The lists of a learning table name the remaining stations after removals.
use Rattle.std.proofs.Common.{◌≡◌, inl, inr, ℕ, zero, suc, ◌<◌, true, false, Option, Some, None, List, [], ◌∷◌, length}
use Rattle.std.proofs.Common.{refl, sym, ap, ◌∙◌, arith}
use Rattle.std.specs.Prelude.{is_some}
use Rattle.std.proofs.lemmas.Bool.{eq-eqb}
use Rattle.mac_arena.specs.declared.station.Station.{Station}
use Rattle.mac_arena.specs.declared.station.Entry.{Entry}
use Rattle.mac_arena.specs.Learning.{Learning, entry_at, stations_at, bucket_in, after_removal as gone}
use Rattle.mac_arena.specs.Learning.{after_removal_at}
use Rattle.mac_arena.specs.ListsName.{ListsName, stands}
use Rattle.mac_arena.proofs.Entries.{same_or_other}
use Rattle.mac_arena.proofs.Looking.{removal_entry}
use Rattle.mac_arena.proofs.Placing.{IsBased}
use Rattle.mac_arena.proofs.Held.{removal_names}
use Rattle.ev_claims.specs.LocalRoutes.{LocalRoutes, KeepsRoutes, vni_at, after_removal, after_removals}

-- the lists name the stations, and each station is behind a port that is there
pub record AreNamed (t : Learning) : Type 0 where
  pub lists : ListsName t
  pub based : IsBased t

pub based : (e : LocalRoutes) → KeepsRoutes e → IsBased e.learned
based e h s x at = go x.port (h.ports s x at)
  where
    go : (p : ℕ) → vni_at e.ports p ≡ Some s.vni → 0 < p
    go zero is = cc
    go (suc p) is = omega arith

pub named : (e : LocalRoutes) → KeepsRoutes e → ListsName e.learned → AreNamed e.learned
named e h lists = record { lists = lists; based = based e h }

-- a known station is in a bucket
some_bucket : {t : Learning} (s : Station) → ListsName t → is_some (entry_at t s) ≡ true → 0 < length t.chains
some_bucket {t} s lists known = go t.chains refl
  where
    on : stands (stations_at t.chains (bucket_in t s)) s ≡ true
    on = lists.chains (bucket_in t s) s ∙ rw (known, eq-eqb (bucket_in t s) (bucket_in t s) refl)

    go : (cs : List (List Station)) → t.chains ≡ cs → 0 < length t.chains
    go [] is = absurd (let off : false ≡ true = (rw is) ∙ on in
        cc)
    go (c ∷ cs) is = omega (arith, ap length is)

pub removal_named : {t : Learning} (s : Station) → AreNamed t → AreNamed (gone t s)
removal_named {t} s h = record {
  lists = go (entry_at t s) refl;
  based = λ q x at. elim (same_or_other q s) [
    | inl same ↦ absurd (cc (sym (removal_entry t s).here ∙ (rw same) ∙ at))
    | inr ne ↦ h.based q x (sym ((removal_entry t s).others q ne) ∙ at)
  ];
}
  where
    go : (o : Option Entry) → entry_at t s ≡ o → ListsName (gone t s)
    go None is = rw (ap (after_removal_at t s) is) h.lists
    go (Some x) is = removal_names t s h.lists (some_bucket s h.lists (rw is)) h.based

pub removals_named : (e : LocalRoutes) (ss : List Station) → AreNamed e.learned → AreNamed (after_removals e ss).learned
removals_named e [] h = h
removals_named e (s ∷ ss) h = removals_named (after_removal e s) ss (removal_named s h)
