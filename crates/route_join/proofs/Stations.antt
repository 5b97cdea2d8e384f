-- The registers of an address, and those of later subjects.
use Rattle.std.proofs.Common.{◌≡◌, ◌≢◌, ℕ, false, [], ◌∷◌, Option, refl}
use Rattle.std.specs.declared.cmp.Ordering.TheVariants.{Less}
use Rattle.std.proofs.lemmas.Bool.{false_from_ne_true}
use Rattle.route_wire.specs.declared.update.Key.{Key}
use Rattle.route_wire.specs.declared.update.Register.{Register}
use Rattle.route_wire.specs.declared.update.Advert.{Advert}
use Rattle.route_join.specs.Subject.{subject_cmp, subject_of}
use Rattle.route_join.specs.Owner.{is_about, best_among}
use Rattle.route_join.specs.Report.{goes_on}
use Rattle.route_join.proofs.Groupings.{Entries, AllAre}
use Rattle.route_join.proofs.Subjects.{address, about_address}
use Rattle.route_join.proofs.Holding.{differs}

pub not_about : (v m : ℕ) (k : Key) → subject_of k ≢ address v m → is_about v m k ≡ false
not_about v m k ne = false_from_ne_true (is_about v m k) (λ h. ne (about_address v m k h))

-- registers of later subjects are not about the address, so the best of its adverts stays
module _ (v m : ℕ) where
  later_about : (k : Key) → subject_cmp (address v m) (subject_of k) ≡ Less → is_about v m k ≡ false
  later_about k l = not_about v m k (differs (address v m) (subject_of k) Less l refl)

  pub goes_off : (es : Entries) → AllAre (address v m) Less es → goes_on v m es ≡ false
  goes_off [] l = refl
  goes_off (e ∷ es) l = later_about e.0.key l.0

  pub best_skip : (es : Entries) (best : Option (Register × Advert)) → AllAre (address v m) Less es
      → best_among v m es best ≡ best
  best_skip [] best l = refl
  best_skip (e ∷ es) best l = rw (later_about e.0.key l.0) (best_skip es best l.1)
