-- The use of a file's configuration.
use Rattle.std.proofs.Common.{◌≡◌, ℕ, ◌+◌, inl, inr, Result, Ok, Err, refl, ap, subst, ◌∙◌}
use Rattle.ether_wire.specs.declared.ends.Device.{Device}
use Rattle.ether_wire.specs.Ends.{End, Source, IsOpen, Puts}
use Rattle.ev_config.specs.declared.config.ConfigRefusal.{ConfigRefusal}
use Rattle.ev_config.specs.declared.whole.Use.{Use}
use Rattle.evpnd.specs.declared.files.Unread.{Unread}
use Rattle.evpnd.specs.declared.files.Named.{Named}
use Rattle.evpnd.specs.Files.{Text, Shelf, IsTextOf, unread_text}
use Rattle.ev_report.specs.Ends.{Devices, devices}
use Rattle.ev_report.proofs.Finishing.{put_holds}
use Rattle.evpnd.specs.Checks.{Desk, desk, IsTextless, Gives, Uses, OfFile}
use Rattle.evpnd.specs.Configured.{OfFound}
use Rattle.evpnd.specs.Inner.Configured.{Never, TextGives, FileGives}
use Rattle.ev_report.specs.declared.status.Status.{Status}
use Rattle.ev_report.specs.declared.status.Status.TheVariants as statuses

-- there was no memory for the text
pub no_memory : (option : Named) (path : Text) (s s' : Shelf) (d : Devices) (status : Status)
    → s' ≡ record s { refusals = s.refusals + 1 } → status ≡ statuses.Memory
    → IsTextless option path (desk s d) (desk s' d) status
no_memory option path s s' d status more is = inl (record { refused = more; devices_kept = refl; status_is = is })

-- the file has no text
pub unreadable : (option : Named) (path : Text) (s s' : Shelf) (input : Source) (out a b : End)
    (r : Result (Unit {0}) Device) (why : Unread) (status : Status)
    → s' ≡ record s { failures = s.failures + 1 } → IsOpen a → Puts a b (unread_text option path why) r
    → status ≡ statuses.Device
    → IsTextless option path (desk s (devices input out a)) (desk s' (devices input out b)) status
unreadable option path s s' input out a b r why status more room put is =
    let noted = put_holds a b r (unread_text option path why) room put in
    inr (record { failed = more; why = why; input = refl; out = refl; noted = noted; status_is = is })

-- the file has this text
pub of_read : {X : Type 0} (gives : Gives X) (uses : Uses X) (path text : Text) (s s' : Shelf) (d d' : Devices)
    (status : Status)
    → (s' ≡ s) × IsTextOf s path text
    → (found : Result X ConfigRefusal) × gives text found × uses text found d d' status
    → OfFile gives uses path (desk s d) (desk s' d') status
of_read gives uses path text s s' d d' status from used =
    inr (record {
      shelf_kept = from.0;
      text = text;
      read = from.1;
      found = used.0;
      is_found = used.1;
      used = used.2;
    })

-- ---- a configuration that is used

abbrev pub UsesConfig : Type 0 → Type 1
UsesConfig X = X → Devices → Devices → Status → Type 0

found_never : {X : Type 0} (wanted : Use) (uses : UsesConfig X) (text : Text) (found : Result X ConfigRefusal)
    (d d' : Devices) (status : Status)
    → OfFound wanted Never text found d d' status → OfFound wanted uses text found d d' status
found_never wanted uses text (Ok config) d d' status h = absurd h
found_never wanted uses text (Err refused) d d' status h = h

-- if no configuration is used, its purpose doesn't matter
never_used : {X : Type 0} (wanted : Use) (uses : UsesConfig X) (gives : Gives X) (path : Text) (b a : Desk)
    (status : Status)
    → OfFile gives (OfFound wanted Never) path b a status → OfFile gives (OfFound wanted uses) path b a status
never_used wanted uses gives path b a status (inl h) = inl h
never_used wanted uses gives path b a status (inr r) =
    inr (record {
      shelf_kept = r.shelf_kept;
      text = r.text;
      read = r.read;
      found = r.found;
      is_found = r.is_found;
      used = found_never wanted uses r.text r.found b.devices a.devices status r.used;
    })

-- the result of a file, given devices of which only the notes were called
module _ {X : Type 0} (wanted : Use) (uses : UsesConfig X) (gives : Gives X) (path : Text) (s s' : Shelf)
    (before : Devices) (input : Source) (out notes notes' : End) (is : devices input out notes ≡ before)
    (status : Status) where
  -- no configuration is used
  pub of_never : FileGives wanted gives path s s' notes notes' (Err status)
      → OfFile gives (OfFound wanted uses) path (desk s before) (desk s' (devices input out notes')) status
  of_never given =
      subst (λ (d : Devices). OfFile gives (OfFound wanted uses) path (desk s d) (desk s' (devices input out notes'))
      status) is
      (never_used wanted uses gives path (desk s (devices input out notes)) (desk s' (devices input out notes')) status
      (given input out))

  -- the configuration is used
  pub of_used : (config : X) (after : Devices) → FileGives wanted gives path s s' notes notes' (Ok config)
      → uses config (devices input out notes') after status
      → OfFile gives (OfFound wanted uses) path (desk s before) (desk s' after) status
  of_used config after given used =
      let same : devices input out notes' ≡ before = ap (devices input out) given.1 ∙ is in
      of_read gives (OfFound wanted uses) path given.2.0 s s' before after status (given.0, given.2.1)
      (Ok config, given.2.2, subst (λ (d : Devices). uses config d after status) same used)

-- the file has a text, which gives a configuration or none
pub file_gives : {X : Type 0} (wanted : Use) (gives : Gives X) (path text : Text) (s s' : Shelf)
    (notes mid notes' : End) (result : Result X Status) → (s' ≡ s) × (mid ≡ notes) × IsTextOf s path text
    → TextGives wanted gives text mid notes' result → FileGives wanted gives path s s' notes notes' result
file_gives wanted gives path text s s' notes mid notes' (Ok config) from given =
    (from.0, given.0 ∙ from.1, (text, from.2, given.1))
file_gives {X = X} wanted gives path text s s' notes mid notes' (Err status) from given = λ input out.
    of_read gives (OfFound {X = X} wanted Never) path text s s' (devices input out notes)
    (devices input out notes') status (from.0, from.2) (
      given.0,
      given.1,
      subst (λ (e : End). OfFound {X = X} wanted Never text given.0 (devices input out e) (devices input out notes')
          status) from.1 (given.2 input out),
    )
