-- The messages about the arguments.
use Rattle.std.proofs.Common.{◌≡◌, ◌≢◌, inl, inr, ℕ, ◌+◌, cond, List, [], ◌∷◌, ◌++◌, Result, Ok, Err}
use Rattle.std.proofs.Common.{is_ok, refl, ap, subst, ◌∙◌}
use Rattle.ether_wire.specs.declared.ends.Device.{Device}
use Rattle.ether_wire.specs.Ends.{End, IsOpen, Puts, with_text}
use Rattle.ether_wire.proofs.Appending.{with_text_twice}
use Rattle.clap.specs.Words.{IsAmong, fault_of}
use Rattle.clap.specs.Kinds.{Kinds}
use Rattle.clap.specs.declared.error.kind.ErrorKind.{ErrorKind}
use Rattle.evpnd.specs.Args.{program}
use Rattle.ev_config.specs.declared.whole.Use.{Use}
use Rattle.ev_config.specs.Told.{AreFaultLines}
use Rattle.ev_report.specs.Originators.{Text}
use Rattle.ev_report.specs.Ends.{Devices}
use Rattle.evpnd.specs.Files.{Shelf}
use Rattle.evpnd.specs.declared.host.Descriptors.{Descriptors}
use Rattle.ev_report.proofs.Finishing.{put_holds}
use Rattle.ev_report.proofs.Told.{failed_put}
use Rattle.evpnd.specs.Checks.{desk, Sums}
use Rattle.evpnd.specs.Program.{world, RunsWords}
use Rattle.evpnd.specs.Inner.Program.{TellsFault}
use Rattle.ev_report.specs.declared.status.Status.{Status}
use Rattle.ev_report.specs.declared.status.Status.TheVariants as statuses

-- a text was put on the output
pub sums_put : (a b : End) (r : Result (Unit {0}) Device) (text : Text) (status : Status) → IsOpen a → Puts a b text r
    → ◌≡◌ {A = Status} status (cond (is_ok r) statuses.Done statuses.Device) → Sums text a b status
sums_put a b r text status room h is =
    (put_holds a b r text room h, is ∙ failed_put a b r text statuses.Done room h (is_ok r) refl)

-- a text was put, followed by the lines for one that is no configuration
pub put_before : (wanted : Use) (document : Text) (a b c : End) (text : Text) (r : Result (Unit {0}) Device)
    → b ≡ with_text a text
    → (t : Text) × AreFaultLines wanted document t × Puts b c t r
    → (t : Text) × AreFaultLines wanted document t × Puts a c (text ++ t) r
put_before wanted document a b c text (Ok x) first (t, are, h) =
    (t, are, h ∙ ap (λ (e : End). with_text e t) first ∙ with_text_twice a text t)
put_before wanted document a b c text (Err d) first (t, are, h) =
    (t, are, subst (λ (e : End). IsOpen e → c.failures ≡ e.failures + 1) first h)

among_some : (k : ErrorKind) (ks : Kinds) → IsAmong k ks → ks ≢ []
among_some k [] among none = among
among_some k (x ∷ xs) among none = cc

-- arguments with a fault
pub runs_refused : (given : Descriptors) (words : List Text) (k : ErrorKind) (before middle after : ℕ) (shelf : Shelf)
    (d d' : Devices) (status : Status) → IsAmong k (fault_of program words) → middle ≡ before
    → d' ≡ record d { notes = d'.notes } → TellsFault middle after d.notes d'.notes status
    → RunsWords given words (world before shelf d) (world after shelf d') status
runs_refused given words k before middle after shelf d d' status among same kept (inl out_of_memory) =
    inl (record {
      refused = out_of_memory.0 ∙ ap (λ (n : ℕ). n + 1) same;
      desk_kept = ap (λ (x : Devices). desk shelf x) (kept ∙ ap (λ (e : End). record d { notes = e }) out_of_memory.1);
      status_is = out_of_memory.2;
    })
runs_refused given words k before middle after shelf d d' status among same kept (inr told) =
    inr (inl (record {
      faulty = among_some k (fault_of program words) among;
      refusals_kept = told.0 ∙ same;
      shelf_kept = refl;
      text = told.1.0;
      told = record {
        input = ap (λ (x : Devices). x.input) kept;
        out = ap (λ (x : Devices). x.out) kept;
        told = told.1.1;
      };
    }))
