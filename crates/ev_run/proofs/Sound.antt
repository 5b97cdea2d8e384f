-- The edges that a run leaves are those of a sound fabric.
use Rattle.std.proofs.Common.{◌≡◌, ℕ, ◌==◌, Bool, true, false, List, [], ◌∷◌, map, refl, ap, ◌∙◌, subst, cond, arith}
use Rattle.std.proofs.lemmas.Bool.Decides.{nat_tests}
use Rattle.ev_edge.specs.declared.config.EdgeConfig.{EdgeConfig}
use Rattle.ev_edge.specs.Edge.{Edge}
use Rattle.ev_fabric.specs.Fabric.{fabric_of}
use Rattle.ev_fabric.specs.Opening.{AreConfigs}
use Rattle.ev_fabric.specs.Sound.{IsSound}
use Rattle.ev_links.specs.declared.wire_out.WireOut.{WireOut}
use Rattle.ev_peers.specs.EdgeThreads.{EdgeSetup}
use Rattle.ev_peers.specs.History.{configs_of}
use Rattle.ev_report.specs.Ends.{Devices}
use Rattle.ev_sites.specs.RunningEdges.{IsRunOf}
use Rattle.ev_sites.proofs.Sound.{run_sound}
use Rattle.ev_run.specs.LinkEnds.{LinkEnd}
use Rattle.ev_run.specs.Links.{begun_of, AreSetupsOf}
use Rattle.ev_run.specs.RunEdges.{AllRan, Ran}
use Rattle.ev_report.specs.declared.status.Status.{Status}

or_itself : (n : ℕ) (b : Bool) → (n == 0) ≡ b → cond b 0 n ≡ n
or_itself n true is = grind (arith, nat_tests)
or_itself n false is = refl

-- an edge whose configuration names no incarnation begins in 0, as it names
begun_as_it_is : (c : EdgeConfig) → begun_of 0 c ≡ c
begun_as_it_is c =
    ap (λ (n : ℕ). record c { incarnation = n }) (or_itself c.incarnation (c.incarnation == 0) refl)

all_begun : (cs : List EdgeConfig) → map (begun_of 0) cs ≡ cs
all_begun [] = refl
all_begun (c ∷ cs) =
    ap (λ (d : EdgeConfig). d ∷ map (begun_of 0) cs) (begun_as_it_is c)
    ∙ ap (λ (ds : List EdgeConfig). c ∷ ds) (all_begun cs)

same_configs : (incarnation : ℕ) (configs : List EdgeConfig) (remotes : List (List LinkEnd))
    (setups : List (EdgeSetup WireOut)) → incarnation ≡ 0 → AreSetupsOf incarnation configs remotes setups
    → configs_of setups ≡ configs
same_configs incarnation configs remotes setups zero are =
    are.begun ∙ ap (λ (n : ℕ). map (begun_of n) configs) zero ∙ all_begun configs

pub sound_end : (configs : List EdgeConfig) (edges : List Edge) → AreConfigs configs → (run : IsRunOf configs edges)
    → (same : IsRunOf configs edges) × IsSound (fabric_of edges configs same.pool)
sound_end configs edges fit run =
    (run, run_sound configs run.opened edges run.steps run.pool fit run.are_opened run.runs)

pub run_of_file : (configs : List EdgeConfig) (sockets remotes : List (List LinkEnd)) (before after : Devices)
    (status : Status) (ran : Ran false configs sockets remotes before after status) (edges : List Edge)
    → AllRan ran.ended edges → IsRunOf configs edges
run_of_file configs sockets remotes before after status ran edges all =
    subst (λ (cs : List EdgeConfig). IsRunOf cs edges)
    (same_configs ran.incarnation configs remotes ran.setups ran.unasked ran.are) (ran.runs edges all)
