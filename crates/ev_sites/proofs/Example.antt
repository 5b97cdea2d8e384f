-- Two edges whose ports are up, whose bridges are the roots of two rings at rest.
use Rattle.std.proofs.Common.{◌≡◌, ℕ, zero, suc, true, List, [], ◌∷◌, ◌++◌, refl, sym, ap, subst, arith, lit≤, lit<}
use Rattle.std.specs.Prelude.{Ok, Contains}
use Rattle.std.specs.FinMap.{empty}
use Rattle.ether_wire.specs.Frame.{frame_of}
use Rattle.ether_wire.specs.Ports.{has_port, with_port, without_port, common_ports}
use Rattle.vxlan_wire.specs.Vxlan.{instance_of}
use Rattle.route_wire.specs.Fields.{Fields}
use Rattle.rstp_state.specs.Selection.{selected_ports, selected_root, best_path}
use Rattle.rstp_run.specs.Events.{RunsHappen}
use Rattle.rstp_run.specs.Settled.{SettledByLists}
use Rattle.ev_sites.specs.Network.{Spot, Network, IsNetwork, IsAtRest, PassesAt}
use Rattle.ev_sites.proofs.Ring.{root_bridge, second_bridge, third_bridge, AreRing, a_ring, network, at_rest, passing}
use Rattle.ev_sites.proofs.Round.{ring_of}
use Rattle.ev_tunnel.specs.declared.decision.Decision.{Decision}
use Rattle.ev_tunnel.specs.declared.decision.Source.TheVariants.{Port, Tunnel}
use Rattle.ev_tunnel.specs.Decision.{open_ports, remote_up}
use Rattle.ev_tunnel.specs.Datagram.{datagram_of}
use Rattle.ev_edge.specs.declared.arrival.Arrival.TheVariants.{Data}
use Rattle.ev_edge.specs.Arrival.{frame_arrival, tunnel_arrival}
use Rattle.ev_edge.specs.Edge.{Edge, table_of, address_of}
use Rattle.ev_edge.specs.Sending.{port_of}
use Rattle.ev_fabric.specs.declared.step.Step.{Step}
use Rattle.ev_fabric.specs.declared.step.Step.TheVariants.{Announce, Deliver}
use Rattle.ev_fabric.specs.Fabric.{Fabric}
use Rattle.ev_fabric.specs.Runs.{Runs}
use Rattle.ev_fabric.proofs.Example.{fabric_of, configs_of, nobody_learnt, are_configs, is_start}
use Rattle.ev_sites.specs.Sites.{Site, IsSiteAt, Point, IsEdgeOf, DecidesAt, DecidesFrom, Leaves}
use Rattle.ev_sites.specs.Fabrics.{AreSitesOf, SitesRest}
use Rattle.ev_sites.specs.Witnesses.{SitesOfAFabric}
use Rattle.ev_sites.proofs.Tables.{Said, floods}
use Rattle.ev_sites.proofs.Guest.{here, there, flood_register, said_first, speaker_with, hears}
use Rattle.ev_sites.proofs.Risen.{everyone, nobody, both_ports, root_settings, fabric_with, opened_with, risen_edge}
use Rattle.ev_sites.proofs.Risen.{risen, steps_up, runs_on, comes_up, decided, sending, decides, sends}
use Rattle.ev_sites.proofs.Telling.{update, announcing, taking, second_announces, first_takes}

-- ---- a broadcast frame

abbrev octets : List ℕ
octets = 255 ∷ 255 ∷ 255 ∷ 255 ∷ 255 ∷ 255 ∷ 1 ∷ 0 ∷ 0 ∷ 0 ∷ 0 ∷ 1 ∷ 8 ∷ 0 ∷ []

leaves_by_two : has_port (open_ports (Port 1) (record { members = both_ports; passing = both_ports })) 2 ≡ true
unfolding has_port with_port without_port common_ports
leaves_by_two = refl

comes_by_two : has_port (open_ports Tunnel (record { members = both_ports; passing = both_ports })) 2 ≡ true
unfolding has_port with_port common_ports
comes_by_two = refl

-- ---- the second edge's flood list comes to the first

abbrev heard_both : List Said
heard_both = (flood_register there, said_first) ∷ (flood_register here, said_first) ∷ []

abbrev first : Edge
first = opened_with here root_bridge

abbrev second : Edge
second = opened_with there root_bridge

abbrev first_told : Edge
first_told = risen_edge (speaker_with here heard_both 1 (flood_register here ∷ [])) nobody_learnt empty

abbrev second_told : Edge
second_told = risen_edge (speaker_with there ((flood_register there, said_first) ∷ []) 1 []) nobody_learnt empty

abbrev flood_of_second : Fields
flood_of_second = update (flood_register there) said_first

abbrev last_fabric : Fabric
last_fabric = fabric_with first_told second_told (flood_of_second ∷ [])

abbrev more_steps : List Step
more_steps = Announce 2 ∷ Deliver 1 1 ∷ []

more : Runs risen more_steps last_fabric
more = (
  fabric_with first second_told (flood_of_second ∷ []),
  Ok (announcing flood_of_second),
  second_announces first [] ((flood_register there, said_first) ∷ []) 1 (flood_register there) [] nobody_learnt empty
      said_first refl,
  (
    last_fabric,
    Ok (taking first flood_of_second),
    first_takes first second_told (flood_of_second ∷ []) 1 refl refl refl
        (hears 0 here there ((flood_register here, said_first) ∷ []) 1 (flood_register here ∷ []) nobody_learnt
        said_first refl),
    refl,
  ),
)

module _ (lists : SettledByLists) (happens : RunsHappen) where
  -- ---- the sites

  abbrev ring : Network
  ring = ring_of root_bridge second_bridge third_bridge

  is_ring : AreRing
  is_ring = a_ring lists happens

  abbrev site_of : ℕ → Site
  site_of address = record { net = ring; attached = 0; address = address }

  abbrev both_sites : List Site
  both_sites = site_of here ∷ site_of there ∷ []

  ring_is : IsNetwork ring
  ring_is = network root_bridge second_bridge third_bridge _ _ _ _ _ _ is_ring

  ring_rests : IsAtRest ring
  ring_rests = at_rest root_bridge second_bridge third_bridge _ _ _ _ _ _ is_ring

  site_is : (i : ℕ) (s : Site) → IsSiteAt both_sites i s → s.net ≡ ring
  site_is zero s at = let same : site_of here ≡ s = cc in sym (ap (λ (t : Site). t.net) same)
  site_is (suc zero) s at = let same : site_of there ≡ s = cc in sym (ap (λ (t : Site). t.net) same)
  site_is (suc (suc i)) s at = let e : ⊥ = cc in absurd e

  they_rest : SitesRest both_sites
  they_rest = record {
    others =
        λ i s at b t other there. ring_is.reached b t
        (rw (site_is i s at) at there);
    few = λ i s at b t other there. ring_is.few b t (rw (site_is i s at) at there);
    distinct =
        λ i s at b d t u at_b at_d same. ring_is.distinct b d t u
        (rw (site_is i s at) at at_b)
        (rw (site_is i s at) at at_d) same;
    rest = λ i s at. rw (site_is i s at) ring_rests;
  }

  are_sites : AreSitesOf last_fabric both_sites
  are_sites zero s at = let same : site_of here ≡ s = cc in
      (first_told, refl, subst (λ (t : Site). IsEdgeOf t first_told) same (record { bridge = refl; address = refl }))
  are_sites (suc zero) s at = let same : site_of there ≡ s = cc in
      (second_told, refl, subst (λ (t : Site). IsEdgeOf t second_told) same (record { bridge = refl; address = refl }))
  are_sites (suc (suc i)) s at = let e : ⊥ = cc in absurd e

  -- ---- a frame

  arrives : frame_arrival first_told 1 octets ≡ Ok (Data 5001 everyone nobody)
  unfolding frame_of selected_ports selected_root best_path
  arrives = refl

  decides_here : DecidesAt (site_of here) (record { bridge = 0; place = 0 }) (decided first_told everyone (Port 1))
  decides_here = record {
    here = refl;
    before = first_told;
    octets = octets;
    result = Ok (sending (decided first_told everyone (Port 1)));
    after = first_told;
    edge = record { bridge = refl; address = refl };
    step =
        rw arrives (sends lists happens _ _ _ _ _ _ everyone nobody (refl, refl));
    decision = refl;
  }

  datagram_arrives : tunnel_arrival second_told here (datagram_of 5001 octets) ≡ Ok (Data 5001 everyone nobody)
  unfolding frame_of instance_of
  datagram_arrives = refl

  decides_there : DecidesFrom (site_of there) here (decided second_told everyone Tunnel)
  decides_there = record {
    before = second_told;
    octets = datagram_of 5001 octets;
    result = Ok (sending (decided second_told everyone Tunnel));
    after = second_told;
    edge = record { bridge = refl; address = refl };
    step =
        rw datagram_arrives (decides lists happens _ _ _ everyone Tunnel, refl, refl);
    decision = refl;
  }

  arrives_third : PassesAt ring (record { bridge = 2; place = 0 })
  arrives_third = (passing root_bridge second_bridge third_bridge _ _ _ _ _ _ is_ring).c0

  leaves : (address : ℕ) (d : Decision) → has_port d.local 2 ≡ true
      → Leaves (site_of address) d (record { bridge = 2; place = 0 })
  leaves address d among = record {
    out = record { bridge = 0; place = 1 };
    bridge = refl;
    among = (record { least = lit≤ tt; most = lit≤ tt }, among);
    segment = refl;
    apart = λ e. (omega (arith, ap (λ (s : Spot). s.bridge) e));
    arrives = arrives_third;
  }

  abbrev point : ℕ → ℕ → Point
  point site bridge = record { site = site; spot = record { bridge = bridge; place = 0 } }

  goes_there : Contains
      (remote_up [] (table_of first_told) 5001 everyone (port_of first_told 5001 everyone) (address_of first_told)
      (Port 1)) there
  goes_there = rw (floods heard_both 5001) (zero, lit< tt, refl)

  pub sites_of_a_fabric : SitesOfAFabric
  sites_of_a_fabric = record {
    fabric = last_fabric;
    has_run = record {
      configs = configs_of root_settings;
      opened = fabric_of root_settings;
      steps = steps_up ++ more_steps;
      fit = are_configs root_settings (lit≤ tt);
      start = is_start root_settings;
      run = runs_on steps_up more_steps (fabric_of root_settings) risen last_fabric (comes_up lists happens) more;
    };
    sites = both_sites;
    x = point 0 0;
    y = point 0 2;
    z = point 1 2;
    are_sites = are_sites;
    rest = they_rest;
    by_edge =
        record {
          site = site_of here;
          at = refl;
          same = refl;
          decision = decided first_told everyone (Port 1);
          decides = decides_here;
          leaves = leaves here (decided first_told everyone (Port 1)) leaves_by_two;
        };
    by_tunnel = record {
      near = site_of here;
      far = site_of there;
      at_near = refl;
      at_far = refl;
      decision = decided first_told everyone (Port 1);
      decides = decides_here;
      goes = goes_there;
      decision_far = decided second_told everyone Tunnel;
      decides_far = decides_there;
      leaves = leaves there (decided second_told everyone Tunnel) comes_by_two;
    };
  }
