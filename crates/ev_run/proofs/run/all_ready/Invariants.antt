use Rattle.std.proofs.Common.{◌≡◌, ◌+◌, ◌++◌, length, map, reverse, take, vec_len}
use Rattle.ev_run.specs.Links.{begun_of, destinations_of, sends_to}
use Rattle.ev_run.specs.Inner.Sockets.{sent_to}
use Rattle.ev_run.specs.Inner.RunEdges.{EachConfig}
use Rattle.ev_run.proofs.run.all_ready.Given as goal

abbrev pub invariant-loop-config : goal.invariant-loop-config
invariant-loop-config g l = record {
  each : EachConfig l.configs.items;
  begun : map (begun_of l.incarnation) l.configs.items ++ map (λ setup. setup.config) (reverse l.setups.items)
      ≡ map (begun_of l.incarnation) l.fn.configs.items;
  sends : map (λ sockets. map sends_to (sent_to sockets)) (take (vec_len l.configs) l.all)
      ++ map destinations_of (reverse l.setups.items) ≡ map (λ sockets. map sends_to (sent_to sockets)) l.all;
  all : vec_len l.setups + vec_len l.configs ≡ length l.all;
}

abbrev pub decreases-loop-config : goal.decreases-loop-config
decreases-loop-config g l = vec_len l.configs
