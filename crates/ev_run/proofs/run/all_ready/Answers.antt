use Rattle.std.proofs.Common.{rules, ◌≡◌, ℕ, ◌+◌, ◌<◌, List, length, map, take, get_or, vec_len, subst, ◌∙◌, arith}
use Rattle.ev_links.specs.declared.wire_out.Destination.{Destination}
use Rattle.ev_links.specs.declared.wire_out.WireOut.{WireOut}
use Rattle.ev_peers.specs.EdgeThreads.{EdgeSetup}
use Rattle.ev_run.specs.declared.bound.Sockets.{Sockets}
use Rattle.ev_run.specs.Links.{sends_to, destinations_of, begun_of}
use Rattle.ev_run.specs.Inner.Sockets.{sent_to}
use Rattle.ev_run.proofs.Running.{last_config, each_left, one_back, all_back, upto, upto_end, upto_none}
use Rattle.ev_run.proofs.run.all_ready.Goals as goal

pub begun_in-config-requires : goal.begun_in-config-requires
begun_in-config-requires g c = last_config c.loop-config.configs.items c.pop.new.self.items c.in-Some.config
    c.in-Some.ensures.items c.loop-config.invariant.each

pub loop-config-init : goal.loop-config-init
loop-config-init g c = record {
  each = search rules;
  begun = search rules;
  sends = upto_end (λ (s : Sockets). map sends_to (sent_to s)) destinations_of c.args.all.now (vec_len c.args.configs)
      c.in_ok-setups.setups.items (search rules) (search rules);
  all = search rules;
}

pub loop-config-preserved : goal.loop-config-preserved
loop-config-preserved g c =
    let left = c.pop.new.self in
    let all = c.loop-config.configs in
    let setup = c.in_ok-ready.field-0 in
    let ends = c.args.all.now in
    let sockets = c.index-all-len.result in
    let to : Sockets → List Destination = λ s. map sends_to (sent_to s) in
    let many : vec_len all ≡ vec_len left + 1 = search rules in
    let len : c.len-in-Some.result ≡ vec_len left = search rules in
    let within : vec_len left < length ends = omega (arith, many, c.loop-config.invariant.all) in
    let there = subst (λ (n : ℕ). sockets ≡ get_or ends n sockets) len c.index-all-len.is in
    record {
      each = each_left all.items left.items c.in-Some.config c.in-Some.ensures.items c.loop-config.invariant.each;
      begun = one_back (begun_of c.args.incarnation) (λ (s : EdgeSetup WireOut). s.config) left.items all.items
          c.in-Some.config c.loop-config.setups.items c.push.new.self.items setup
          (map (begun_of c.args.incarnation) c.args.configs.items) c.in-Some.ensures.items c.in_ok-push.ensures.items
          (c.in_ok-ready.ensures.config ∙ c.begun_in-config.ensures.begun) c.loop-config.invariant.begun;
      sends = one_back to destinations_of (take (vec_len left) ends) (take (vec_len all) ends) sockets
          c.loop-config.setups.items c.push.new.self.items setup (map to ends)
          (upto ends (vec_len left) (vec_len all) sockets many within there) c.in_ok-push.ensures.items
          c.in_ok-ready.ensures.sends c.loop-config.invariant.sends;
      all = search rules;
    }

pub returns-clause-begun : goal.returns-clause-begun
returns-clause-begun g c = all_back (begun_of c.args.incarnation) (λ (s : EdgeSetup WireOut). s.config)
    c.loop-config.configs.items c.loop-config.setups.items c.in_reverse.result.items
    (map (begun_of c.args.incarnation) c.args.configs.items) (search rules) c.in_reverse.ensures.items
    c.loop-config.invariant.begun

pub returns-clause-sends : goal.returns-clause-sends
returns-clause-sends g c =
    let to : Sockets → List Destination = λ s. map sends_to (sent_to s) in
    all_back to destinations_of (take (vec_len c.loop-config.configs) c.args.all.now) c.loop-config.setups.items
    c.in_reverse.result.items (map to c.args.all.now)
    (upto_none c.args.all.now (vec_len c.loop-config.configs) (search rules)) c.in_reverse.ensures.items
    c.loop-config.invariant.sends
