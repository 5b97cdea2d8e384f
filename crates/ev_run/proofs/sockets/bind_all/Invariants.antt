use Rattle.std.proofs.Common.{◌≡◌, ◌+◌, ◌++◌, map, length, vec_len}
use Rattle.std.specs.List.{list_any}
use Rattle.ev_run.specs.Sockets.{ends_from, endpoints_of, all_remotes, lacks_ends, lacks_address}
use Rattle.ev_run.specs.Inner.Sockets.{bound_at, sent_to}
use Rattle.ev_run.proofs.sockets.bind_all.Given as goal

abbrev pub invariant-loop-edge : goal.invariant-loop-edge
invariant-loop-edge g l = record {
  same : length l.edge-iterator.a.rest.now ≡ length l.edge-iterator.b.rest.now;
  all : vec_len l.all + length l.edge-iterator.a.rest.now ≡ vec_len l.config.edges;
  bound : map bound_at l.all.items ++ ends_from l.edge-iterator.a.rest.now l.edge-iterator.b.rest.now
      ≡ endpoints_of l.config;
  remotes : map sent_to l.all.items ++ all_remotes l.edge-iterator.b.rest.now ≡ all_remotes l.config.links.items;
  whole : list_any (λ links. lacks_ends links.items) l.edge-iterator.b.rest.now ≡ lacks_address l.config;
}
