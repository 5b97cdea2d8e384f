use Rattle.std.proofs.Common.{of_calls}
use Rattle.ev_peers.proofs.run.run_ready.Goals as goal

pub scoped-requires : goal.scoped-requires
scoped-requires g c = record {
  at = λ a. (
    c.requires,
    (
      search of_calls,
      search of_calls,
      search of_calls,
      search of_calls,
      search of_calls,
      search of_calls,
    ),
  );
}
