use Rattle.std.proofs.Common.{◌≡◌, ◌≤◌, length, take}
use Rattle.ev_edge.specs.Config.{settings_of}
use Rattle.ev_edge.proofs.config.set_settings.Given as goal

abbrev pub invariant-loop-place : goal.invariant-loop-place
invariant-loop-place l = record {
  so_far : take l.place l.settings ≡ settings_of (take l.place l.ports);
  size : length l.settings ≡ 64;
  most : length l.ports ≤ 64;
  same : l.ports ≡ l.fn.ports.items;
}
