use Rattle.std.proofs.Common.{◌≡◌, length, drop, []}
use Rattle.toml.specs.View.{items_view}
use Rattle.ev_config.specs.Keys.{numbers_from, vni_in}
use Rattle.ev_config.proofs.values.distinct_vnis.Given as goal

abbrev pub invariant-loop-value : goal.invariant-loop-value
invariant-loop-value l = record {
  count : length l.vnis.items ≡ l.value-index;
  value : numbers_from vni_in l.vnis.items (items_view (drop l.value-index l.array.items))
      ≡ numbers_from vni_in [] (items_view l.array.items);
}
