-- The updates of a group, in any form of storage.
use Rattle.std.specs.Prelude.{List, [], ◌∷◌}
use Rattle.route_wire.specs.Fields.{Fields}
use Rattle.route_join.specs.declared.group.Storage.{Storage}
use Rattle.route_join.specs.declared.group.Storage.TheVariants.{One, SmallGroup, LargeGroup}

abbrev pub stored_updates : Storage → List Fields
stored_updates (One own) = own ∷ []
stored_updates (SmallGroup few) = few
stored_updates (LargeGroup many) = many.value
