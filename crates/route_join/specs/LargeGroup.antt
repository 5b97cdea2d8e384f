-- Many updates of one subject, found by their registers, and the best advert among them.
use Rattle.std.specs.Prelude.{Option, Some, None, List, []}
use Rattle.route_wire.specs.Fields.{Fields}

-- the updates that a walk through a tree has left, if there is a walk
abbrev pub left_in_tree : Option (List Fields) → List Fields
left_in_tree None = []
left_in_tree (Some us) = us
