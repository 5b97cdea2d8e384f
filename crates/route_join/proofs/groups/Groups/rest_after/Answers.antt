use Rattle.route_join.proofs.Groupings.{about_there}
use Rattle.route_join.proofs.groups.Groups.rest_after.Goals as goal

pub updates_after-requires : goal.updates_after-requires
updates_after-requires c = about_there _ c.requires c.subject_of.ensures c.in-Some.ensures

pub returns-in-None : goal.returns-in-None
returns-in-None c = rw (c.none.ensures, ← c.subject_of.ensures, ← c.in-None.ensures)

pub returns-in-Some : goal.returns-in-Some
returns-in-Some c = rw (c.updates_after.ensures, ← c.subject_of.ensures, ← c.in-Some.ensures)
