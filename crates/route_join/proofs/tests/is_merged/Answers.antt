use Rattle.route_join.proofs.tests.is_merged.Goals as goal

pub merge-requires : goal.merge-requires
merge-requires c = λ o h. rw c.requires h
