use Rattle.std.proofs.Common.{sym}
use Rattle.route_join.specs.Subject.{subject_of}
use Rattle.route_join.proofs.Places.{about_at}
use Rattle.route_join.proofs.place.place.Goals as goal

pub cmp_entry-requires : goal.cmp_entry-requires
cmp_entry-requires c = rw c.index-updates-i.is (sym (about_at (subject_of c.args.register.now.key) c.args.updates.now
    c.loop-i.i c.index-updates-i.result c.requires c.loop-i-test.true))
