use Rattle.std.proofs.Common.{refl}
use Rattle.route_join.proofs.Taking.{about_taken}
use Rattle.route_join.proofs.group.Group.take.Goals as goal

pub settle-requires : goal.settle-requires
settle-requires c = rw (c.subject_of.ensures, c.register.ensures) (about_taken _ _ _ c.args.update.now
    c.take_stored-taken.result _ _ c.requires refl c.take_stored-taken.ensures.takes c.take_stored-taken.ensures.err)
