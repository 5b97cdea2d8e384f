use Rattle.std.proofs.Common.{sym, ◌∙◌}
use Rattle.route_join.proofs.Entries.{flood_back, mac_back}
use Rattle.route_join.proofs.packed_update.PackedUpdate.key.Goals as goal

pub returns-in-None : goal.returns-in-None
returns-in-None c = rw c.vni.ensures
    (flood_back c.args.self.now.register.key c.args.subject.now c.requires (sym c.mac.ensures ∙ c.in-None.is))

pub returns-in-Some : goal.returns-in-Some
returns-in-Some c = rw (c.vni-in-Some.ensures, c.ip.ensures) (mac_back c.args.self.now.register.key
    c.args.subject.now c.in-Some.mac c.requires (sym c.mac.ensures ∙ c.in-Some.is))
