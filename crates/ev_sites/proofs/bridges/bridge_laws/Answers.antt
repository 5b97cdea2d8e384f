use Rattle.ev_sites.proofs.bridges.bridge_laws.Goals as goal

pub returns : goal.returns
returns c = record {
  sends = c.settled_port_sends.ensures;
  has = c.designated_port_has.ensures;
  followed = c.root_port_is_followed.ensures;
  one_root = c.one_root_port.ensures;
  in_tree = c.passing_is_in_tree.ensures;
  numbered = c.ports_are_numbered.ensures;
  good = c.never_equally_good.ensures;
}
