use Rattle.std.proofs.Common.{sym, ap, ◌∙◌}
use Rattle.ether_wire.proofs.Appending.{puts_behind}
use Rattle.route_join.specs.Table.{entries_of}
use Rattle.route_join.specs.Report.{owner_line}
use Rattle.route_join.specs.Inner.Lines.{place_text, register_lines}
use Rattle.route_join.proofs.Lines.{have_text, flood_report, address_report}
use Rattle.route_join.proofs.groups.put_group.Goals as goal

pub returns-in-None : goal.returns-in-None
returns-in-None g c = rw (
  ← flood_report c.args.subject.now c.args.group.now (sym c.mac.ensures ∙ c.in-None.is)
      c.requires.about,
  ← c.updates.ensures.value,
) c.in_ok-put_updates.ensures

pub put_updates-requires : goal.put_updates-requires
put_updates-requires g c = rw (c.subject_text-text.ensures, c.updates.ensures.value)
    (have_text c.args.subject.now (entries_of c.args.group.now) c.requires.about)

pub returns-in-Some : goal.returns-in-Some
returns-in-Some g c =
    let s = c.args.subject.now in
    let mac = c.in-Some.field-0 in
    let is = sym c.mac.ensures ∙ c.in-Some.is in
    rw (
      ← address_report s mac c.args.group.now is c.updates.ensures.ordered c.requires.about c.requires.some
          c.owner.result c.owner.ensures,
      ← c.updates.ensures.value,
    )
    (puts_behind (g.O.Out.end c.args.out.now) (g.O.Out.end c.put_updates.new.out) (g.O.Out.end c.put_owner.new.out)
    (register_lines (entries_of c.updates.result)) (owner_line s.vni mac c.owner.result) c.put_owner.result
    c.in_ok-put_updates.ensures
    (rw (c.subject_text-text.ensures ∙ ap (place_text s.vni) is) at c.put_owner.ensures))
