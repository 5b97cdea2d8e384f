use Rattle.std.proofs.Common.{rules, refl, ap, ◌∙◌, length}
use Rattle.std.specs.Prelude.{vec_len}
use Rattle.ev_links.specs.Links.{packet}
use Rattle.ev_links.specs.Line.{sourced, after_frame}
use Rattle.ev_links.proofs.Lines.{line_put, put_view, dropped_view, counted_few}
use Rattle.ev_links.proofs.line.Line.put.Goals as goal

pub returns-then-not-has_room : goal.returns-then-not-has_room
returns-then-not-has_room c =
    dropped_view c.self.inside.parts.items (vec_len c.self.inside.parts) _ c.self.inside.heads.items
    c.self.inside.backlog c.self.inside.dropped
    c.saturating_add-self-inside.result _ c.args.source c.args.to c.args.octets.now c.len.result c.len-2.result
    c.fits_in-is_own.result (search rules) c.self.invariant.counted
    c.self.invariant.all (search rules) (c.len.ensures ∙ c.self.inside.heads.ok.0) c.len-2.ensures.len (search rules)
    (search rules)
    ∙ ap (after_frame (sourced c.args.source (packet c.args.to c.args.octets.now))) c.self.view_is

pub count-requires : goal.count-requires
count-requires c = counted_few c.self.inside.parts.items c.self.inside.heads.items c.self.inside.backlog
    (length c.args.octets.now) c.args.source c.self.invariant.counted c.self.invariant.all (search rules) (search rules)

pub invariant_of-self-2 : goal.invariant_of-self-2
invariant_of-self-2 c = rw (
  c.push_back_reserved.ensures.items,
  c.append.ensures,
  c.push_back_reserved.ensures.capacity,
  c.count.ensures.items,
) (line_put _ _ _ _ _ _ _ c.self.invariant (search rules) (search rules))

pub returns : goal.returns
returns c = rw (c.push_back_reserved.ensures.items, c.append.ensures, c.count.ensures.many)
    (put_view c.self.inside.parts.items (vec_len c.self.inside.parts) _ c.self.inside.heads.items c.self.inside.backlog
    c.self.inside.dropped _ c.args.source c.args.to c.args.octets.now
    (record { source = c.args.source; to = c.args.to; size = length c.args.octets.now }) c.len.result c.len-2.result
    c.fits_in-is_own.result (search rules) c.self.invariant.counted
    c.self.invariant.all refl refl refl (c.len.ensures ∙ c.self.inside.heads.ok.0) c.len-2.ensures.len (search rules)
    (search rules)
    ∙ ap (after_frame (sourced c.args.source (packet c.args.to c.args.octets.now))) c.self.view_is)
