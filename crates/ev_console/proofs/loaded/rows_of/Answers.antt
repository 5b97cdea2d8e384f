use Rattle.std.proofs.Common.{rules, ◌≡◌, ◌++◌, ◌+◌, [], ◌∷◌, Option, ℕ, map, ap, ◌∙◌, arith}
use Rattle.std.proofs.lemmas.List.{map-append}
use Rattle.ev_view.specs.declared.link_lines.LinkRow.{LinkRow}
use Rattle.ev_view.proofs.Each.{gives_more}
use Rattle.ev_console.specs.Inner.LinksShown.{drops_at}
use Rattle.ev_console.proofs.loaded.rows_of.Goals as goal

pub loop-place-preserved : goal.loop-place-preserved
loop-place-preserved c =
    let place = c.loop-place.place in
    let drops = c.args.drops.now in
    let system = λ (row : LinkRow). row.system_drops in
    let before = c.loop-place.rows.items in
    let one : map system c.push_reserved.new.self.items ≡ map system before ++ drops_at drops (0 + place) ∷ [] =
    ap (map system) c.push_reserved.ensures.items ∙ map-append system before (c.row.result ∷ [])
    ∙ ap (λ (d : Option ℕ). map system before ++ d ∷ []) (c.row.ensures.system_drops ∙ c.drops_at-system_drops.ensures)
    ∙ ap (λ (at : ℕ). map system before ++ drops_at drops at ∷ []) (omega arith) in
    record {
      len = search rules;
      room = search rules;
      drops = gives_more (λ at link. drops_at drops at ∷ []) 0 c.args.links.now place c.index-links-place.result []
          (map system before) (map system c.push_reserved.new.self.items) c.loop-place-test.true
          c.loop-place.invariant.drops one;
    }
