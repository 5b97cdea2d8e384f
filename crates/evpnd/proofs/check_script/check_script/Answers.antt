use Rattle.std.proofs.Common.{inl, List, ℕ, subst}
use Rattle.std.specs.Prelude.{string_bytes}
use Rattle.ether_wire.specs.Ends.{End}
use Rattle.evpnd.specs.Scripts.{Looks}
use Rattle.evpnd.proofs.Scripted.{script_looked}
use Rattle.evpnd.proofs.check_script.check_script.Goals as goal

pub returns-in-Ok : goal.returns-in-Ok
returns-in-Ok g c input =
    let path = c.args.path.now in
    let text = string_bytes c.in-Ok.text in
    let out = g.W.Out.end c.args.out.now in
    let notes = g.N.Out.end c.args.notes.now in
    let out' = g.W.Out.end c.look.new.out in
    let notes' = g.N.Out.end c.look.new.notes in
    let had = c.in-Ok.ensures.has in
    let read = subst (λ (t : List ℕ). Looks path t out out' (g.N.Out.end c.text_at.new.notes) notes' c.look.result)
    c.as_str.ensures.value c.look.ensures in
    let looks = subst (λ (e : End). Looks path text out out' e notes' c.look.result) had.1 read in
    script_looked path text (g.F.Files.shelf c.args.files.now) (g.F.Files.shelf c.text_at.new.files) input out out'
    notes notes' c.look.result (had.0, had.2) looks

pub returns-in-Err : goal.returns-in-Err
returns-in-Err g c input = inl (c.in-Err.ensures.none input (g.W.Out.end c.args.out.now))
