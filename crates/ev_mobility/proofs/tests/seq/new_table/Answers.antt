use Rattle.std.proofs.Common.{◌≡◌, ◌∷◌, [], ℕ, List, refl, sym, ap₂, subst, ◌∙◌, lit<, lit≤}
use Rattle.std.specs.List.{IsDistinct, push}
use Rattle.route_join.specs.Table.{AreOriginators}
use Rattle.ev_mobility.proofs.tests.seq.new_table.Goals as goal

abbrev four : List ℕ
four = 0x0a00_0001 ∷ 0x0a00_0002 ∷ 0x0a00_0003 ∷ 0x0a00_0004 ∷ []

four_listed : AreOriginators four
unfolding IsDistinct
four_listed = record {
  some = lit< tt;
  few = lit≤ tt;
  distinct = ((refl, (refl, (refl, tt))), ((refl, (refl, tt)), ((refl, tt), (tt, tt))));
}

pub new-requires-5 : goal.new-requires-5
new-requires-5 c =
    let one = c.push.ensures.items ∙ ap₂ push c.new-originators.ensures c.new.ensures in
    let two = c.push-2.ensures.items ∙ ap₂ push one c.new-2.ensures in
    let three = c.push-3.ensures.items ∙ ap₂ push two c.new-3.ensures in
    let items : c.push-4.new.self.items ≡ four = c.push-4.ensures.items ∙ ap₂ push three c.new-4.ensures in
    subst AreOriginators (sym items) four_listed
