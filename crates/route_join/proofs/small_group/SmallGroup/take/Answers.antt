use Rattle.std.proofs.Common.{◌<◌, length, sym, ◌∙◌, arith}
use Rattle.route_join.proofs.Edits.{found_at, told_at, new_at}
use Rattle.route_join.proofs.Leaders.{known_takes, newer_takes, new_takes, refused_takes, on_ok}
use Rattle.route_join.proofs.small_group.SmallGroup.take.Goals as goal

pub index-requires : goal.index-requires
index-requires c =
    let p = found_at c.deref.ensures.value c.register.ensures c.in-Ok.ensures in
    let w : c.in-Ok.at < length c.self.inside.updates.items = p.within in
    omega arith

pub returns-then-not-is_older-clause-takes : goal.returns-then-not-is_older-clause-takes
returns-then-not-is_older-clause-takes c =
    let there = told_at c.self.view_is c.deref.ensures.value c.register.ensures c.in-Ok.ensures c.index.ensures in
    known_takes _ _ there c.is_older.ensures _ c.if-not-is_older.true

pub returns-else-not-is_older-clause-takes : goal.returns-else-not-is_older-clause-takes
returns-else-not-is_older-clause-takes c =
    let there = told_at c.self.view_is c.deref.ensures.value c.register.ensures c.in-Ok.ensures c.index.ensures in
    newer_takes _ _ there c.is_older.ensures _ _ c.replace.ensures c.if-not-is_older.false

pub returns-in_default-clause-takes : goal.returns-in_default-clause-takes
returns-in_default-clause-takes c = refused_takes (new_at c.self.view_is c.deref.ensures.value c.register.ensures
    c.self.invariant.ordered c.in-Err.ensures)

pub returns-then-is_err-clause-takes : goal.returns-then-is_err-clause-takes
returns-then-is_err-clause-takes c = refused_takes (new_at c.self.view_is c.deref.ensures.value c.register.ensures
    c.self.invariant.ordered c.in-Err.ensures)

pub returns-else-is_err-clause-takes : goal.returns-else-is_err-clause-takes
returns-else-is_err-clause-takes c =
    let none = new_at c.self.view_is c.deref.ensures.value c.register.ensures c.self.invariant.ordered
    c.in-Err.ensures in
    let e = on_ok c.insert.result _ c.insert.ensures.ok (sym c.is_err.ensures.value ∙ c.if-is_err.false) in
    new_takes none e c.in-Some.ensures.1 (omega (arith, c.in-Some.ensures.0))
