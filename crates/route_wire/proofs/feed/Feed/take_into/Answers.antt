use Rattle.std.proofs.Common.{◌≡◌, [], sym, ◌∙◌}
use Rattle.std.proofs.lemmas.List.{nil_from_length}
use Rattle.std.proofs.lemmas.Map.Views.{exact_unsigned_eq}
use Rattle.route_wire.proofs.Feeding.{takes_whole, read_lying}
use Rattle.route_wire.proofs.Prefixes.{whole_front, whole_of_all}
use Rattle.route_wire.proofs.feed.Feed.take_into.Goals as goal

nothing_held : (c : goal.After-answer) → c.self.inside.held.items ≡ []
nothing_held c = nil_from_length c.self.inside.held.items (exact_unsigned_eq _ 0
    (rw (← c.as_slice.ensures.value) (sym c.is_empty.ensures ∙ c.if-is_empty.true)))

pub read_into-requires : goal.read_into-requires
read_into-requires c = rw c.split_at.ensures.front (whole_of_all c.self.inside.newest _ c.self.invariant.0
    (whole_front c.self.inside.newest c.args.piece.now c.in-Length.n (sym c.whole_up_to.ensures ∙ c.in-Length.is)))

pub returns-in-Length-clause-takes : goal.returns-in-Length-clause-takes
returns-in-Length-clause-takes c =
    rw (← c.self.view_is, nothing_held c) (takes_whole c.self.inside.newest c.in-Length.n c.args.piece.now _
    (sym c.whole_up_to.ensures ∙ c.in-Length.is)
    (rw (c.answer.ensures, c.read_into.ensures, c.split_at.ensures.front)))

pub returns-in-Length-clause-read : goal.returns-in-Length-clause-read
returns-in-Length-clause-read c =
    rw (← c.self.view_is, nothing_held c) (read_lying c.self.inside.newest c.in-Length.n c.args.piece.now _
    (sym c.whole_up_to.ensures ∙ c.in-Length.is)
    (rw (c.answer.ensures, c.read_into.ensures, c.split_at.ensures.front)))
