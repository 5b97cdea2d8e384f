use Rattle.std.proofs.Common.{◌≡◌, ℕ, sym, subst, ◌∙◌}
use Rattle.route_wire.specs.Record.{AnswersUpTo}
use Rattle.route_wire.specs.Feed.{shown}
use Rattle.route_wire.proofs.Cuttings.{read_whole_stream}
use Rattle.route_wire.proofs.Streams.{read_once}
use Rattle.route_wire.proofs.laws.cuttings_agree.Goals as goal

pub returns : goal.returns
returns c = λ h g stream answers others version a b x y.
    let one = read_whole_stream h stream answers a x in
    let other = read_whole_stream g stream others b y in
    let same = read_once g.newest stream answers others one.0 other.0
    (subst (λ (v : ℕ). AnswersUpTo v stream answers one.0) version one.1) other.1 in
    let shows : shown h ≡ shown g = cc in
    (same.0, shows, λ e. sym (one.3 e) ∙ same.1 ∙ other.3 (rw (← shows) e))
