use Rattle.std.proofs.Common.{sym, subst, ap, ◌∙◌}
use Rattle.ev_mobility.specs.Seq.{IsSeqFor, seq_of}
use Rattle.ev_mobility.proofs.Hearing.{seq_is}
use Rattle.ev_mobility.proofs.seq.next_seq.Goals as goal

pub returns-clause-exact : goal.returns-clause-exact
returns-clause-exact c =
    subst (IsSeqFor c.args.table.now c.args.own c.args.vni c.args.mac)
    (sym (c.seq_of.ensures ∙ ap seq_of c.hear_all.ensures))
    (seq_is c.args.table.now c.args.own c.args.vni c.args.mac c.updates_of.result c.updates_of.ensures.exact)
