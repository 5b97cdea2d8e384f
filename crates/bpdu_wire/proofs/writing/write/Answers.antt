use Rattle.bpdu_wire.proofs.Again.{config_again, rst_again, tcn_again}
use Rattle.bpdu_wire.proofs.writing.write.Goals as goal

pub returns-in-Config-clause-again : goal.returns-in-Config-clause-again
returns-in-Config-clause-again c = λ rest.
    let again = config_again c.in-Config.message rest c.put_message.ensures.vector c.put_message.ensures.times in
    rw (c.put_message.ensures.items, c.new-out.ensures, c.in-Config.is) again

pub returns-in-Rst-clause-again : goal.returns-in-Rst-clause-again
returns-in-Rst-clause-again c = λ rest.
    let again = rst_again c.in-Rst.message rest c.put_message-in-Rst.ensures.vector
    c.put_message-in-Rst.ensures.times in
    rw (c.put_message-in-Rst.ensures.items, c.new-out.ensures, c.in-Rst.is) again

pub returns-in-Tcn-clause-again : goal.returns-in-Tcn-clause-again
returns-in-Tcn-clause-again c = λ rest. rw (c.put.ensures.items, c.new-out.ensures, c.in-Tcn.is) (tcn_again rest)
