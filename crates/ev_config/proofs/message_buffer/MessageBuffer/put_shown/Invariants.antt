use Rattle.ev_config.proofs.message_buffer.MessageBuffer.put_shown.Given as goal

abbrev pub invariant-loop-c : goal.invariant-loop-c
invariant-loop-c l =
    (goal.iterator-loop-c).can_next l.c-iterator × (goal.iterator-loop-c).is_finite l.c-iterator
