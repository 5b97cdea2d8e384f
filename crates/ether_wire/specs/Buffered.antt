-- The end of a writer that buffers octets for another writer.
use Rattle.std.specs.Prelude.{ℕ, List}
use Rattle.ether_wire.specs.declared.buffered.Buffered.{Buffered}
use Rattle.ether_wire.specs.Ends.{End, with_text}

-- the octets in the buffer
abbrev pub held_of : {W : Type 0} → Buffered W → List ℕ
held_of b = b.held

-- the end of the other writer: the octets passed on, and its failures
abbrev pub passed_end : {W : Type 0} → (W → End) → Buffered W → End
passed_end end b = end b.inner

-- the octets passed on, followed by the octets in the buffer, and the failures of the other writer
abbrev pub buffered_end : {W : Type 0} → (W → End) → Buffered W → End
buffered_end end b = with_text (passed_end end b) (held_of b)
