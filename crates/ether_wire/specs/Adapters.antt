-- The members of the adapters of std's readers and writers; the octets of these ends are unknown.
use Rattle.std.specs.Prelude.{None}
use Rattle.ether_wire.specs.declared.adapters.Reader.{Reader}
use Rattle.ether_wire.specs.declared.adapters.Writer.{Writer}
use Rattle.ether_wire.specs.Ends.{End, Source, end_of, source_of}

abbrev pub inner_reader : {R : Type 0} → Reader R → R
inner_reader r = r.inner

abbrev pub reader_end : {R : Type 0} → Reader R → Source
reader_end r = source_of None r.failures r.reads

abbrev pub inner_writer : {W : Type 0} → Writer W → W
inner_writer w = w.inner

abbrev pub writer_end : {W : Type 0} → Writer W → End
writer_end w = end_of None w.failures
