-- What is seen of the system's files and streams: their counts, and which stream it is.
use Rattle.std.specs.Prelude.{None}
use Rattle.ec_edge.specs.declared.files.FileShelf.{FileShelf}
use Rattle.ec_edge.specs.declared.streams.Std.{Std}
use Rattle.ec_edge.specs.declared.streams.StdSink.{StdSink}
use Rattle.ec_edge.specs.Shelf.{SeenShelf, untold}
use Rattle.ec_edge.specs.Sink.{SeenSink}

abbrev pub seen_files : {R : Type 0} → FileShelf R → SeenShelf
seen_files s = record { told = λ name. untold; read_faults = s.failed_reads; write_faults = s.failed_writes }

abbrev pub seen_stream : StdSink → SeenSink
seen_stream s = record { written = None; faults = s.faults }

abbrev pub which_of : StdSink → Std
which_of s = s.which
