-- What a source and a sink in memory have.
use Rattle.std.specs.Prelude.{ℕ, List, drop}
use Rattle.apex_base.specs.declared.memory.MemSource.{MemSource}
use Rattle.apex_base.specs.declared.memory.MemSink.{MemSink}

-- the bytes after those that were read
abbrev pub source_left : MemSource → List ℕ
source_left source = drop source.at source.bytes.items

-- how often a read failed
abbrev pub source_faults : MemSource → ℕ
source_faults source = source.faults

-- all that was put
abbrev pub sink_held : MemSink → List ℕ
sink_held sink = sink.bytes.items

-- how often a put failed
abbrev pub sink_faults : MemSink → ℕ
sink_faults sink = sink.faults
