-- What a file in memory shows.
use Rattle.std.specs.Prelude.{ℕ, List}
use Rattle.store_memory.specs.declared.disk.MemoryFile.{MemoryFile}

-- its member `seen`
abbrev pub file_bytes : MemoryFile → List ℕ
file_bytes m = m.bytes.items
