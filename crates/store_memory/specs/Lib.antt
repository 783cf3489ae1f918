pub mod MemoryFile
