pub mod Digests
pub mod Running
pub mod BigEndian
pub mod Traces
pub mod Fnv
