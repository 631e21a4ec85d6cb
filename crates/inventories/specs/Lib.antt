pub mod Texts
pub mod Digests
pub mod Alike
