pub mod ByWords
