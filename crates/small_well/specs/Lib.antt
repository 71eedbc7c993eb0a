pub mod SmallWell
