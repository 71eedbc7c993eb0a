mod Counts
mod Squares
