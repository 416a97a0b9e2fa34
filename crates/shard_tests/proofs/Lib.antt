mod Short
mod Looks
mod Ranks
mod Scores
