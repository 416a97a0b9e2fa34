mod DigitLemmas
mod DrawnWords
mod Expressions
mod Limits
mod SoFar
