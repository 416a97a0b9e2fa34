mod Desks
mod Ends
mod Lists
mod Passes
mod Rounds
