mod Lists
mod Numbers
mod Firings
mod Rounds
mod Linked
