mod Lists
mod Coming
mod Noting
mod Stops
mod Counted
mod Alike
