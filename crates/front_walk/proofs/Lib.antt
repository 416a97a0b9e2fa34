mod Cutting
mod Following
mod LineByLine
mod Firing
mod Walking
mod Leaving
mod Giving
