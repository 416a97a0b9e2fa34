mod Begun
mod KeyCounts
mod Counting
mod Places
mod Awaiting
mod Once
