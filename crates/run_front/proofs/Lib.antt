mod Running
mod Posting
