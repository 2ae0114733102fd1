mod Crews
mod Gathering
mod Places
mod Sending
mod Steps
mod Tending
