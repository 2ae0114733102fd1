mod Placing
mod Polling
mod Ringing
mod Starting
mod Summing
mod Visiting
