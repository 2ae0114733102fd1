mod Octets
mod Rounds
