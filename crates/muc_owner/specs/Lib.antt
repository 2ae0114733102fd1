pub mod Invitations
pub mod Inviting
pub mod Owning
