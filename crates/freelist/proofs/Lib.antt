pub mod Calls
pub mod Meetings
pub mod Parties
mod Steps
mod ToldGets
pub mod Whereabouts
