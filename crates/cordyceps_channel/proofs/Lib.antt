pub mod Among
pub mod Apart
mod Ending
mod Making
pub mod Missing
mod Placing
mod Received
mod Registering
mod Selecting
mod Taking
mod Telling
pub mod Waiting
