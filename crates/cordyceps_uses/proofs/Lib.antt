mod Arriving
mod Best
mod ByKey
mod Draining
mod HandedOver
mod Idlest
mod Indexed
mod Ordered
mod Placing
mod Renewing
mod States
mod Tabled
pub mod Turning
mod Written
