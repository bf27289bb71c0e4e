pub mod Agreeing
pub mod Arranged
pub mod Changing
pub mod Replacing
pub mod StableLending
pub mod Walk
