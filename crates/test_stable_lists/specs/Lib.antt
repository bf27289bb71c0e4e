pub mod ByNumber
pub mod Finding
