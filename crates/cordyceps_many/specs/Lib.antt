pub mod Entries
pub mod InOrder
pub mod Marked
pub mod MultiLends
pub mod MultiList
pub mod MultiNodeLends
pub mod Rows
pub mod Threads
