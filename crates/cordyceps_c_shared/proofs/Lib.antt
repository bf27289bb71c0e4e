mod InboxHandles
mod InboxSent
mod PileHandles
mod PileSent
