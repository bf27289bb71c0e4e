mod Keeping
mod ListHandles
mod ListSent
mod Naming
mod NodeListHandles
