mod Parts
mod Feeding
mod Reaching
mod Nexting
mod Buffering
mod Givings
