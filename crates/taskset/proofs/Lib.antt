mod Bounds
mod Reckoned
mod Steps
mod Replays
mod Figured
mod Left
