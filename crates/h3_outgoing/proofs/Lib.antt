mod Headers
mod Queues
mod Filling
mod HeldFronts
