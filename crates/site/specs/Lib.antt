-- How a node of the training site is set up, and what its answers come to.
pub mod Setting
pub mod Words
