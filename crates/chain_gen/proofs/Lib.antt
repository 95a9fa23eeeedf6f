pub mod Parts
pub mod Beginning
pub mod Headers
pub mod Numbers
pub mod Walking
pub mod Children
pub mod Rewards
pub mod Contents
