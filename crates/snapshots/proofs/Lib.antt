mod Order
mod LoadLemmas
mod Heads
mod Whole
mod Gates
mod Taken
mod BodyLemmas
mod ReadBack
