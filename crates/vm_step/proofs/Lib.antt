pub mod Executing
pub mod Stepping
pub mod Paying
pub mod Registers
pub mod Budget
pub mod Going
