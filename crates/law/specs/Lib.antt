pub mod Amounts
pub mod Standing
pub mod Refusals
pub mod Calls
pub mod Law
pub mod Telling
pub mod Results
