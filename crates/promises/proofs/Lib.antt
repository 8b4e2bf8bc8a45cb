-- demand 1: answers, isolation; that runs exist
pub mod Placing
pub mod Written
pub mod Isolation
pub mod Answers
pub mod Fitting
pub mod Determined
pub mod Undamaged
pub mod Lots
pub mod Exist
pub mod Wrong
pub mod Starred
pub mod StarredAnswered
-- demands 2 and 3: one account over a run
pub mod Answered
pub mod Closes
pub mod Following
pub mod Order
pub mod Rules
pub mod RoundTrips
pub mod Reached
pub mod Worked
pub mod ShutOut
