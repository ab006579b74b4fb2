mod SlotLists
mod Events
mod Refusals
mod EditedItems
mod OtherSlots
mod Held
mod MarkerCalls
mod StepCalls
mod OneStatus
mod Statuses
mod GoodCalls
mod Runs
pub mod Laws
pub mod Examples
