mod Placing
mod OneUse
mod Refusals
mod Unnamed
