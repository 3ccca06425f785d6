mod Order
mod Choice
mod Passed
mod Words
mod Turns
