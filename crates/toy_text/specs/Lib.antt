pub mod ToyTexts
