mod Answered
mod Laws
mod Parts
mod PlainTexts
mod TinyAnswered
