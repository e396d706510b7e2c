mod CutTexts
mod Digits
