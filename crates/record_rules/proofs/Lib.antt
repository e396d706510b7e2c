mod Asterisks
mod CaaParts
mod Found
mod LabelEnds
mod LabelSteps
mod MailNames
mod TextLists
mod Words
