mod Apart
mod Cutting
mod Fitting
mod Lasts
mod Sending
