mod Follows
mod HeadReads
mod HeadSteps
mod Keeps
mod Passes
