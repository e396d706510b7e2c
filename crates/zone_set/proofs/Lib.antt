pub mod FirstFronts
pub mod FrontsTaken
pub mod Merging
pub mod RunOctets
