pub mod FollowedPositions
