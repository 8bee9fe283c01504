mod FollowedLists
mod Bases
mod Joins
