mod EachMark
mod InPlace
mod Overs
mod Ready
mod Puts
mod Meetings
mod PartWants
