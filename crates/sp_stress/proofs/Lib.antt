mod Bases
mod ScriptLength
mod Outcomes
