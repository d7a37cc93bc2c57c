mod Fronts
mod Reports
mod Roles
