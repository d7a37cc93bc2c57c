mod Rebuilt
mod First
