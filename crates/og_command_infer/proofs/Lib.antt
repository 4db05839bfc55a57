mod Edits
mod Ends
