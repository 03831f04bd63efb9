mod Cuts
mod EscapesAgain
mod FilesAgain
mod Ends
mod SavedAgain
mod Quoting
mod Blocks
