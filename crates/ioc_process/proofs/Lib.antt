mod FrameLoop
mod FrameSteps
mod FrameTurns
mod FrameWork
mod Handing
mod InputSteps
mod Needs
pub mod OneLook
mod Ready
mod Turning
mod Writing
