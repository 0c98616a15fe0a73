pub mod RunningCells
