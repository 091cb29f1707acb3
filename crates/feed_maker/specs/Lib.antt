pub mod MadeTables
pub mod Names
pub mod StopTimes
pub mod Files
