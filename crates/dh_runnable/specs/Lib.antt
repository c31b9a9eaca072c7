pub mod ActionsRun
pub mod ReadyRuns
