pub mod PlanLaws
pub mod SuitedPlans
pub mod OneThread
pub mod NetParts
