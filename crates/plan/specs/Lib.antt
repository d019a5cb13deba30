pub mod Plan
pub mod PlanLaws
