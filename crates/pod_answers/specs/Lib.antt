pub mod PodSaid
pub mod PodSaidLaws
