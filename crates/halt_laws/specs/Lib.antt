pub mod HaltFlagLaws
