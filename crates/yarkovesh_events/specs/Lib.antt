pub mod ExportedEvents
pub mod ExportedEventsLaws
pub mod ExportedEventsUnique
