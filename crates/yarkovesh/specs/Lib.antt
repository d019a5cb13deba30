pub mod Exported
pub mod ExportedPage
pub mod ExportedMend
pub mod ExportedLaws
pub mod ExportedPageLaws
pub mod ExportedUnique
