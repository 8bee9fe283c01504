pub mod Values
pub mod HandleValues
mod LastKeys
pub mod PagesWritten
